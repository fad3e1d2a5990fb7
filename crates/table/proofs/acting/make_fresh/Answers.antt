-- `make_fresh` meets its contract: the head that it writes is a fresh table.
use native.Mathlib.Omega.{arith}
use Rattle.table.proofs.CallLaws.{makes_none, makes-fresh}
use Rattle.table.proofs.acting.make_fresh.Goals as goal

pub returns-then-mem-lt-TABLE_BYTES : goal.returns-then-mem-lt-TABLE_BYTES
returns-then-mem-lt-TABLE_BYTES c = makes_none (omega arith)

pub returns : goal.returns
returns c = makes-fresh (omega arith) c.write_head.ensures
