-- `begin_run` meets its contract.
use mathlib.Core.Path.{sym}
use native.Mathlib.Omega.{arith}
use Rattle.link.proofs.BeginningLaws.{begin-short, begin-unknown, begins-refused, begins-fresh}
use Rattle.link.proofs.beginning.begin_run.Goals as goal

pub returns-then-mem-lt-TABLE_BYTES : goal.returns-then-mem-lt-TABLE_BYTES
returns-then-mem-lt-TABLE_BYTES c = begins-refused (begin-short _ _ (omega arith))

pub returns-then-not-is_run : goal.returns-then-not-is_run
returns-then-not-is_run c = begins-refused (begin-unknown _ _ (omega arith) (sym c.if-not-is_run.ensures))

pub returns : goal.returns
returns c =
    begins-fresh (omega arith) (sym c.if-not-is_run.ensures) c.make_fresh.ensures
