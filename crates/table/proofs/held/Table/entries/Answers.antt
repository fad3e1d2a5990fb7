-- `entries` meets its contract: at the list's start every entry is still to come.
use native.Mathlib.Omega.{arith}
use Rattle.table.specs.Memory.{table_of}
use Rattle.table.proofs.Puts.{long_of, valid-of}
use Rattle.table.proofs.Within.{rest-start}
use Rattle.table.proofs.held.Table.entries.Goals as goal

pub word_at-requires : goal.word_at-requires
word_at-requires c = omega (arith, long_of _ c.self.invariant.holding)

pub invariant_of-result : goal.invariant_of-result
invariant_of-result c = rw c.word_at.ensures.0 (rest-start _ c.self.invariant.holding)

pub returns-clause-list : goal.returns-clause-list
unfolding table_of
returns-clause-list c = rw (← c.self.view_is, c.word_at.ensures.0)

pub returns-clause-limits : goal.returns-clause-limits
returns-clause-limits c = rw (← c.self.view_is) (valid-of _ c.self.invariant.holding)
