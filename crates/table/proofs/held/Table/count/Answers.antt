-- `count` meets its contract.
use native.Mathlib.Omega.{arith}
use Rattle.table.proofs.Puts.{long_of}
use Rattle.table.proofs.ListingLaws.{count-few}
use Rattle.table.proofs.held.Table.count.Goals as goal

pub word_at-requires : goal.word_at-requires
word_at-requires c = omega (arith, long_of _ c.self.invariant.holding)

pub returns : goal.returns
returns c = rw (← c.self.view_is) (count-few _ c.self.invariant.holding c.word_at.ensures.0)
