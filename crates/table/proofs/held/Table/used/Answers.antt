-- `used` meets its contract: a table ends where its entries end.
use native.Mathlib.Omega.{arith}
use Rattle.table.proofs.Puts.{long_of}
use Rattle.table.proofs.ListingLaws.{used-end}
use Rattle.table.proofs.held.Table.used.Goals as goal

pub word_at-requires : goal.word_at-requires
word_at-requires c = omega (arith, long_of _ c.self.invariant.holding)

pub returns : goal.returns
returns c =
    rw (← c.self.view_is) (used-end _ c.self.invariant.bytes c.self.invariant.holding c.word_at.ensures.0 c.entry_offset.ensures)
