-- `entry_at` meets its contract: the entry at a place of the list lies within the memory.
use Prim.Native.Nat.{◌≤◌}
use native.Mathlib.Omega.{arith}
use lib.ListN.{length}
use Rattle.table.specs.Listing.{listed_at}
use Rattle.table.specs.Memory.{next_at}
use Rattle.table.proofs.ListingLaws.{place_inside, listed_here, listed-none}
use Rattle.table.proofs.listing.entry_at.Goals as goal
use Rattle.table.proofs.listing.entry_at.Goals.{After-entry_offset-at}

inside : (c : After-entry_offset-at) → next_at c.args.mem.now c.entry_offset-at.result ≤ length c.args.mem.now
inside c = place_inside _ c.requires _ c.word_at.ensures.0 c.entry_offset-at.ensures (omega arith)

pub returns-then-place-word_at : goal.returns-then-place-word_at
returns-then-place-word_at c = listed-none _ _ c.word_at.ensures.0 (omega arith)

pub bounds-mem-at : goal.bounds-mem-at
bounds-mem-at c = omega (arith, inside (goal.at.bounds-mem-at c).After-entry_offset-at)

pub overflow_add-result : goal.overflow_add-result
overflow_add-result c = omega (arith, inside (goal.at.overflow_add-result c).After-entry_offset-at)

pub overflow_add-at : goal.overflow_add-at
overflow_add-at c = omega (arith, inside (goal.at.overflow_add-at c).After-entry_offset-at)

pub word_at-requires-2 : goal.word_at-requires-2
word_at-requires-2 c = omega (arith, inside (goal.at.word_at-requires-2 c).After-entry_offset-at)

pub returns : goal.returns
unfolding listed_at
returns c =
    rw (c.kind_from.ensures, c.word_at-2.ensures.0)
    (listed_here _ c.requires _ c.word_at.ensures.0 c.entry_offset-at.ensures (omega arith))
