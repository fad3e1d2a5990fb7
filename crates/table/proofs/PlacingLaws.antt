-- Laws of the search: it is the scope's loop, and it ends inside the list.
use Prim.Native.Nat.{ℕ, zero, suc, ◌+◌, ◌-◌, ◌/◌, ◌≤◌, ◌<◌}
use mathlib.Core.Path.{◌≡◌, refl, sym, ◌∙◌}
use mathlib.Core.List.{List}
use mathlib.Core.Bool.{Bool, true, false, cond}
use native.Mathlib.Omega.{arith}
use native.Mathlib.Decide.{dec_lt}
use lib.ListN.{get_or}
use borrow.Author.Tests.{le-leb, lt-leb}
use Rattle.table.specs.Entries.{Entry, compare}
use Rattle.table.specs.Placing.{is_after, search_from}

module _ (entries : List Entry) (new : Entry) where
  -- where the base moves in a turn
  abbrev pub moved : ℕ → ℕ → ℕ
  moved base size = cond (is_after (compare (get_or entries (base + size / 2) new) new)) base (base + size / 2)

  -- size is at most 1: the search is over
  pub search-done : (turns base size : ℕ) → size ≤ 1 → search_from entries new turns base size ≡ base
  unfolding search_from
  search-done zero base size h = refl
  search-done (suc turns) base size h = rw (le-leb size 1 h)

  no-turn : (base size : ℕ) → search_from entries new zero base size ≡ base
  unfolding search_from
  no-turn base size = refl

  turn : (turns base size : ℕ) → 1 < size
      → search_from entries new (suc turns) base size ≡ search_from entries new turns (moved base size) (size - size / 2)
  unfolding search_from
  turn turns base size h = rw (lt-leb size 1 h)

  over-or-turn : (turns turns' base size : ℕ)
      → search_from entries new turns (moved base size) (size - size / 2) ≡ search_from entries new turns' (moved base size) (size - size / 2)
      → Dec (1 < size) → search_from entries new (suc turns) base size ≡ search_from entries new (suc turns') base size
  over-or-turn turns turns' base size e (yes h) = turn turns base size h ∙ e ∙ sym (turn turns' base size h)
  over-or-turn turns turns' base size e (no h) =
      search-done (suc turns) base size (omega arith) ∙ sym (search-done (suc turns') base size (omega arith))

  -- any bound on the turns from size on gives the same
  pub search-bound : (turns turns' base size : ℕ) → size ≤ suc turns → size ≤ suc turns'
      → search_from entries new turns base size ≡ search_from entries new turns' base size
  search-bound zero turns' base size h h' = search-done zero base size h ∙ sym (search-done turns' base size h)
  search-bound (suc turns) zero base size h h' = search-done (suc turns) base size h' ∙ sym (search-done zero base size h')
  search-bound (suc turns) (suc turns') base size h h' =
      over-or-turn turns turns' base size
      (search-bound turns turns' (moved base size) (size - size / 2) (omega arith) (omega arith))
      (dec_lt 1 size)

  -- size exceeds 1: one turn of the loop
  pub search-turn : (turns base size : ℕ) → 1 < size → size ≤ suc turns
      → search_from entries new turns base size ≡ search_from entries new turns (moved base size) (size - size / 2)
  search-turn turns base size h k =
      search-bound turns (suc turns) base size k (omega arith) ∙ turn turns base size h

  either-half : (later : Bool) (base half : ℕ) → cond later base (base + half) ≤ base + half
  either-half true base half = omega arith
  either-half false base half = omega arith

  -- the search ends at a place of the list
  pub search-inside : (turns base size : ℕ) → 0 < size → search_from entries new turns base size < base + size
  search-inside zero base size h = rw (no-turn base size) (omega arith)
  search-inside (suc turns) base size h = go (search-inside turns (moved base size) (size - size / 2) (omega arith)) (dec_lt 1 size)
    where
      go : search_from entries new turns (moved base size) (size - size / 2) < moved base size + (size - size / 2) → Dec (1 < size)
          → search_from entries new (suc turns) base size < base + size
      go k (yes l) = rw (turn turns base size l) (omega (arith, either-half (is_after (compare (get_or entries (base + size / 2) new) new)) base (size / 2)))
      go k (no l) = rw (search-done (suc turns) base size (omega arith)) (omega arith)
