-- Laws of the functions that place an entry: the search over memory turn by turn, the place that it gives, room, and the insert.
use Rattle.std.specs.Prelude.{Some, Ok, Err}
use Rattle.std.specs.declared.cmp.Ordering.{Ordering}
use Rattle.std.specs.declared.cmp.Ordering.TheVariants.{Less, Equal, Greater}
use Rattle.std.specs.Ordering.{is_le}
use Rattle.refusals.specs.declared.Refusal.TheVariants.{TableFull}
use Prim.Native.Nat.{ℕ, zero, suc, ◌+◌, ◌-◌, ◌*◌, ◌/◌, ◌≤◌, ◌<◌}
use mathlib.Core.Path.{◌≡◌, refl, sym, ap, ◌∙◌}
use mathlib.Core.List.{List, [], ◌∷◌}
use mathlib.Core.Bool.{Bool, true, false, not, cond}
use native.Mathlib.Omega.{arith}
use native.Mathlib.Decide.{dec_lt}
use lib.ListN.{length, get_or}
use lib.Dec.{leb}
use lib.IntN.{ℤ, pos, negsuc}
use borrow.Author.Tests.{le-leb, lt-leb, le-ltb, lt-ltb}
use Rattle.table.specs.declared.Place.TheVariants.{Found, At}
use Rattle.table.specs.Entries.{Entry, compare, order_number}
use Rattle.table.specs.Placing.{is_after, search_from, search, place_by, place}
use Rattle.table.specs.Tables.{max_entries, max_path_bytes, path_bytes}
use Rattle.table.specs.Acts.{insert, act_overflows, inserted_by, inserted, adds, would_add, has_room, overflows, apply_act}
use Rattle.table.specs.Memory.{table_head, entry_head, word_at, next_at, entry_at, entries_at, offset_at, table_of, are_within, holds, put, do_act}
use Rattle.table.specs.Carrying.{CarriesOut}
use Rattle.table.specs.Changing.{SearchEnds}
use Rattle.table.proofs.CarryingLaws.{carries-act, carries-full}
use Rattle.table.proofs.PlacingLaws.{search-done, search-turn, search-inside}
use Rattle.table.proofs.Within.{held, rest-start, rest-take, rest-drop, rest-here, length-entries}
use Rattle.table.proofs.Codec.{length-encode_all, entries-size, offset-split, entry-nth}
use Rattle.table.proofs.Puts.{count_of}

-- ---- a comparison that is not after

after-order : (o : Ordering) {b : Bool} → is_le o ≡ b → is_after (order_number o) ≡ not b
unfolding is_after
after-order Less e = rw (← e)
after-order Equal e = rw (← e)
after-order Greater e = rw (← e)

-- ---- the entry at a place of the list

module _ (m : List ℕ) (k : ℕ) (lt : k < word_at m 0) where
  entry-at : (d : Entry) → get_or (table_of m).entries k d ≡ entry_at m (offset_at m k table_head)
  unfolding table_of
  entry-at d = entry-nth m k (word_at m 0) table_head d lt

  entry-inside : holds m ≡ true → next_at m (offset_at m k table_head) ≤ length m
  entry-inside h = (rest-here (omega arith) (rest-drop m k (word_at m 0) table_head (omega arith) (rest-start m h))).inside

-- ---- the search

-- the search goes on among `size` places from `base` on, and the entry at `base` begins at `at`
pub record Probing (m : List ℕ) (e : Entry) (base at size : ℕ) : Type 0 where
  pub within : base + size ≤ word_at m 0
  pub goes : search (table_of m).entries e ≡ search_from (table_of m).entries e (word_at m 0) base size
  pub begins : at ≡ offset_at m base table_head

pub probing-start : (m : List ℕ) (e : Entry) {n : ℕ} → n ≡ word_at m 0 → Probing m e 0 table_head n
unfolding search offset_at
probing-start m e q = record { within = omega arith; goes = rw (q, count_of m); begins = refl }

pub probing-done : {m : List ℕ} {e : Entry} {base at size : ℕ} → Probing m e base at size → size ≤ 1 → SearchEnds m e base at
probing-done {m} {e} {base} {at} {size} P h = record {
  ends = sym (P.goes ∙ search-done (table_of m).entries e (word_at m 0) base size h);
  begins = P.begins;
}

-- one turn: half is size / 2, and the entry half-way begins at `middle`
module _ {m : List ℕ} {e : Entry} {base at size : ℕ} (P : Probing m e base at size) (more : 1 < size) where
  pub half-within : holds m ≡ true → are_within m (size / 2) at ≡ true
  half-within h =
      let le : base ≤ word_at m 0 = omega arith in
      rw P.begins
      (rest-take m (size / 2) (word_at m 0 - base) (offset_at m base table_head) (omega arith) (rest-drop m base (word_at m 0) table_head le (rest-start m h))).within

  half-offset : {middle : ℕ} → middle ≡ offset_at m (size / 2) at → middle ≡ offset_at m (base + size / 2) table_head
  half-offset q =
      let s : base + size / 2 - base ≡ size / 2 = omega arith in
      q ∙ ap (offset_at m (size / 2)) P.begins ∙ sym (rw s at (offset-split m base (base + size / 2) table_head (omega arith)))

  pub half-inside : {middle : ℕ} → middle ≡ offset_at m (size / 2) at → holds m ≡ true → next_at m middle ≤ length m
  half-inside q h = rw (half-offset q) (entry-inside m (base + size / 2) (omega arith) h)

  half-entry : {middle : ℕ} → middle ≡ offset_at m (size / 2) at → get_or (table_of m).entries (base + size / 2) e ≡ entry_at m middle
  half-entry q = rw (half-offset q) (entry-at m (base + size / 2) (omega arith) e)

  half-goes : (b : Bool) → is_after (compare (get_or (table_of m).entries (base + size / 2) e) e) ≡ b
      → search (table_of m).entries e
      ≡ search_from (table_of m).entries e (word_at m 0) (cond b base (base + size / 2)) (size - size / 2)
  half-goes b q = P.goes ∙ search-turn (table_of m).entries e (word_at m 0) base size more (omega arith) ∙ rw q

  module _ {middle : ℕ} (q : middle ≡ offset_at m (size / 2) at) (o : Ordering) (r : order_number o ≡ compare (entry_at m middle) e) where
    half-after : {b : Bool} → is_le o ≡ b → is_after (compare (get_or (table_of m).entries (base + size / 2) e) e) ≡ not b
    half-after l = rw (half-entry q, ← r) (after-order o l)

    -- the entry there comes after, and the base stays
    pub probing-stays : is_le o ≡ false → Probing m e base at (size - size / 2)
    probing-stays l = record {
      within = omega arith;
      goes = half-goes true (half-after l);
      begins = P.begins;
    }

    -- it does not, and the base moves there
    pub probing-moves : is_le o ≡ true → Probing m e (base + size / 2) middle (size - size / 2)
    probing-moves l = record {
      within = omega arith;
      goes = half-goes false (half-after l);
      begins = half-offset q;
    }

-- ---- the place

pub place_none : (m : List ℕ) (e : Entry) → word_at m 0 ≡ 0 → place (table_of m).entries e ≡ At 0
unfolding table_of place entries_at
place_none m e z = rw z

place-some : (es : List Entry) (e : Entry) → 0 < length es → place es e ≡ place_by (search es e) (compare (get_or es (search es e) e) e)
unfolding place
place-some [] e h = absurd (omega arith)
place-some (x ∷ es) e h = refl

search-below : (es : List Entry) (e : Entry) → 0 < length es → search es e < length es
unfolding search
search-below es e h = omega (arith, search-inside es e (length es) 0 (length es) h)

module _ {m : List ℕ} {e : Entry} {base at : ℕ} (S : SearchEnds m e base at) (some : 0 < word_at m 0) where
  pub base-below : base < word_at m 0
  base-below = omega (arith, S.ends, count_of m, search-below (table_of m).entries e (omega (arith, count_of m)))

  pub base-inside : holds m ≡ true → next_at m at ≤ length m
  base-inside h = rw S.begins (entry-inside m base base-below h)

  pub placed-by : (o : Ordering) → order_number o ≡ compare (entry_at m at) e → place (table_of m).entries e ≡ place_by base (order_number o)
  placed-by o r =
      place-some (table_of m).entries e (omega (arith, count_of m))
      ∙ rw (← S.ends, entry-at m base base-below e, ← S.begins, ← r)

by-inside : (base : ℕ) (x : ℤ) (k : ℕ) → place_by base x ≡ At k → k ≤ base + 1
unfolding place_by
by-inside base (pos zero) k e = let z : ◌≡◌ {A = ℕ} 0 1 = cc in absurd (omega arith)
by-inside base (pos (suc n)) k e = let z : base ≡ k = cc in omega arith
by-inside base (negsuc n) k e = let z : base + 1 ≡ k = cc in omega arith

-- a place is one of the list, or the one behind its last
pub place_inside : (es : List Entry) (e : Entry) {k : ℕ} → place es e ≡ At k → k ≤ length es
place_inside [] e {k} q = unfold place in let z : 0 ≡ k = cc in omega arith
place_inside (x ∷ es) e {k} q =
    omega (
      arith,
      by-inside (search (x ∷ es) e) _ k (sym (place-some (x ∷ es) e (omega arith)) ∙ q),
      search-below (x ∷ es) e (omega arith),
    )

-- ---- room

module _ (m : List ℕ) (h : holds m ≡ true) where
  -- where the entries end, by their count and path bytes
  entries-end : offset_at m (word_at m 0) table_head ≡ table_head + entry_head * word_at m 0 + path_bytes (table_of m).entries
  unfolding table_of
  entries-end =
      let n = word_at m 0 in
      omega (arith, entries-size m n table_head (rest-start m h), length-encode_all (entries_at m n table_head), length-entries m n table_head)

  pub ended : {n end : ℕ} → n ≡ word_at m 0 → end ≡ offset_at m n table_head → end ≡ table_head + entry_head * n + path_bytes (table_of m).entries
  ended q r = r ∙ rw q entries-end

  pub path-limit : path_bytes (table_of m).entries ≤ max_path_bytes
  unfolding table_of
  path-limit = (held m h).bytes

pub room-full : (m : List ℕ) (e : Entry) {n : ℕ} → n ≡ word_at m 0 → max_entries ≤ n → has_room (table_of m) e ≡ false
unfolding has_room
room-full m e q h = rw (le-ltb (length (table_of m).entries) max_entries (omega (arith, count_of m)))

leb-moved : (a b c : ℕ) → a ≤ c → leb (a + b) c ≡ leb b (c - a)
leb-moved a b c h = go (dec_lt c (a + b))
  where
    go : Dec (c < a + b) → leb (a + b) c ≡ leb b (c - a)
    go (yes l) = lt-leb (a + b) c l ∙ sym (lt-leb b (c - a) (omega arith))
    go (no l) = le-leb (a + b) c (omega arith) ∙ sym (le-leb b (c - a) (omega arith))

-- fewer entries than the limit: the path bytes decide
pub room_by : (m : List ℕ) (e : Entry) {n end len : ℕ} → n ≡ word_at m 0 → n < max_entries
    → end ≡ table_head + entry_head * n + path_bytes (table_of m).entries → path_bytes (table_of m).entries ≤ max_path_bytes → length e.path ≡ len
    → has_room (table_of m) e ≡ leb len (max_path_bytes - (end - table_head - entry_head * n))
unfolding has_room
room_by m e {n} {end} {len} q h b l p =
    let bytes : end - table_head - entry_head * n ≡ path_bytes (table_of m).entries = omega arith in
    rw (lt-ltb (length (table_of m).entries) max_entries (omega (arith, count_of m)), bytes, p)
    (leb-moved (path_bytes (table_of m).entries) len max_path_bytes l)

-- ---- the insert

module _ (m : List ℕ) (e : Entry) where
  pub inserts-found : {m' : List ℕ} → place (table_of m).entries e ≡ Found → m' ≡ put (inserted_by Found (table_of m) e) m
      → CarriesOut (Some (insert e)) m m' (Ok tt)
  unfolding act_overflows overflows would_add adds apply_act inserted do_act
  inserts-found p q = carries-act refl (rw p) (rw p q)

  pub inserts-full : {k : ℕ} → place (table_of m).entries e ≡ At k → has_room (table_of m) e ≡ false → CarriesOut (Some (insert e)) m m (Err TableFull)
  unfolding act_overflows overflows would_add adds
  inserts-full p h = carries-full (rw (p, h))

  pub inserts-added : {k : ℕ} {m' : List ℕ} → place (table_of m).entries e ≡ At k → has_room (table_of m) e ≡ true
      → m' ≡ put (inserted_by (At k) (table_of m) e) m → CarriesOut (Some (insert e)) m m' (Ok tt)
  unfolding act_overflows overflows would_add adds apply_act inserted do_act
  inserts-added p h q = carries-act refl (rw (p, h)) (rw p q)
