-- The laws that carry everything above: memory that holds a table is `put` of it, and memory that is `put` of a table within
-- its limits holds that table. Callers cite these and open neither `encode` nor `holds`.
use Prim.Native.Nat.{ℕ, ◌+◌, ◌≤◌, ◌<◌}
use mathlib.Core.Path.{◌≡◌, refl, sym, ap, ◌∙◌}
use mathlib.Core.List.{List}
use mathlib.Core.Bool.{true, ◌&&◌}
use native.Mathlib.Omega.{arith}
use native.Mathlib.Nat.{div-add-mod'}
use lib.ListN.{length, get_or, take, drop, length-append, length-drop, take-append-drop}
use lib.Arith.{digits_div, digits_mod}
use lib.Dec.{leb, ltb}
use borrow.Author.Tests.{leb-true, ltb-true, le-leb}
use Rattle.table.specs.Entries.{Entry}
use Rattle.table.specs.declared.Place.{Place}
use Rattle.table.specs.declared.Place.TheVariants.{Found, At}
use Rattle.table.specs.Placing.{placed_at}
use Rattle.table.specs.Tables.{Table, max_entries, max_path_bytes, path_bytes, is_entry, present, is_table}
use Rattle.table.specs.Acts.{inserted_by, adds, has_room}
use Rattle.table.specs.Memory.{table_head, table_bytes, word_at, entries_at, offset_at, table_of, are_within, holds, head_bytes, encode, put}
use Rattle.table.proofs.TableLaws.{valid-parts, parts-valid, length_more, path-more, every_more, marks-more, marks-present}
use Rattle.table.proofs.Within.{held, rest-start, length-entries}
use Rattle.table.proofs.Codec.{head_of, length-encode, entries-size, front}
use Rattle.table.proofs.Readback.{entries-read, entries-within}
use Rattle.paths.specs.Components.{Bytes}
use Rattle.paths.proofs.ComponentLaws.{and_left, and_right}

-- ---- memory that holds a table

pub count_of : (m : List ℕ) → length (table_of m).entries ≡ word_at m 0
unfolding table_of
count_of m = length-entries m (word_at m 0) table_head

pub long_of : (m : List ℕ) → holds m ≡ true → table_bytes ≤ length m
long_of m h = (held m h).long

-- its table is within the limits
pub valid-of : (m : List ℕ) → holds m ≡ true → is_table (table_of m) ≡ true
unfolding holds
valid-of m e = and_right (leb table_bytes (length m) && are_within m (word_at m 0) table_head) _ e

module _ (m : List ℕ) (bytes : Bytes m) (h : holds m ≡ true) where
  -- its table stands at its start
  pub encode-front : encode (table_of m) ≡ take (offset_at m (word_at m 0) table_head) m
  unfolding table_of
  encode-front =
      head_of (table_of m) (word_at m 0) _ _ _ (length-entries m (word_at m 0) table_head) refl refl refl
      ∙ rw (digits_div (get_or m 0 0) (bytes.each 1), digits_mod (get_or m 0 0) (bytes.each 1)) (sym (front m bytes h (word_at m 0) (omega arith)))

  pub length-encoded : length (encode (table_of m)) ≡ offset_at m (word_at m 0) table_head
  unfolding encode table_of
  length-encoded = omega (arith, entries-size m (word_at m 0) table_head (rest-start m h))

  -- it is `put` of its table
  pub put_self : put (table_of m) m ≡ m
  unfolding put
  put_self = rw (length-encoded, encode-front) (take-append-drop (offset_at m (word_at m 0) table_head) m)

-- ---- memory that a table was put into

module _ (t : Table) (m : List ℕ) where
  count-put : word_at (put t m) 0 ≡ length t.entries
  unfolding put encode
  count-put = div-add-mod' (length t.entries) 256

  pub table_of-put : table_of (put t m) ≡ t
  unfolding table_of put encode
  table_of-put =
      let n = length t.entries in
      let es : entries_at (put t m) (word_at (put t m) 0) table_head ≡ t.entries =
      ap (λ (k : ℕ). entries_at (put t m) k table_head) count-put
      ∙ entries-read (put t m) (head_bytes n t.switches t.marks) t.entries (drop (length (encode t)) m) table_head refl refl
      in
      λ i. record { entries = es i; switches = t.switches; marks = t.marks }

  within-put : are_within (put t m) (length t.entries) table_head ≡ true
  unfolding put encode
  within-put =
      let n = length t.entries in
      entries-within (put t m) (head_bytes n t.switches t.marks) t.entries (drop (length (encode t)) m) table_head refl refl

  pub length-put : length (encode t) ≤ length m → length (put t m) ≡ length m
  unfolding put
  length-put h = simp (length-append, length-drop) (omega arith)

-- a table within its limits fits
pub encode-fits : (t : Table) → is_table t ≡ true → length (encode t) ≤ table_bytes
encode-fits t e = omega (arith, length-encode t, valid-parts t e)

pub holds-put : (t : Table) (m : List ℕ) → is_table t ≡ true → table_bytes ≤ length m → holds (put t m) ≡ true
unfolding holds
holds-put t m e long =
    let same : length (put t m) ≡ length m = length-put t m (omega (arith, encode-fits t e)) in
    rw (same, count-put t m, le-leb _ _ long, within-put t m, table_of-put t m) e

-- what memory m' has that a function left, where its contract says that it is `put t m`
pub record Left (m m' : List ℕ) (t : Table) : Type 0 where
  pub holding : holds m' ≡ true
  pub table : table_of m' ≡ t
  pub count : word_at m' 0 ≡ length t.entries
  pub same : length m' ≡ length m

pub left-put : (m m' : List ℕ) (t : Table) → is_table t ≡ true → table_bytes ≤ length m → m' ≡ put t m → Left m m' t
left-put m m' t e long q = record {
  holding = rw q (holds-put t m e long);
  table = rw q (table_of-put t m);
  count = rw q (count-put t m);
  same = rw q (length-put t m (omega (arith, encode-fits t e)));
}

-- ---- an insert

-- there is room for an entry
pub record HasRoom (t : Table) (e : Entry) : Type 0 where
  pub few : length t.entries < max_entries
  pub bytes : path_bytes t.entries + length e.path ≤ max_path_bytes

pub room-parts : (t : Table) (e : Entry) → has_room t e ≡ true → HasRoom t e
unfolding has_room
room-parts t e h =
    let a = ltb (length t.entries) max_entries in
    record { few = ltb-true _ _ (and_left a _ h); bytes = leb-true _ _ (and_right a _ h) }

-- an entry that is found leaves the limits kept
pub table-found : (t : Table) (e : Entry) → is_table t ≡ true → present e.kind t.entries ≡ true
    → is_table (inserted_by Found t e) ≡ true
unfolding inserted_by placed_at
table-found t e v p =
    let old = valid-parts t v in
    parts-valid (inserted_by Found t e) (record {
      few = old.few;
      bytes = old.bytes;
      each = old.each;
      switches = old.switches;
      marks = rw old.marks (marks-present e.kind t.entries p);
    })

-- and so does one that is added where there is room
pub table-added : (k : ℕ) (t : Table) (e : Entry) → is_table t ≡ true → is_entry e ≡ true → has_room t e ≡ true
    → is_table (inserted_by (At k) t e) ≡ true
unfolding inserted_by placed_at
table-added k t e v w h =
    let old = valid-parts t v in
    let R = room-parts t e h in
    parts-valid (inserted_by (At k) t e) (record {
      few = omega (arith, length_more k t.entries e, R.few);
      bytes = omega (arith, path-more k t.entries e, R.bytes);
      each = every_more k t.entries e is_entry old.each w;
      switches = old.switches;
      marks = rw old.marks (sym (marks-more k t.entries e));
    })

-- whatever the place: an entry of the kind is present where the new one is found, and there is room where it is added
pub table-inserted : (where_to : Place) (t : Table) (e : Entry) → is_table t ≡ true → is_entry e ≡ true
    → (where_to ≡ Found → present e.kind t.entries ≡ true) → (adds where_to ≡ true → has_room t e ≡ true)
    → is_table (inserted_by where_to t e) ≡ true
unfolding adds
table-inserted Found t e v w p h = table-found t e v (p refl)
table-inserted (At k) t e v w p h = table-added k t e v w (h refl)

-- how many entries there are with one entry more
pub length_inserted : (k : ℕ) (t : Table) (e : Entry) → length (inserted_by (At k) t e).entries ≡ length t.entries + 1
unfolding inserted_by placed_at
length_inserted k t e = length_more k t.entries e
