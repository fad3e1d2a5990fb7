-- The stores of an insert put the table with the entry at its place and its mark set.
use Prim.Native.Nat.{ℕ, ◌+◌, ◌-◌, ◌≤◌, ◌<◌}
use mathlib.Core.Path.{◌≡◌, refl, sym, ap, ◌∙◌}
use mathlib.Core.List.{List, ◌∷◌, ◌++◌}
use mathlib.Core.Bool.{true}
use native.Mathlib.Omega.{arith}
use lib.ListN.{length, get_or, set, take, drop}
use Rattle.paths.specs.Components.{Bytes}
use Rattle.paths.specs.Copying.{overwrite}
use Rattle.table.specs.Entries.{Entry}
use Rattle.table.specs.declared.Place.TheVariants.{Found, At}
use Rattle.table.specs.Placing.{placed_at}
use Rattle.table.specs.Tables.{marked, max_entries, max_path_bytes, path_bytes}
use Rattle.table.specs.Acts.{inserted_by}
use Rattle.table.specs.Memory.{
  table_head,
  entry_head,
  switches_at,
  marks_at,
  table_bytes,
  word_at,
  entries_at,
  offset_at,
  table_of,
  holds,
  word,
  head_bytes,
  encode_entry,
  encode_all,
  encode,
  put,
}
use Rattle.table.proofs.Within.{held, rest-start, rest-take, rest-drop, length-entries}
use Rattle.table.proofs.Codec.{
  length-encode_entry,
  length-encode_all,
  encode_all-append,
  head_of,
  entries-size,
  offset-split,
  take-entries,
  drop-entries,
  front,
  tail,
}
use Rattle.table.proofs.Overwrites.{over_below, headed}
use Rattle.table.proofs.Puts.{put_self, count_of, length_inserted}

-- a kind's mark alone, whatever the path
pub mark-law : (m : List ℕ) → Bytes m → holds m ≡ true → (e : Entry) (n : ℕ) → n ≡ marked e.kind (get_or m marks_at 0)
    → set m marks_at n ≡ put (inserted_by Found (table_of m) e) m
unfolding put encode inserted_by placed_at table_of
mark-law m b h e n q = rw q (ap (λ (l : List ℕ). set l marks_at (marked e.kind (get_or m marks_at 0))) (sym (put_self m b h)))

-- where the k-th entry and the end of the entries stand, with room for an entry with a path of `more` bytes
pub record Room (m : List ℕ) (k more : ℕ) : Type 0 where
  pub head : table_head ≤ offset_at m k table_head
  pub order : offset_at m k table_head ≤ offset_at m (word_at m 0) table_head
  pub behind : offset_at m (word_at m 0) table_head + entry_head + more ≤ table_bytes
  pub long : table_bytes ≤ length m

pub room : (m : List ℕ) → holds m ≡ true → (k more : ℕ) → k ≤ word_at m 0 → word_at m 0 < max_entries
    → path_bytes (table_of m).entries + more ≤ max_path_bytes → Room m k more
unfolding table_of
room m h k more le few fits =
    let n = word_at m 0 in
    let start = offset_at m k table_head in
    let r = rest-start m h in
    record {
      head = omega (arith, entries-size m k table_head (rest-take m k n table_head le r));
      order = omega (arith, entries-size m (n - k) start (rest-drop m k n table_head le r), offset-split m k n table_head le);
      behind = omega (arith, entries-size m n table_head r, length-encode_all (entries_at m n table_head), length-entries m n table_head);
      long = (held m h).long;
    }

module _ (m : List ℕ) (bytes : Bytes m) (h : holds m ≡ true) (k : ℕ) (le : k ≤ word_at m 0) (e : Entry) where
  tail-inside : Room m k (length e.path)
      → offset_at m k table_head + length (encode_entry e) + length (encode_all (entries_at m (word_at m 0 - k) (offset_at m k table_head))) ≤ length m
  tail-inside R =
      let n = word_at m 0 in
      omega (
        arith,
        length-encode_entry e,
        entries-size m (n - k) (offset_at m k table_head) (rest-drop m k n table_head le (rest-start m h)),
        offset-split m k n table_head le,
        R.behind,
        R.long,
      )

  entries-inserted : encode_all (inserted_by (At k) (table_of m) e).entries
      ≡ encode_all (entries_at m k table_head) ++ (encode_entry e ++ encode_all (entries_at m (word_at m 0 - k) (offset_at m k table_head)))
  unfolding inserted_by placed_at
  entries-inserted =
      rw (take-entries m k le, drop-entries m k le)
      (encode_all-append (entries_at m k table_head) (e ∷ entries_at m (word_at m 0 - k) (offset_at m k table_head)) ∙ unfold encode_all in refl)

  encode-inserted : encode (inserted_by (At k) (table_of m) e)
      ≡ head_bytes (word_at m 0 + 1) (get_or m switches_at 0) (marked e.kind (get_or m marks_at 0))
      ++ (encode_all (entries_at m k table_head) ++ (encode_entry e ++ encode_all (entries_at m (word_at m 0 - k) (offset_at m k table_head))))
  unfolding inserted_by table_of
  encode-inserted =
      let count : length (inserted_by (At k) (table_of m) e).entries ≡ word_at m 0 + 1 =
      omega (arith, length_inserted k (table_of m) e, count_of m)
      in
      head_of (inserted_by (At k) (table_of m) e) _ _ _ _ count entries-inserted refl refl

  -- the entries from the k-th on are moved, then the entry, the count and the mark are written, by the numbers that were Found
  pub insert-steps : (start end n mark : ℕ) (l₁ l₂ l₃ : List ℕ) → Room m k (length e.path)
      → start ≡ offset_at m k table_head → end ≡ offset_at m (word_at m 0) table_head → n ≡ word_at m 0 → mark ≡ marked e.kind (get_or m marks_at 0)
      → l₁ ≡ overwrite m (start + entry_head + length e.path) (take (end - start) (drop start m)) → l₂ ≡ overwrite l₁ start (encode_entry e)
      → l₃ ≡ overwrite l₂ 0 (word (n + 1)) → set l₃ marks_at mark ≡ put (inserted_by (At k) (table_of m) e) m
  unfolding put
  insert-steps start end n mark l₁ l₂ l₃ R a d c b p q r =
      let place : offset_at m k table_head + entry_head + length e.path ≡ offset_at m k table_head + length (encode_entry e) =
      omega (arith, length-encode_entry e)
      in
      rw (r, q, p, a, d, c, b, place, tail m bytes h k le, encode-inserted)
      (ap (λ (l : List ℕ). set l marks_at (marked e.kind (get_or m marks_at 0)))
      (ap (λ (l : List ℕ). overwrite l 0 (word (word_at m 0 + 1))) (over_below m (offset_at m k table_head) (encode_entry e) _ (tail-inside R))
      ∙ headed m _ _ _ _ (offset_at m k table_head) _ _ (front m bytes h k le) (omega (arith, tail-inside R))))
