-- Memory that holds a table is the table's encoding, and then what lies behind it.
use Prim.Native.Nat.{ℕ, zero, suc, ◌+◌, ◌-◌, ◌*◌, ◌≤◌, ◌<◌}
use mathlib.Core.Path.{◌≡◌, refl, sym, ap, ◌∙◌}
use mathlib.Core.List.{List, [], ◌∷◌, ◌++◌, append_assoc}
use mathlib.Core.Bool.{true}
use native.Mathlib.Omega.{arith}
use native.Mathlib.Nat.{not-suc-le-zero, le_of_suc-le-suc, suc-sub-suc, sub-zero}
use native.Mathlib.Numerals.{towards_suc}
use lib.ListN.{length, get_or, take, drop, take-append-drop, length-append}
use lib.Seq.{drop-cons, drop-drop, take_at, drop_at}
use lib.Arith.{digits_div, digits_mod}
use Rattle.table.specs.Entries.{Entry}
use Rattle.paths.specs.Components.{Bytes}
use Rattle.table.specs.Tables.{Table, path_bytes}
use Rattle.table.specs.Memory.{
  table_head,
  entry_head,
  switches_at,
  marks_at,
  length_offset,
  word_at,
  len_at,
  next_at,
  entry_at,
  entries_at,
  offset_at,
  table_of,
  holds,
  head_bytes,
  encode_entry,
  encode_all,
  encode,
}
use Rattle.table.specs.Reading.{Rest}
use Rattle.table.proofs.Within.{held, Here, rest-start, here-suc, rest-suc, rest-take, rest-drop, length-path, length-entries, number-kind}

-- ---- encodings

pub length-encode_entry : (e : Entry) → length (encode_entry e) ≡ length e.path + entry_head
unfolding encode_entry
length-encode_entry e = omega arith

pub length-encode_all : (es : List Entry) → length (encode_all es) ≡ entry_head * length es + path_bytes es
unfolding encode_all path_bytes
length-encode_all [] = refl
length-encode_all (e ∷ es) = simp length-append (omega (arith, length-encode_entry e, length-encode_all es))

pub length-encode : (t : Table) → length (encode t) ≡ table_head + entry_head * length t.entries + path_bytes t.entries
unfolding encode
length-encode t = omega (arith, length-encode_all t.entries)

pub encode_all-append : (a b : List Entry) → encode_all (a ++ b) ≡ encode_all a ++ encode_all b
unfolding encode_all
encode_all-append [] b = refl
encode_all-append (e ∷ a) b =
    ap (λ (l : List ℕ). encode_entry e ++ l) (encode_all-append a b) ∙ sym (append_assoc (encode_entry e) (encode_all a) (encode_all b))

-- a table's encoding from its parts
pub head_of : (t : Table) (n : ℕ) (l : List ℕ) (a b : ℕ) → length t.entries ≡ n → encode_all t.entries ≡ l
    → t.switches ≡ a → t.marks ≡ b → encode t ≡ head_bytes n a b ++ l
unfolding encode
head_of t n l a b p q u v = rw (p, q, u, v)

-- ---- entries in memory

entry-split : (m : List ℕ) (at : ℕ) → at + entry_head ≤ length m
    → drop at m ≡ get_or m at 0 ∷ get_or m (at + length_offset) 0 ∷ get_or m (at + length_offset + 1) 0 ∷ drop (at + entry_head) m
entry-split m at h =
    simp towards_suc
    (drop-cons m at 0 (omega arith)
    ∙ ap (λ (l : List ℕ). get_or m at 0 ∷ l)
    (drop-cons m (suc at) 0 (omega arith) ∙ ap (λ (l : List ℕ). get_or m (suc at) 0 ∷ l) (drop-cons m (suc (suc at)) 0 (omega arith))))

-- the bytes from an entry on are that entry's, and those from the next entry on
pub entry-law : (m : List ℕ) (at : ℕ) → get_or m (at + length_offset + 1) 0 < 256 → Here m at
    → drop at m ≡ encode_entry (entry_at m at) ++ drop (next_at m at) m
unfolding encode_entry
entry-law m at low h =
    entry-split m at (omega arith)
    ∙ simp (
      number-kind (get_or m at 0) h.kind,
      length-path m at h.inside,
      digits_div (get_or m (at + length_offset) 0) low,
      digits_mod (get_or m (at + length_offset) 0) low,
    )
    (ap (λ (l : List ℕ). get_or m at 0 ∷ get_or m (at + length_offset) 0 ∷ get_or m (at + length_offset + 1) 0 ∷ l)
    (sym (take-append-drop (len_at m at) (drop (at + entry_head) m))
    ∙ ap (λ (l : List ℕ). take (len_at m at) (drop (at + entry_head) m) ++ l) (drop-drop (len_at m at) (at + entry_head) m)))

-- n entries from `at` on are their encodings, and then comes what lies behind them
pub entries-law : (m : List ℕ) (n at : ℕ) → Bytes m → Rest m n at
    → drop at m ≡ encode_all (entries_at m n at) ++ drop (offset_at m n at) m
unfolding encode_all entries_at offset_at
entries-law m zero at b r = refl
entries-law m (suc n) at b r =
    entry-law m at (b.each (at + length_offset + 1)) (here-suc r)
    ∙ ap (λ (l : List ℕ). encode_entry (entry_at m at) ++ l) (entries-law m n (next_at m at) b (rest-suc r))
    ∙ sym (append_assoc (encode_entry (entry_at m at)) (encode_all (entries_at m n (next_at m at))) (drop (offset_at m n (next_at m at)) m))

-- where n entries end
pub entries-size : (m : List ℕ) (n at : ℕ) → Rest m n at → offset_at m n at ≡ at + length (encode_all (entries_at m n at))
unfolding encode_all entries_at offset_at
entries-size m zero at r = omega arith
entries-size m (suc n) at r =
    simp length-append
    (omega (
      arith,
      entries-size m n (next_at m at) (rest-suc r),
      length-encode_entry (entry_at m at),
      length-path m at (here-suc r).inside,
    ))

-- the first k of n entries, and those behind them
pub entries-split : (m : List ℕ) (k n at : ℕ) → k ≤ n
    → entries_at m n at ≡ entries_at m k at ++ entries_at m (n - k) (offset_at m k at)
unfolding entries_at offset_at
entries-split m zero n at h = ap (λ (j : ℕ). entries_at m j at) (sym (sub-zero n))
entries-split m (suc k) zero at h = absurd (not-suc-le-zero h)
entries-split m (suc k) (suc n) at h =
    ap (λ (l : List Entry). entry_at m at ∷ l)
    (entries-split m k n (next_at m at) (le_of_suc-le-suc h)
    ∙ ap (λ (j : ℕ). entries_at m k (next_at m at) ++ entries_at m j (offset_at m k (next_at m at))) (sym (suc-sub-suc n k)))

pub offset-split : (m : List ℕ) (k n at : ℕ) → k ≤ n → offset_at m n at ≡ offset_at m (n - k) (offset_at m k at)
unfolding offset_at
offset-split m zero n at h = ap (λ (j : ℕ). offset_at m j at) (sym (sub-zero n))
offset-split m (suc k) zero at h = absurd (not-suc-le-zero h)
offset-split m (suc k) (suc n) at h =
    offset-split m k n (next_at m at) (le_of_suc-le-suc h)
    ∙ ap (λ (j : ℕ). offset_at m j (offset_at m k (next_at m at))) (sym (suc-sub-suc n k))

-- the k-th of n entries
pub entry-nth : (m : List ℕ) (k n at : ℕ) (d : Entry) → k < n → get_or (entries_at m n at) k d ≡ entry_at m (offset_at m k at)
unfolding entries_at offset_at
entry-nth m k zero at d h = absurd (not-suc-le-zero h)
entry-nth m zero (suc n) at d h = refl
entry-nth m (suc k) (suc n) at d h = entry-nth m k n (next_at m at) d (le_of_suc-le-suc h)

-- ---- the entries of the table that memory says

module _ (m : List ℕ) (k : ℕ) (le : k ≤ word_at m 0) where
  pub take-entries : take k (table_of m).entries ≡ entries_at m k table_head
  unfolding table_of
  take-entries = ap (take k) (entries-split m k (word_at m 0) table_head le) ∙ take_at (entries_at m k table_head) _ k (length-entries m k table_head)

  pub drop-entries : drop k (table_of m).entries ≡ entries_at m (word_at m 0 - k) (offset_at m k table_head)
  unfolding table_of
  drop-entries = ap (drop k) (entries-split m k (word_at m 0) table_head le) ∙ drop_at (entries_at m k table_head) _ k (length-entries m k table_head)

-- the bytes before the entries one by one, and then l
abbrev pub after_head : List ℕ → List ℕ → List ℕ
after_head m l = get_or m 0 0 ∷ get_or m 1 0 ∷ get_or m switches_at 0 ∷ get_or m marks_at 0 ∷ l

head-split : (m : List ℕ) → table_head ≤ length m → m ≡ after_head m (drop table_head m)
head-split m h =
    drop-cons m 0 0 (omega arith)
    ∙ ap (λ (l : List ℕ). get_or m 0 0 ∷ l)
    (drop-cons m 1 0 (omega arith)
    ∙ ap (λ (l : List ℕ). get_or m 1 0 ∷ l)
    (drop-cons m switches_at 0 (omega arith) ∙ ap (λ (l : List ℕ). get_or m switches_at 0 ∷ l) (drop-cons m marks_at 0 (omega arith))))

module _ (m : List ℕ) (bytes : Bytes m) (h : holds m ≡ true) (k : ℕ) (le : k ≤ word_at m 0) where
  -- memory up to the k-th entry
  pub front : take (offset_at m k table_head) m ≡ after_head m (encode_all (entries_at m k table_head))
  front =
      let r : Rest m k table_head = rest-take m k (word_at m 0) table_head le (rest-start m h) in
      let H : List ℕ = after_head m (encode_all (entries_at m k table_head)) in
      let whole : m ≡ H ++ drop (offset_at m k table_head) m =
      head-split m (omega (arith, (held m h).long))
      ∙ ap (after_head m) (entries-law m k table_head bytes r)
      in
      let size : length H ≡ offset_at m k table_head = omega (arith, entries-size m k table_head r) in
      ap (take (offset_at m k table_head)) whole ∙ take_at H (drop (offset_at m k table_head) m) (offset_at m k table_head) size

  -- memory from the k-th entry to the end of the entries
  pub tail : take (offset_at m (word_at m 0) table_head - offset_at m k table_head) (drop (offset_at m k table_head) m)
      ≡ encode_all (entries_at m (word_at m 0 - k) (offset_at m k table_head))
  tail =
      let n = word_at m 0 in
      let at = offset_at m k table_head in
      let r : Rest m (n - k) at = rest-drop m k n table_head le (rest-start m h) in
      let E = encode_all (entries_at m (n - k) at) in
      let size : length E ≡ offset_at m n table_head - at = omega (arith, entries-size m (n - k) at r, offset-split m k n table_head le) in
      ap (take (offset_at m n table_head - at)) (entries-law m (n - k) at bytes r) ∙ take_at E _ _ size
