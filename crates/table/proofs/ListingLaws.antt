-- Laws of a listing: what it says is the table's, and the bytes that a table takes are the table.
use Rattle.std.specs.Prelude.{None, Some}
use Prim.Native.Nat.{ℕ, ◌+◌, ◌≤◌, ◌<◌}
use mathlib.Core.Path.{◌≡◌, refl, sym, ap, ◌∙◌}
use mathlib.Core.List.{List, ◌++◌}
use mathlib.Core.Bool.{true}
use native.Mathlib.Omega.{arith}
use lib.ListN.{length, take, drop, get_or}
use borrow.Author.Tests.{lt-ltb, le-ltb}
use Rattle.paths.specs.Components.{Bytes}
use Rattle.table.specs.Entries.{Entry}
use Rattle.table.specs.Tables.{max_entries}
use Rattle.table.specs.Memory.{table_head, entry_head, table_bytes, word_at, next_at, offset_at, table_of, holds, encode, put}
use Rattle.table.specs.Listing.{used_bytes, listed_at, listed}
use Rattle.table.proofs.Within.{held, rest-start, rest-drop, rest-here, length-path}
use Rattle.table.proofs.Codec.{entry-nth}
use Rattle.table.proofs.Puts.{count_of, valid-of, encode-front, length-encoded, encode-fits, table_of-put}

-- ---- what a table takes

module _ (m : List ℕ) (b : Bytes m) (h : holds m ≡ true) where
  -- it ends where its entries end
  pub used-end : {n end : ℕ} → n ≡ word_at m 0 → end ≡ offset_at m n table_head → (end ≡ used_bytes (table_of m)) × (end ≤ table_bytes)
  unfolding used_bytes
  used-end {n} {end} e f =
      let same : end ≡ length (encode (table_of m)) = f ∙ ap (λ (k : ℕ). offset_at m k table_head) e ∙ sym (length-encoded m b h) in
      (same, omega (arith, same, encode-fits (table_of m) (valid-of m h)))

  -- its bytes are the table's encoding, and nothing else
  pub used-front : take (used_bytes (table_of m)) m ≡ encode (table_of m)
  unfolding used_bytes
  used-front = rw (length-encoded m b h) (sym (encode-front m b h))

-- two memories whose tables take the same bytes hold the same table
pub used-same : (m m' : List ℕ) → Bytes m → Bytes m' → holds m ≡ true → holds m' ≡ true
    → take (used_bytes (table_of m)) m ≡ take (used_bytes (table_of m')) m' → table_of m ≡ table_of m'
unfolding put
used-same m m' b b' h h' e =
    let same : encode (table_of m) ≡ encode (table_of m') = sym (used-front m b h) ∙ e ∙ used-front m' b' h' in
    sym (table_of-put (table_of m) m) ∙ ap (λ (s : List ℕ). table_of (s ++ drop (length s) m)) same ∙ table_of-put (table_of m') m

-- ---- the entry at a place

pub count-few : (m : List ℕ) → holds m ≡ true → {n : ℕ} → n ≡ word_at m 0 → (n ≡ length (table_of m).entries) × (n ≤ max_entries)
count-few m h e = (e ∙ sym (count_of m), omega (arith, e, (held m h).few))

pub listed-none : (m : List ℕ) (place : ℕ) {count : ℕ} → count ≡ word_at m 0 → count ≤ place → None ≡ listed m place
unfolding listed
listed-none m place e p = rw (count_of m, ← e, le-ltb _ _ p)

-- the entry at a place before the list's end begins at an offset
module _ (m : List ℕ) (h : holds m ≡ true) (place : ℕ) {count at : ℕ} (e : count ≡ word_at m 0) (f : at ≡ offset_at m place table_head) (p : place < count) where
  -- it lies within the memory
  pub place_inside : next_at m at ≤ length m
  place_inside = rw f (rest-here (omega (arith, e)) (rest-drop m place (word_at m 0) table_head (omega (arith, e)) (rest-start m h))).inside

  pub listed_here : Some (listed_at m at) ≡ listed m place
  unfolding listed
  listed_here = rw (f, count_of m, ← e, lt-ltb _ _ p)

-- what is said of a place is the entry e there, and its path stands within the memory
pub record Lists (m : List ℕ) (place : ℕ) (e : Entry) : Type 0 where
  pub start : ℕ
  pub says : listed m place ≡ Some (record { kind = e.kind; at = start; size = length e.path })
  pub bytes : take (length e.path) (drop start m) ≡ e.path
  pub inside : start + length e.path ≤ length m

pub listed-entry : (m : List ℕ) → holds m ≡ true → (place : ℕ) (d : Entry) → place < length (table_of m).entries
    → Lists m place (get_or (table_of m).entries place d)
unfolding listed_at table_of
listed-entry m h place d p =
    let before : place < word_at m 0 = omega (arith, count_of m) in
    let at = offset_at m place table_head in
    let size = length-path m at (place_inside m h place refl refl before) in
    rw (entry-nth m place (word_at m 0) table_head d before)
    (record {
      start = at + entry_head;
      says = rw size (sym (listed_here m h place refl refl before));
      bytes = rw size;
      inside = rw size (place_inside m h place refl refl before);
    })
