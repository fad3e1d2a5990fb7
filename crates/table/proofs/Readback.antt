-- What is read where an encoding stands in memory: the entries that it encodes.
use Prim.Native.Nat.{ℕ, ◌+◌, ◌≤◌}
use mathlib.Core.Path.{◌≡◌, refl, sym, ap, ◌∙◌}
use mathlib.Core.List.{List, [], ◌∷◌, ◌++◌, append_assoc}
use mathlib.Core.Bool.{true}
use native.Mathlib.Omega.{arith}
use native.Mathlib.Nat.{add-zero, div-add-mod'}
use lib.ListN.{length, get_or, take, drop, length-append}
use lib.Seq.{get_or-append-add, drop-append-add, take-append_seam}
use borrow.Author.Tests.{le-leb}
use Rattle.table.specs.Entries.{Entry, kind_number, max_kind}
use Rattle.table.specs.Memory.{entry_head, length_offset, len_at, next_at, kind_from, entry_at, entries_at, are_within, encode_entry, encode_all}
use Rattle.table.proofs.Within.{kind-number, number_small, kind-bound}
use Rattle.table.proofs.Codec.{length-encode_entry}

-- at `at`, where memory is p, then the entry e, then r
module _ (m p : List ℕ) (e : Entry) (r : List ℕ) (at : ℕ) (q : m ≡ p ++ (encode_entry e ++ r)) (a : at ≡ length p) where
  read_byte : (k : ℕ) → get_or m (at + k) 0 ≡ get_or (encode_entry e ++ r) k 0
  read_byte k = rw (q, a) (get_or-append-add p (encode_entry e ++ r) k 0)

  read-kind : get_or m at 0 ≡ kind_number e.kind
  unfolding encode_entry
  read-kind = ap (λ (j : ℕ). get_or m j 0) (sym (add-zero at)) ∙ read_byte 0

  read-len : len_at m at ≡ length e.path
  unfolding encode_entry
  read-len =
      let low : at + length_offset + 1 ≡ at + (length_offset + 1) = omega arith in
      rw (low, read_byte length_offset, read_byte (length_offset + 1)) (div-add-mod' (length e.path) 256)

  read-path : take (len_at m at) (drop (at + entry_head) m) ≡ e.path
  unfolding encode_entry
  read-path =
      let behind : drop (at + entry_head) m ≡ e.path ++ r = rw (q, a) (drop-append-add p (encode_entry e ++ r) entry_head) in
      rw (read-len, behind) (take-append_seam e.path r)

  read-entry : entry_at m at ≡ e
  read-entry = λ i. record { kind = (ap kind_from read-kind ∙ kind-number e.kind) i; path = read-path i }

  read_next : next_at m at ≡ length (p ++ encode_entry e)
  read_next = rw (read-len, length-append) (omega (arith, length-encode_entry e))

  read-inside : next_at m at ≤ length m
  read-inside =
      let l : length m ≡ length p + (length (encode_entry e) + length r) = ap length q ∙ simp length-append in
      omega (arith, read_next, length-append p (encode_entry e))

-- the entry in front of what else is encoded
one-first : (m p : List ℕ) (e : Entry) (es : List Entry) (r : List ℕ) → m ≡ p ++ (encode_all (e ∷ es) ++ r)
    → m ≡ p ++ (encode_entry e ++ (encode_all es ++ r))
unfolding encode_all
one-first m p e es r q = q ∙ ap (λ (l : List ℕ). p ++ l) (append_assoc (encode_entry e) (encode_all es) r)

one-passed : (m p : List ℕ) (e : Entry) (es : List Entry) (r : List ℕ) → m ≡ p ++ (encode_all (e ∷ es) ++ r)
    → m ≡ (p ++ encode_entry e) ++ (encode_all es ++ r)
one-passed m p e es r q = one-first m p e es r q ∙ sym (append_assoc p (encode_entry e) (encode_all es ++ r))

-- at `at`, where memory is p, then the entries es, then r
pub entries-read : (m p : List ℕ) (es : List Entry) (r : List ℕ) (at : ℕ) → m ≡ p ++ (encode_all es ++ r) → at ≡ length p
    → entries_at m (length es) at ≡ es
unfolding entries_at
entries-read m p [] r at q a = refl
entries-read m p (e ∷ es) r at q a =
    let q₁ = one-first m p e es r q in
    let R = encode_all es ++ r in
    let rest = entries-read m (p ++ encode_entry e) es r (next_at m at) (one-passed m p e es r q) (read_next m p e R at q₁ a) in
    λ i. read-entry m p e R at q₁ a i ∷ rest i

pub entries-within : (m p : List ℕ) (es : List Entry) (r : List ℕ) (at : ℕ) → m ≡ p ++ (encode_all es ++ r) → at ≡ length p
    → are_within m (length es) at ≡ true
unfolding are_within
entries-within m p [] r at q a = refl
entries-within m p (e ∷ es) r at q a =
    let q₁ = one-first m p e es r q in
    let R = encode_all es ++ r in
    let kind : get_or m at 0 ≤ max_kind = rw (read-kind m p e R at q₁ a) (number_small e.kind) in
    rw (kind-bound (get_or m at 0), le-leb _ _ kind, le-leb _ _ (read-inside m p e R at q₁ a))
    (entries-within m (p ++ encode_entry e) es r (next_at m at) (one-passed m p e es r q) (read_next m p e R at q₁ a))
