-- Laws of `overwrite`: what lies around it, two that touch, stores that are one, and runs behind each other.
use Prim.Native.Nat.{ℕ, ◌+◌, ◌≤◌}
use mathlib.Core.Path.{◌≡◌, sym, ap, subst, ◌∙◌}
use mathlib.Core.List.{List, [], ◌∷◌, ◌++◌, append-nil, append_assoc}
use native.Mathlib.Omega.{arith}
use native.Mathlib.Nat.{add-zero, zero-add, add_assoc}
use lib.ListN.{length, take, drop, set, take-append-drop, length-append}
use lib.Seq.{sets, sets-eq, drop_at, take-append-le, drop-append-add, take-take, drop-drop, length-take-le}
use Rattle.paths.specs.Copying.{overwrite, begun, Appends}
use Rattle.paths.proofs.CopyLaws.{length_front, take-over}
use Rattle.table.specs.Entries.{Entry, kind_number}
use Rattle.table.specs.Memory.{table_head, entry_head, switches_at, marks_at, length_offset, word, head_bytes, encode_entry}

pub over-sets : (vs l : List ℕ) (i : ℕ) → i + length vs ≤ length l → sets l i vs ≡ overwrite l i vs
unfolding overwrite
over-sets vs l i h = sets-eq vs l i h

module _ (m : List ℕ) (at : ℕ) (s : List ℕ) (h : at + length s ≤ length m) where
  -- what lies before it, from its start on, and behind it
  pub take-before : (k : ℕ) → k ≤ at → take k (overwrite m at s) ≡ take k m
  unfolding overwrite
  take-before k le =
      let e = length-take-le at m (omega arith) in
      ap (take k) (append_assoc (take at m) s (drop (at + length s) m))
      ∙ take-append-le k (take at m) _ (omega arith)
      ∙ take-take k at m le

  pub drop-from : drop at (overwrite m at s) ≡ s ++ drop (at + length s) m
  unfolding overwrite
  drop-from =
      ap (drop at) (append_assoc (take at m) s (drop (at + length s) m))
      ∙ drop_at (take at m) _ at (length-take-le at m (omega arith))

  pub drop-behind : (k : ℕ) → drop (at + length s + k) (overwrite m at s) ≡ drop (at + length s + k) m
  unfolding overwrite
  drop-behind k =
      ap (λ (j : ℕ). drop (j + k) (overwrite m at s)) (sym (length_front m at s h))
      ∙ drop-append-add (take at m ++ s) (drop (at + length s) m) k
      ∙ drop-drop k (at + length s) m

-- s' written behind s
pub over-above : (m : List ℕ) (at : ℕ) (s s' : List ℕ) → at + length s ≤ length m
    → overwrite (overwrite m at s) (at + length s) s' ≡ overwrite m at (s ++ s')
unfolding overwrite
over-above m at s s' h =
    rw (
      take-over m at s h,
      drop-behind m at s h (length s'),
      append_assoc (take at m) s s',
      length-append s s',
      add_assoc at (length s) (length s'),
    )

-- s written before s'
pub over_below : (m : List ℕ) (at : ℕ) (s s' : List ℕ) → at + length s + length s' ≤ length m
    → overwrite (overwrite m (at + length s) s') at s ≡ overwrite m at (s ++ s')
unfolding overwrite
over_below m at s s' h =
    rw (
      take-before m (at + length s) s' h at (omega arith),
      drop-from m (at + length s) s' h,
      length-append s s',
      ← add_assoc at (length s) (length s'),
    )
    (sym (append_assoc (take at m ++ s) s' _)
    ∙ ap (λ (l : List ℕ). l ++ drop (at + length s + length s') m) (append_assoc (take at m) s s'))

-- one byte stored, two bytes behind it, and then a path
pub written : (m : List ℕ) (at : ℕ) (e : Entry) (n : ℕ) → at + entry_head + length e.path ≤ length m → n ≡ kind_number e.kind
    → overwrite (overwrite (set m at n) (at + length_offset) (word (length e.path))) (at + entry_head) e.path ≡ overwrite m at (encode_entry e)
unfolding encode_entry
written m at e n h k =
    let first : set m at n ≡ overwrite m at (n ∷ []) = over-sets (n ∷ []) m at (omega arith) in
    rw (first, over-above m at (n ∷ []) (word (length e.path)) (omega arith), k)
    (over-above m at (kind_number e.kind ∷ word (length e.path)) e.path (omega arith))

-- a table's head: the count, and then two bytes
pub head_written : (m m' : List ℕ) (n a b : ℕ) → table_head ≤ length m → length m' ≡ length m → m' ≡ overwrite m 0 (word n)
    → set (set m' switches_at a) marks_at b ≡ overwrite m 0 (head_bytes n a b)
head_written m m' n a b h l q =
    over-sets (a ∷ b ∷ []) m' 2 (omega arith) ∙ rw q (over-above m 0 (word n) (a ∷ b ∷ []) (omega arith))

-- s is written from `at` on, and then the first two bytes of what lies before it
pub headed : (m : List ℕ) (h₀ h₁ : ℕ) (l s : List ℕ) (at a b : ℕ) → take at m ≡ h₀ ∷ h₁ ∷ l → at ≤ length m
    → overwrite (overwrite m at s) 0 (a ∷ b ∷ []) ≡ (a ∷ b ∷ (l ++ s)) ++ drop (length (a ∷ b ∷ (l ++ s))) m
unfolding overwrite
headed m h₀ h₁ l s at a b f i =
    let size : at + length s ≡ length (a ∷ b ∷ (l ++ s)) =
    simp length-append (omega (arith, sym (length-take-le at m i) ∙ ap length f))
    in
    rw (f, size)

-- ---- runs, one behind the other

pub appends-none : (m : List ℕ) (at : ℕ) → Appends [] m at m at
unfolding overwrite
appends-none m at = record { content = sym (rw (append-nil (take at m), add-zero at) (take-append-drop at m)); end = omega arith }

pub appends-as : {s s' m m' : List ℕ} {at r : ℕ} → s ≡ s' → Appends s m at m' r → Appends s' m at m' r
appends-as {m = m} {m' = m'} {at = at} {r = r} e A = subst (λ (x : List ℕ). Appends x m at m' r) e A

-- s' written where s ends
pub appends-more : {s m : List ℕ} {at : ℕ} {m' : List ℕ} {n : ℕ} {s' m'' : List ℕ} {n' : ℕ} → at + length s ≤ length m
    → Appends s m at m' n → Appends s' m' n m'' n' → Appends (s ++ s') m at m'' n'
appends-more {s} {m} {at} {m'} {n} {s'} h a b = record {
  content = b.content ∙ rw (a.end, a.content) (over-above m at s s' h);
  end = simp length-append (omega (arith, a.end, b.end));
}

-- from the start
pub from_start : {s m m' : List ℕ} {r : ℕ} → Appends s m 0 m' r → (m' ≡ begun s m) × (r ≡ length s)
unfolding begun overwrite
from_start A = (A.content ∙ rw zero-add, A.end ∙ zero-add _)

pub starts-inside : {s m m' : List ℕ} {r : ℕ} → Appends s m 0 m' r → r ≤ length m'
unfolding begun
starts-inside A = rw ((from_start A).1, (from_start A).0, length-append) (omega arith)
