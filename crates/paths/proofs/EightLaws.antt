-- Laws of the tests of eight bytes at once: the bytes that a part of a path has, and the pairs that `windows(2)` gives.
use Prim.Native.Nat.{ℕ, zero, suc, ◌+◌, ◌≤◌, ◌<◌}
use mathlib.Core.Path.{◌≡◌, refl, ap, ◌∙◌, subst}
use mathlib.Core.List.{List, [], ◌∷◌}
use mathlib.Core.Bool.{true, ◌&&◌}
use native.Mathlib.Omega.{arith}
use lib.Dec.{eqb}
use lib.ListN.{length, get_or, take, drop}
use lib.Seq.{drop-cons}
use Rattle.std.specs.List.{fold, zip}
use Rattle.std.specs.declared.slice.Windows.{Windows}
use Rattle.std.specs.Slice.Iter.{windows_rest, windows_size, windows_steps}
use Rattle.std.proofs.lemmas.Iterator.{YieldsList}
use Rattle.std.proofs.lemmas.Iterator.Splits.{YieldsList-from_shown_while}
use Rattle.paths.specs.Scanning.{plain_pair, plain_eight}
use Rattle.paths.specs.Relating.{same_eight}

-- n bytes of p, from the k-th behind `at` on
reads : List ℕ → ℕ → ℕ → ℕ → List ℕ
reads p at k zero = []
reads p at k (suc n) = get_or p (at + k) 0 ∷ reads p at (suc k) n

part_reads : (p : List ℕ) (at k n : ℕ) → at + k + n ≤ length p → take n (drop (at + k) p) ≡ reads p at k n
unfolding reads
part_reads p at k zero h = refl
part_reads p at k (suc n) h =
    let e : suc (at + k) ≡ at + suc k = omega arith in
    rw (drop-cons p (at + k) 0 (omega arith), e) (ap (λ (l : List ℕ). get_or p (at + k) 0 ∷ l) (part_reads p at (suc k) n (omega arith)))

pub same-eight : (p q : List ℕ) (i n : ℕ) → n ≡ 8 → i + 8 ≤ length p → i + 8 ≤ length q
    → fold (λ t (x : ℕ × ℕ). t && eqb x.0 x.1) true (zip (take n (drop i p)) (take n (drop i q))) ≡ same_eight p q i
unfolding reads
same-eight p q i n z h k =
    let e : i + 0 ≡ i = omega arith in
    rw (z, rw e at (part_reads p i 0 8 (omega arith)), rw e at (part_reads q i 0 8 (omega arith)))

-- ---- each byte with the next

pub pairs : List ℕ → List (List ℕ)
pairs [] = []
pairs (a ∷ []) = []
pairs (a ∷ b ∷ p) = (a ∷ b ∷ []) ∷ pairs (b ∷ p)

pairs_end : (p : List ℕ) → length p < 2 → length (pairs p) ≡ 0
unfolding pairs
pairs_end [] h = refl
pairs_end (a ∷ []) h = refl
pairs_end (a ∷ b ∷ p) h = absurd (omega arith)

pairs_more : (p : List ℕ) → 2 ≤ length p → pairs p ≡ take 2 p ∷ pairs (drop 1 p)
unfolding pairs
pairs_more [] h = absurd (omega arith)
pairs_more (a ∷ []) h = absurd (omega arith)
pairs_more (a ∷ b ∷ p) h = refl

-- they are what `windows(2)` gives
pub windows-pairs : {s : Windows ℕ} (p : List ℕ) → windows_rest s ≡ p → windows_size s ≡ 2 → YieldsList (windows_steps {A = ℕ}) (λ x. x.now) s (pairs p)
windows-pairs {s} p e z =
    subst (λ (l : List ℕ). YieldsList (windows_steps {A = ℕ}) (λ x. x.now) s (pairs l)) e
    (YieldsList-from_shown_while windows_steps (λ x. x.now) (λ s. pairs (windows_rest s)) (λ s. windows_size s ≡ 2)
    (λ s t h k. pairs_end (windows_rest s) (omega arith))
    (λ s x t h k. (k.0 ∙ h, rw (k.1.1, k.1.2, h) (pairs_more (windows_rest s) (omega arith)))) s z)

pub plain-pairs : (p : List ℕ) (at n : ℕ) → n ≡ 9 → at + 8 < length p
    → fold (λ t (w : List ℕ). t && plain_pair (get_or w 0 0) (get_or w 1 0)) true (pairs (take n (drop at p))) ≡ plain_eight p at
unfolding reads pairs
plain-pairs p at n z h =
    let e : at + 0 ≡ at = omega arith in
    rw (z, rw e at (part_reads p at 0 9 (omega arith)))
