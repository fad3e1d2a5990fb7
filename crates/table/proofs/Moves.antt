-- Bytes that a loop copies, one a turn, upwards or downwards: `paste` of lib.Seq.
use Prim.Native.Nat.{ℕ, suc, ◌+◌, ◌-◌, ◌≤◌, ◌<◌}
use mathlib.Core.Path.{◌≡◌, sym, ap, ◌∙◌}
use mathlib.Core.List.{List, [], ◌∷◌, ◌++◌, append_assoc}
use native.Mathlib.Omega.{arith}
use native.Mathlib.Numerals.{add-one}
use native.Mathlib.Nat.{add-suc, suc-add}
use lib.ListN.{length, get_or, take, drop, set, length-drop, get_or-append}
use lib.Seq.{paste, length_paste_head, get_or-append-add, get_or-drop, get_or-take, drop-cons, take-suc, set_at, append_snoc, length-take-le}
use Rattle.paths.specs.Copying.{overwrite}
use Rattle.paths.proofs.CopyLaws.{paste_more}

-- downwards: one byte more
pub paste-less : (d : List ℕ) (at x : ℕ) (s : List ℕ) (n : ℕ) → at < length d
    → set (paste d (at + 1) s n) at x ≡ paste d at (x ∷ s) (n + 1)
paste-less d at x s n h =
    rw (add-one at, add-one n, suc-add at n, add-suc at n, take-suc d at 0 h)
    (ap (λ (l : List ℕ). set l at x)
    (append_assoc (take at d ++ (get_or d at 0 ∷ [])) (take n s) _ ∙ append_snoc (take at d) (get_or d at 0) _)
    ∙ set_at (take at d) (get_or d at 0) _ x at (length-take-le at d (omega arith))
    ∙ sym (append_assoc (take at d) (x ∷ take n s) _))

-- what lies behind the copy is as it was
pub get_or-behind : (d : List ℕ) (at : ℕ) (s : List ℕ) (n k : ℕ) → at ≤ length d → n ≤ length s → at + n ≤ k
    → get_or (paste d at s n) k 0 ≡ get_or d k 0
get_or-behind d at s n k hd hs h =
    let p : List ℕ = take at d ++ take n s in
    let j = k - (at + n) in
    let e : k ≡ at + n + j = omega arith in
    let e' : k ≡ length p + j = e ∙ ap (λ (i : ℕ). i + j) (sym (length_paste_head d at s n hd hs)) in
    ap (λ (i : ℕ). get_or (paste d at s n) i 0) e'
    ∙ get_or-append-add p (drop (at + n) d) j 0
    ∙ get_or-drop (at + n) d j 0
    ∙ ap (λ (i : ℕ). get_or d i 0) (sym e)

-- and so is what lies before it
pub get_or-before : (d : List ℕ) (at : ℕ) (s : List ℕ) (n k : ℕ) → at ≤ length d → k < at
    → get_or (paste d at s n) k 0 ≡ get_or d k 0
get_or-before d at s n k hd h =
    let e = length-take-le at d hd in
    ap (λ (l : List ℕ). get_or l k 0) (append_assoc (take at d) (take n s) _)
    ∙ get_or-append (take at d) _ 0 k (omega arith) ∙ get_or-take at d k 0 h

-- a turn of a loop that moves bytes to a lower offset
pub moved_down : (d e : List ℕ) (from to i : ℕ) → to ≤ from → from + i < length d → e ≡ paste d to (drop from d) i
    → set e (to + i) (get_or e (from + i) 0) ≡ paste d to (drop from d) (i + 1)
moved_down d e from to i h k q =
    let l = length-drop from d in
    rw q
    (ap (λ (x : ℕ). set (paste d to (drop from d) i) (to + i) x)
    (get_or-behind d to (drop from d) i (from + i) (omega arith) (omega arith) (omega arith) ∙ sym (get_or-drop from d i 0))
    ∙ paste_more d to (drop from d) i (omega arith) (omega arith))

-- a turn of a loop that moves n bytes to a higher offset, with `left` of them still to move
pub moved_up : (d e : List ℕ) (from to n left : ℕ) → from ≤ to → to + n ≤ length d → 0 < left → left ≤ n
    → e ≡ paste d (to + left) (drop (from + left) d) (n - left)
    → set e (to + (left - 1)) (get_or e (from + (left - 1)) 0) ≡ paste d (to + (left - 1)) (drop (from + (left - 1)) d) (n - (left - 1))
moved_up d e from to n left h k some less q =
    let j = left - 1 in
    let e₁ : to + left ≡ to + j + 1 = omega arith in
    let e₂ : from + left ≡ suc (from + j) = omega arith in
    let e₃ : n - j ≡ n - left + 1 = omega arith in
    rw (q, e₃, drop-cons d (from + j) 0 (omega arith))
    (ap (λ (x : ℕ). set (paste d (to + left) (drop (from + left) d) (n - left)) (to + j) x)
    (get_or-before d (to + left) (drop (from + left) d) (n - left) (from + j) (omega arith) (omega arith))
    ∙ rw (e₁, e₂) (paste-less d (to + j) (get_or d (from + j) 0) (drop (suc (from + j)) d) (n - left) (omega arith)))

-- what such a loop has done at its end
pub paste-over : (d : List ℕ) (at : ℕ) (s : List ℕ) (n : ℕ) → n ≤ length s → paste d at s n ≡ overwrite d at (take n s)
unfolding overwrite
paste-over d at s n h = ap (λ (k : ℕ). take at d ++ take n s ++ drop (at + k) d) (sym (length-take-le n s h))
