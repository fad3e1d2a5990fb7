-- Laws of the leading components that two lists share, and what they say of prefixes.
use Prim.Native.Nat.{ℕ, zero, suc, ◌≤◌}
use mathlib.Core.Path.{◌≡◌, refl, sym, ap, ◌∙◌, subst}
use mathlib.Core.List.{List, [], ◌∷◌}
use mathlib.Core.Bool.{Bool, true, false, cond, false≢true}
use native.Mathlib.Omega.{arith}
use lib.ListN.{length, take}
use lib.Dec.{eqb, eqb-zero-suc, eqb-suc-suc}
use Rattle.paths.specs.Components.{same, components}
use Rattle.paths.specs.Relations.{shared, common, depth, is_prefix}
use Rattle.paths.specs.CommonPart.{leads}
use Rattle.paths.proofs.ComponentLaws.{same_refl, same-eq}

-- how two lists share so many: up to the end of one, or to a component that is not the same
pub data Sharing : List (List ℕ) → List (List ℕ) → ℕ → Type 0 where
  first_ends : {ds : List (List ℕ)} → Sharing [] ds 0
  second-ends : {c : List ℕ} {cs : List (List ℕ)} → Sharing (c ∷ cs) [] 0
  parts : {c d : List ℕ} {cs ds : List (List ℕ)} → same c d ≡ false → Sharing (c ∷ cs) (d ∷ ds) 0
  more : {c : List ℕ} {cs ds : List (List ℕ)} {n : ℕ} → Sharing cs ds n → Sharing (c ∷ cs) (c ∷ ds) (suc n)

sharing-more : {c d : List ℕ} {cs ds : List (List ℕ)} {n : ℕ} → c ≡ d → Sharing cs ds n → Sharing (c ∷ cs) (d ∷ ds) (suc n)
sharing-more {c} {d} {cs} {ds} {n} e s = subst (λ (x : List ℕ). Sharing (c ∷ cs) (x ∷ ds) (suc n)) e (more s)

pub sharing : (cs ds : List (List ℕ)) → Sharing cs ds (shared cs ds)
unfolding shared
sharing [] ds = first_ends
sharing (c ∷ cs) [] = second-ends
sharing (c ∷ cs) (d ∷ ds) = by (same c d) refl (sharing cs ds)
  where
    by : (b : Bool) → same c d ≡ b → Sharing cs ds (shared cs ds) → Sharing (c ∷ cs) (d ∷ ds) (cond b (suc (shared cs ds)) 0)
    by true e s = sharing-more (same-eq c d e) s
    by false e s = parts e

-- ---- what they share

-- both have so many
pub sharing-within : {cs ds : List (List ℕ)} {n : ℕ} → Sharing cs ds n → (n ≤ length cs) × (n ≤ length ds)
sharing-within first_ends = (omega arith, omega arith)
sharing-within second-ends = (omega arith, omega arith)
sharing-within (parts e) = (omega arith, omega arith)
sharing-within (more s) = let w = sharing-within s in (omega (arith, w.0), omega (arith, w.1))

pub sharing-same : {cs ds : List (List ℕ)} {n : ℕ} → Sharing cs ds n → take n cs ≡ take n ds
sharing-same first_ends = refl
sharing-same second-ends = refl
sharing-same (parts e) = refl
sharing-same (more {c} s) = ap (λ (r : List (List ℕ)). c ∷ r) (sharing-same s)

-- no more are the same in both
pub sharing-greatest : {cs ds : List (List ℕ)} {n : ℕ} → Sharing cs ds n → (k : ℕ) → k ≤ length cs → k ≤ length ds → take k cs ≡ take k ds → k ≤ n
sharing-greatest s zero h i e = omega arith
sharing-greatest first_ends (suc k) h i e = omega arith
sharing-greatest second-ends (suc k) h i e = omega arith
sharing-greatest (parts {c} {d} f) (suc k) h i e =
    let g : c ≡ d = cc in
    absurd (false≢true (sym f ∙ subst (λ (x : List ℕ). same c x ≡ true) g (same_refl c)))
sharing-greatest (more {c} {cs} {ds} s) (suc k) h i e =
    let g : take k cs ≡ take k ds = cc in
    omega (arith, sharing-greatest s k (omega arith) (omega arith) g)

-- ---- prefix

leads-by : {cs ds : List (List ℕ)} {n : ℕ} → Sharing cs ds n → leads cs ds ≡ eqb n (length cs)
unfolding leads
leads-by first_ends = refl
leads-by (second-ends {c} {cs}) = sym (eqb-zero-suc (length cs))
leads-by (parts {c} {d} {cs} e) = rw e (sym (eqb-zero-suc (length cs)))
leads-by (more {c} {cs} {ds} {n} s) = rw (same_refl c) (leads-by s ∙ sym (eqb-suc-suc n (length cs)))

-- the components of one path are the first ones of another exactly if these are all that it has
pub leads-shared : (cs ds : List (List ℕ)) → leads cs ds ≡ eqb (shared cs ds) (length cs)
leads-shared cs ds = leads-by (sharing cs ds)

pub prefix-leads : (p q : List ℕ) → is_prefix p q ≡ leads (components p) (components q)
unfolding is_prefix common depth
prefix-leads p q = sym (leads-shared (components p) (components q))
