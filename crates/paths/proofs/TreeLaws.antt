-- The laws of the common part of two paths: branches, and what path order keeps together.
use Prim.Native.Nat.{ℕ, ◌+◌, ◌≤◌, ◌<◌}
use mathlib.Core.Path.{◌≡◌, refl, sym, ap, ◌∙◌}
use mathlib.Core.List.{List, [], ◌∷◌}
use mathlib.Core.Bool.{Bool}
use native.Mathlib.Omega.{arith}
use native.Mathlib.Decide.{dec_lt}
use lib.IntN.{ℤ, neg_ℤ}
use lib.ListN.{length, take}
use lib.Seq.{take-take, take-length}
use Rattle.paths.specs.Components.{same, components}
use Rattle.paths.specs.Relations.{shared, common, depth, greater, number_order, or_else, in_turn, path_order}
use Rattle.paths.specs.CommonPart.{SameBranch, NotBehind, CommonPart}
use Rattle.paths.proofs.ComponentLaws.{same_refl, same-eq}
use Rattle.paths.proofs.CommonLaws.{
  Sharing,
  first_ends,
  second-ends,
  parts,
  more,
  sharing,
  sharing-within,
  sharing-same,
  sharing-greatest,
  leads-shared,
}
use Rattle.paths.proofs.RelationLaws.{Ordered, alike, below, above, ordered-bytes, bytes-turned}

-- ---- branches

shares : (p q : List ℕ) → SameBranch (common p q) p q
unfolding common depth
shares p q =
    let s = sharing (components p) (components q) in
    record { left = (sharing-within s).0; right = (sharing-within s).1; same = sharing-same s }

greatest : (p q : List ℕ) (n : ℕ) → SameBranch n p q → n ≤ common p q
unfolding common depth
greatest p q n b = sharing-greatest (sharing (components p) (components q)) n b.left b.right b.same

module _ {n : ℕ} {p q : List ℕ} where
  branch-turned : SameBranch n p q → SameBranch n q p
  branch-turned b = record { left = b.right; right = b.left; same = sym b.same }

  branch-joined : {r : List ℕ} → SameBranch n p q → SameBranch n q r → SameBranch n p r
  branch-joined b d = record { left = b.left; right = d.right; same = b.same ∙ d.same }

  -- and less far down too
  branch-above : (m : ℕ) → m ≤ n → SameBranch n p q → SameBranch m p q
  branch-above m h b = record {
    left = omega (arith, b.left);
    right = omega (arith, b.right);
    same = sym (take-take m n (components p) h) ∙ ap (take m) b.same ∙ take-take m n (components q) h;
  }

branch-down : (m : ℕ) (p q : List ℕ) → m ≤ common p q → SameBranch m p q
branch-down m p q h = branch-above m h (shares p q)

no_less : (p q : List ℕ) → common p q ≤ common q p
no_less p q = greatest q p (common p q) (branch-turned (shares p q))

symmetric : (p q : List ℕ) → common p q ≡ common q p
symmetric p q = omega (arith, no_less p q, no_less q p)

-- the least of two common parts is shared by all three
joined : (p q r : List ℕ) (n : ℕ) → n ≤ common p q → n ≤ common q r → n ≤ common p r
joined p q r n h k = greatest p r n (branch-joined (branch-down n p q h) (branch-down n q r k))

branch : (p q r : List ℕ) → common p r < common p q → SameBranch (common p r + 1) p q × (common q r ≡ common p r)
branch p q r h = (branch-down (common p r + 1) p q (omega arith), go (dec_lt (common p r) (common q r)))
  where
    no-fewer : common p r ≤ common q r
    no-fewer = joined q p r (common p r) (omega (arith, symmetric p q)) (omega arith)

    go : Dec (common p r < common q r) → common q r ≡ common p r
    go (yes l) = absurd (omega (arith, joined p q r (common p r + 1) (omega arith) (omega arith)))
    go (no l) = omega (arith, no-fewer)

-- ---- all of them

equal-all : (p q : List ℕ) → components p ≡ components q → (common p q ≡ depth p) × (common p q ≡ depth q)
equal-all p q e =
    let same-depth : depth p ≡ depth q = unfold depth in ap length e in
    let whole : depth p ≤ common p q = greatest p q (depth p) (record { left = omega arith; right = omega arith; same = ap (take (depth p)) e }) in
    let b = shares p q in
    (omega (arith, b.left), omega (arith, b.left))

all-equal : (p q : List ℕ) → common p q ≡ depth p → common p q ≡ depth q → components p ≡ components q
unfolding depth
all-equal p q e f =
    sym (take-length (components p)) ∙ ap (λ (n : ℕ). take n (components p)) (sym e) ∙ (shares p q).same
    ∙ ap (λ (n : ℕ). take n (components q)) f ∙ take-length (components q)

-- ---- in path order

-- c does not come behind d, nor d behind c: they are the same, and what follows decides
module _ (c d : List ℕ) {u v : ℤ} where
  between-by : {a b : Bool} {o : ℤ} → Ordered a b o → same c d ≡ a → (or_else o u ≡ greater → ⊥) → (or_else (neg_ℤ o) v ≡ greater → ⊥)
      → (c ≡ d) × (u ≡ greater → ⊥) × (v ≡ greater → ⊥)
  unfolding or_else
  between-by alike e h k = (same-eq c d e, h, k)
  between-by below e h k = absurd (k refl)
  between-by above e h k = absurd (h refl)

  between-same : (or_else (in_turn number_order c d) u ≡ greater → ⊥) → (or_else (in_turn number_order d c) v ≡ greater → ⊥)
      → (c ≡ d) × (u ≡ greater → ⊥) × (v ≡ greater → ⊥)
  between-same h k = between-by (ordered-bytes c d) refl h (rw (bytes-turned c d) at k)

-- what two lists share, one between them has too
between-shares : {cs es : List (List ℕ)} {n : ℕ} → Sharing cs es n → (ds : List (List ℕ))
    → (in_turn (in_turn number_order) cs ds ≡ greater → ⊥) → (in_turn (in_turn number_order) ds es ≡ greater → ⊥) → n ≤ shared cs ds
unfolding in_turn shared
between-shares first_ends ds h k = omega arith
between-shares second-ends ds h k = omega arith
between-shares (parts e) ds h k = omega arith
between-shares (more s) [] h k = absurd (h refl)
between-shares (more {c} s) (d ∷ ds) h k =
    let w = between-same c d h k in
    rw (ap (same c) (sym w.0) ∙ same_refl c) (omega (arith, between-shares s ds w.1 w.2))

together : (p q r : List ℕ) → NotBehind p q → NotBehind q r → (common p r ≤ common p q) × (common p r ≤ common q r)
unfolding path_order common
together p q r h k =
    let first : common p r ≤ common p q = between-shares (sharing (components p) (components r)) (components q) h k in
    (first, joined q p r (common p r) (omega (arith, symmetric p q)) (omega arith))

pub common-part : CommonPart
unfolding common depth
common-part = record {
  shares = shares;
  greatest = greatest;
  symmetric = symmetric;
  prefix = λ p q. leads-shared (components p) (components q);
  equal = equal-all;
  all = all-equal;
  branch = branch;
  together = together;
}
