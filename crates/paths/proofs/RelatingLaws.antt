-- Laws of the one pass over two paths: what a component's end, a byte that both have and a first difference say of how they compare.
use Prim.Native.Nat.{ℕ, ◌+◌, ◌≤◌, ◌<◌}
use mathlib.Core.Path.{◌≡◌, refl, sym, ap, ap₂, ◌∙◌}
use mathlib.Core.List.{List, [], ◌∷◌}
use mathlib.Core.Bool.{Bool, true, false, cond}
use native.Mathlib.Omega.{arith}
use native.Mathlib.Numerals.{add-one}
use native.Mathlib.Decide.{dec_lt}
use lib.ListN.{length, get_or, drop, drop_of_length-le}
use lib.Seq.{drop-cons, drop-drop}
use lib.Dec.{eqb}
use borrow.Author.Tests.{eq-eqb, ne_eqb, eqb-true, eqb-false}
use Rattle.paths.specs.Components.{slash, same, grown, parted, pieces, without_empty, components}
use Rattle.paths.specs.Relations.{shared, common, number_order, or_else, in_turn, path_order, related_by, relation, comparison}
use Rattle.paths.specs.CommonPart.{leads}
use Rattle.paths.specs.Relating.{rank_of, Begins}
use Rattle.paths.specs.declared.Relation.{Relation}
use Rattle.paths.specs.declared.Relation.TheVariants.{Equal, Prefix, Extension, Less, Greater}
use Rattle.paths.specs.declared.Comparison.{Comparison}
use Rattle.paths.proofs.ComponentLaws.{pieces-byte}
use Rattle.paths.proofs.CommonLaws.{prefix-leads}
use Rattle.paths.proofs.RelationLaws.{number-less, number-greater, number-equal}

-- ---- how lists of components compare

-- behind n components that both share
abbrev pub compared : Relation → ℕ → Comparison
compared r n = record { relation = r; common = n }

-- m is the number that is answered
pub answered : {r : Relation} {m n : ℕ} {c : Comparison} → compared r n ≡ c → m ≡ n → compared r m ≡ c
answered {r} e f = ap (compared r) f ∙ e

unfoldable pub comparison_of : ℕ → List (List ℕ) → List (List ℕ) → Comparison
comparison_of n cs ds = compared (related_by (leads cs ds) (leads ds cs) (in_turn (in_turn number_order) cs ds)) (n + shared cs ds)

-- a component that both have, whole
comparison_of-empty : (n : ℕ) (cs ds : List (List ℕ)) → comparison_of n ([] ∷ cs) ([] ∷ ds) ≡ comparison_of (n + 1) cs ds
unfolding comparison_of leads same in_turn or_else shared
comparison_of-empty n cs ds = ap (compared _) (omega arith)

none_more : (n : ℕ) (r : Relation) → compared r (n + 0) ≡ compared r n
none_more n r = ap (compared r) (omega arith)

module _ (n : ℕ) (c d : List ℕ) (cs ds : List (List ℕ)) where
  comparison_of-byte : (a b : ℕ) → a ≡ b → comparison_of n ((a ∷ c) ∷ cs) ((b ∷ d) ∷ ds) ≡ comparison_of n (c ∷ cs) (d ∷ ds)
  unfolding comparison_of leads same in_turn or_else shared
  comparison_of-byte a b e = rw (eq-eqb a b e, eq-eqb b a (sym e), number-equal a b e)

  comparison_of-less : (a b : ℕ) → a < b → comparison_of n ((a ∷ c) ∷ cs) ((b ∷ d) ∷ ds) ≡ compared Less n
  unfolding comparison_of leads same in_turn or_else related_by shared
  comparison_of-less a b h = rw (ne_eqb a b (omega arith), ne_eqb b a (omega arith), number-less a b h) (none_more n Less)

  comparison_of-greater : (a b : ℕ) → b < a → comparison_of n ((a ∷ c) ∷ cs) ((b ∷ d) ∷ ds) ≡ compared Greater n
  unfolding comparison_of leads same in_turn or_else related_by shared
  comparison_of-greater a b h = rw (ne_eqb a b (omega arith), ne_eqb b a (omega arith), number-greater a b h) (none_more n Greater)

-- ---- inside a component

-- the first of what slashes part, empty or not, and the components behind it
unfoldable pub opened : List (List ℕ) → List (List ℕ)
opened [] = [] ∷ []
opened (c ∷ cs) = c ∷ without_empty cs

-- the rest of the component in which p begins, and the components behind it
unfoldable pub inside : List ℕ → List (List ℕ)
inside p = opened (pieces p)

-- what stands at the start of p, by its rank: a component's end, or a byte of it
data Stands (p : List ℕ) : ℕ → Type 0 where
  ends : inside p ≡ [] ∷ components p → Stands p 0
  byte : (b : ℕ) (c : List ℕ) (cs : List (List ℕ)) → inside p ≡ (b ∷ c) ∷ cs → components p ≡ (b ∷ c) ∷ cs → inside (drop 1 p) ≡ c ∷ cs
      → Stands p (b + 1)

stands-byte : (b : ℕ) (p : List ℕ) (cs : List (List ℕ)) → pieces (b ∷ p) ≡ grown b cs → pieces p ≡ cs → Stands (b ∷ p) (b + 1)
unfolding inside opened components without_empty grown
stands-byte b p [] e f = byte b [] [] (ap opened e) (ap without_empty e) (ap opened f)
stands-byte b p (c ∷ cs) e f = byte b c (without_empty cs) (ap opened e) (ap without_empty e) (ap opened f)

stands : (p : List ℕ) → Stands p (rank_of p)
unfolding rank_of inside opened components pieces parted without_empty
stands [] = ends refl
stands (b ∷ p) = go (eqb b slash) refl
  where
    go : (t : Bool) → eqb b slash ≡ t → Stands (b ∷ p) (cond t 0 (b + 1))
    go true e = ends (rw e)
    go false e = stands-byte b p (pieces p) (pieces-byte b p (eqb-false b slash e)) refl

-- ---- what two starts say of how the paths compare

begins-by : {p : List ℕ} {n : ℕ} → Stands p n → 0 < n → components p ≡ inside p
begins-by (ends e) h = absurd (omega arith)
begins-by (byte b c cs e f g) h = f ∙ sym e

-- where the other has no components left
prefix-by : {q : List ℕ} {m : ℕ} (n : ℕ) → Stands q m → 0 < m → comparison_of n [] (components q) ≡ compared Prefix n
unfolding comparison_of leads related_by shared
prefix-by n (ends e) h = absurd (omega arith)
prefix-by n (byte b d ds _ f _) h = rw f (none_more n Prefix)

extension-by : {p : List ℕ} {m : ℕ} (n : ℕ) → Stands p m → 0 < m → comparison_of n (components p) [] ≡ compared Extension n
unfolding comparison_of leads related_by shared
extension-by n (ends e) h = absurd (omega arith)
extension-by n (byte b c cs _ f _) h = rw f (none_more n Extension)

module _ {p q : List ℕ} (n : ℕ) where
  ended_by : {l m : ℕ} → Stands p l → Stands q m → l ≡ 0 → m ≡ 0
      → comparison_of n (inside p) (inside q) ≡ comparison_of (n + 1) (components p) (components q)
  ended_by (ends e) (ends f) h k = rw (e, f) (comparison_of-empty n _ _)
  ended_by (ends e) (byte b d ds _ _ _) h k = absurd (omega arith)
  ended_by (byte b c cs _ _ _) v h k = absurd (omega arith)

  shared-by : {l m : ℕ} → Stands p l → Stands q m → l ≡ m → 0 < l
      → comparison_of n (inside p) (inside q) ≡ comparison_of n (inside (drop 1 p)) (inside (drop 1 q))
  shared-by (ends e) v h k = absurd (omega arith)
  shared-by (byte a c cs e _ f) (ends g) h k = absurd (omega arith)
  shared-by (byte a c cs e _ f) (byte b d ds g _ i) h k = rw (e, f, g, i) (comparison_of-byte n c d cs ds a b (omega arith))

  less_by : {l m : ℕ} → Stands p l → Stands q m → l < m → comparison_of n (inside p) (inside q) ≡ compared Less n
  unfolding comparison_of leads same in_turn or_else related_by shared
  less_by u (ends f) h = absurd (omega arith)
  less_by (ends e) (byte b d ds f _ _) h = rw (e, f) (none_more n Less)
  less_by (byte a c cs e _ _) (byte b d ds f _ _) h = rw (e, f) (comparison_of-less n c d cs ds a b (omega arith))

  greater-by : {l m : ℕ} → Stands p l → Stands q m → m < l → comparison_of n (inside p) (inside q) ≡ compared Greater n
  unfolding comparison_of leads same in_turn or_else related_by shared
  greater-by (ends e) v h = absurd (omega arith)
  greater-by (byte a c cs e _ _) (ends f) h = rw (e, f) (none_more n Greater)
  greater-by (byte a c cs e _ _) (byte b d ds f _ _) h = rw (e, f) (comparison_of-greater n c d cs ds a b (omega arith))

-- ---- what stands at i

module _ (p : List ℕ) (i : ℕ) where
  pub rank-end : length p ≤ i → 0 ≡ rank_of (drop i p)
  unfolding rank_of
  rank-end h = rw (drop_of_length-le p h)

  pub rank-slash : i < length p → get_or p i 0 ≡ slash → 0 ≡ rank_of (drop i p)
  unfolding rank_of
  rank-slash h e = rw (drop-cons p i 0 h, eq-eqb _ _ e)

  pub rank-byte : i < length p → (get_or p i 0 ≡ slash → ⊥) → get_or p i 0 + 1 ≡ rank_of (drop i p)
  unfolding rank_of
  rank-byte h e = rw (drop-cons p i 0 h, ne_eqb _ _ e)

  rank-at : i < length p → rank_of (drop i p) ≡ rank_of (get_or p i 0 ∷ [])
  unfolding rank_of
  rank-at h = rw (drop-cons p i 0 h)

  components-end : length p ≤ i → components (drop i p) ≡ []
  unfolding components pieces without_empty
  components-end h = rw (drop_of_length-le p h)

  -- a slash lies before the same components
  pub slash-passed : i < length p → get_or p i 0 ≡ slash → components (drop (i + 1) p) ≡ components (drop i p)
  unfolding components pieces parted without_empty
  slash-passed h e = rw (add-one i, drop-cons p i 0 h, eq-eqb _ _ e)

-- what a rank is, and what a slash is behind
pub ruleset ranks = (rank-end, rank-slash, rank-byte)

pub ruleset slashes = (rank-byte, slash-passed)

-- two bytes of one rank are the same
rank_same : (a b : ℕ) → rank_of (a ∷ []) ≡ rank_of (b ∷ []) → a ≡ b
unfolding rank_of
rank_same a b = go (eqb a slash) (eqb b slash) refl refl
  where
    go : (t u : Bool) → eqb a slash ≡ t → eqb b slash ≡ u → cond t 0 (a + 1) ≡ cond u 0 (b + 1) → a ≡ b
    go true true f g e = eqb-true _ _ f ∙ sym (eqb-true _ _ g)
    go true false f g e = absurd (omega arith)
    go false true f g e = absurd (omega arith)
    go false false f g e = omega arith

-- ---- the two loops of `relate`

-- i and j lie between components, n are shared so far, and the components from there on decide
pub record Between (p q : List ℕ) (n i j : ℕ) : Type 0 where
  pub left : i ≤ length p
  pub right : j ≤ length q
  pub few : n ≤ i
  pub decides : comparison p q ≡ comparison_of n (components (drop i p)) (components (drop j q))

pub between_start : (p q : List ℕ) (n : ℕ) → n ≡ 0 → Between p q n 0 0
unfolding comparison relation common path_order comparison_of
between_start p q n e = record {
  left = omega arith;
  right = omega arith;
  few = omega arith;
  decides = rw (prefix-leads p q, prefix-leads q p) (ap (compared _) (omega arith));
}

module _ {p q : List ℕ} {n i j k l : ℕ} (s : Between p q n i j) (b : Begins p i k) (d : Begins q j l) where
  -- slashes passed in both
  pub between-begins : Between p q n k l
  between-begins = record {
    left = b.within;
    right = d.within;
    few = omega (arith, s.few, b.behind);
    decides = rw (b.same, d.same) s.decides;
  }

  pub both_end : k ≡ length p → l ≡ length q → compared Equal n ≡ comparison p q
  unfolding comparison_of leads related_by shared
  both_end e f = sym (between-begins.decides ∙ ap₂ (comparison_of n) (components-end p k (omega arith)) (components-end q l (omega arith)) ∙ none_more n Equal)

  pub first_ends : k ≡ length p → (l ≡ length q → ⊥) → compared Prefix n ≡ comparison p q
  first_ends e f =
      sym (between-begins.decides ∙ rw (components-end p k (omega arith)) (prefix-by n (stands (drop l q)) (d.begins (omega (arith, d.within)))))

  pub second-ends : (k ≡ length p → ⊥) → l ≡ length q → compared Extension n ≡ comparison p q
  second-ends e f =
      sym (between-begins.decides ∙ rw (components-end q l (omega arith)) (extension-by n (stands (drop k p)) (b.begins (omega (arith, b.within)))))

-- both paths go on, p from i and q from j, as far as p does up to `end`, and there one of them ends
pub record FirstEnd (p : List ℕ) (i : ℕ) (q : List ℕ) (j end : ℕ) : Type 0 where
  pub ahead : i ≤ end
  pub left : end ≤ length p
  pub right : j + end ≤ length q + i
  pub one : end < length p → j + end ≡ length q + i

-- i and j lie inside components, that of p begun at i₀, n are shared before it, what is left of both decides, and the first path to end does so at `end`
pub record Inside (p q : List ℕ) (n i₀ end i j : ℕ) : Type 0 where
  pub begun : 0 < rank_of (drop i₀ p)
  pub behind : i₀ ≤ i
  pub few : n ≤ i₀
  pub ends : FirstEnd p i q j end
  pub decides : comparison p q ≡ comparison_of n (inside (drop i p)) (inside (drop j q))

pub inside-start : {p q : List ℕ} {n i j end : ℕ} → Between p q n i j → 0 < rank_of (drop i p) → 0 < rank_of (drop j q) → FirstEnd p i q j end → Inside p q n i end i j
inside-start {p} {q} {n} {i} {j} s h k d = record {
  begun = h;
  behind = omega arith;
  few = s.few;
  ends = d;
  decides = s.decides ∙ ap₂ (comparison_of n) (begins-by (stands (drop i p)) h) (begins-by (stands (drop j q)) k);
}

-- the component that began at i₀ has been left at its end, and is shared
pub record Shared (p q : List ℕ) (n i₀ i j : ℕ) : Type 0 where
  pub passed : i₀ < i
  pub next : Between p q (n + 1) i j

-- a and b are the ranks at i and j
module _ {p q : List ℕ} {n i₀ end i j a b : ℕ} (s : Inside p q n i₀ end i j) (e : a ≡ rank_of (drop i p)) (f : b ≡ rank_of (drop j q)) where
  inside-end : a ≡ 0 → b ≡ 0 → Shared p q n i₀ i j
  inside-end y z = record {
    passed = beyond;
    next = record {
      left = omega (arith, s.ends.ahead, s.ends.left);
      right = omega (arith, s.ends.ahead, s.ends.right);
      few = omega (arith, beyond, s.few);
      decides = s.decides ∙ ended_by n (stands (drop i p)) (stands (drop j q)) (omega arith) (omega arith);
    };
  }
    where
      go : Dec (i₀ < i) → i₀ < i
      go (yes h) = h
      go (no h) =
          let g : i₀ ≡ i = omega (arith, s.behind) in
          absurd (omega (arith, s.begun, ap (λ (k : ℕ). rank_of (drop k p)) g))

      beyond : i₀ < i
      beyond = go (dec_lt i₀ i)

  -- where one path ends, the other's component ends too
  pub inside-last : i ≡ end → a ≡ b → Shared p q n i₀ i j
  inside-last h g = go (dec_lt i (length p))
    where
      go : Dec (i < length p) → Shared p q n i₀ i j
      go (yes l) = let z = rank-end q j (omega (arith, s.ends.one (omega arith))) in inside-end (omega arith) (omega arith)
      go (no l) = let z = rank-end p i (omega arith) in inside-end (omega arith) (omega arith)

  pub inside-less : a < b → compared Less n ≡ comparison p q
  inside-less h = sym (s.decides ∙ less_by n (stands (drop i p)) (stands (drop j q)) (omega arith))

  pub inside-greater : b < a → compared Greater n ≡ comparison p q
  inside-greater h = sym (s.decides ∙ greater-by n (stands (drop i p)) (stands (drop j q)) (omega arith))

-- neither path has ended
module _ {p q : List ℕ} {n i₀ end i j : ℕ} (s : Inside p q n i₀ end i j) (h : i < length p) (k : j < length q) where
  pub inside-byte : get_or p i 0 ≡ get_or q j 0 → (get_or p i 0 ≡ slash → ⊥) → i < end → Inside p q n i₀ end (i + 1) (j + 1)
  inside-byte e m l =
      let a = rank-byte p i h m in
      let b = rank-byte q j k (λ g. m (e ∙ g)) in
      record {
        begun = s.begun;
        behind = omega (arith, s.behind);
        few = s.few;
        ends = record {
          ahead = omega arith;
          left = s.ends.left;
          right = omega (arith, s.ends.right);
          one = λ m. omega (arith, s.ends.one m);
        };
        decides = s.decides ∙ rw (← drop-drop 1 i p, ← drop-drop 1 j q) (shared-by n (stands (drop i p)) (stands (drop j q)) (omega arith) (omega arith));
      }

  pub inside-slash : get_or p i 0 ≡ get_or q j 0 → get_or p i 0 ≡ slash → Shared p q n i₀ i j
  inside-slash e g = inside-end s (rank-slash p i h g) (rank-slash q j k (sym e ∙ g)) refl refl

  pub inside-differs : (get_or p i 0 ≡ get_or q j 0 → ⊥) → rank_of (drop i p) ≡ rank_of (drop j q) → ⊥
  inside-differs m e = m (rank_same _ _ (sym (rank-at p i h) ∙ e ∙ rank-at q j k))

pub ruleset between = (answered, between_start, both_end, first_ends, second-ends)
