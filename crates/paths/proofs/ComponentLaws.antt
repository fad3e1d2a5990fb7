-- Laws of bytes, components and spelling.
use Prim.Native.Nat.{ℕ}
use mathlib.Core.Path.{◌≡◌, refl, sym, ap, ap₂, ◌∙◌}
use mathlib.Core.List.{List, [], ◌∷◌, ◌++◌, drop_last, nil≢cons, tail-eq_of_cons-eq}
use mathlib.Core.Bool.{Bool, true, false, ◌&&◌, cond, false≢true}
use lib.Dec.{eqb}
use borrow.Author.Tests.{eq-eqb, ne_eqb, eqb-true, eqb-false}
use Rattle.paths.specs.Components.{slash, same, grown, parted, pieces, slashed}

-- ---- the two parts of a test

pub and_left : (a b : Bool) → a && b ≡ true → a ≡ true
and_left true b e = refl
and_left false b e = e

pub and_right : (a b : Bool) → a && b ≡ true → b ≡ true
and_right true b e = e
and_right false b e = absurd (false≢true e)

pub and_both : {a b : Bool} → a ≡ true → b ≡ true → a && b ≡ true
and_both p q = rw (p, q)

-- one of two, by a test
pub either : {A : Type 0} (F : A → Type 0) (b : Bool) (x y : A) → F x → F y → F (cond b x y)
either F true x y p q = p
either F false x y p q = q

-- ---- the same bytes

pub same_refl : (p : List ℕ) → same p p ≡ true
unfolding same
same_refl [] = refl
same_refl (b ∷ p) = and_both (eq-eqb b b refl) (same_refl p)

pub same-eq : (p q : List ℕ) → same p q ≡ true → p ≡ q
unfolding same
same-eq [] [] e = refl
same-eq [] (b ∷ q) e = absurd (false≢true e)
same-eq (a ∷ p) [] e = absurd (false≢true e)
same-eq (a ∷ p) (b ∷ q) e = ap₂ ◌∷◌ (eqb-true a b (and_left (eqb a b) _ e)) (same-eq p q (and_right (eqb a b) _ e))

-- ---- components without a slash

pub data Unslashed : List ℕ → Type 0 where
  none : Unslashed []
  more : {b : ℕ} {c : List ℕ} → (b ≡ slash → ⊥) → Unslashed c → Unslashed (b ∷ c)

-- one more byte, no slash
pub unslashed-snoc : {c : List ℕ} (b : ℕ) → Unslashed c → (b ≡ slash → ⊥) → Unslashed (c ++ b ∷ [])
unslashed-snoc b none h = more h none
unslashed-snoc b (more k u) h = more k (unslashed-snoc b u h)

pub data Each (P : List ℕ → Type 0) : List (List ℕ) → Type 0 where
  nil : Each P []
  cons : {c : List ℕ} {cs : List (List ℕ)} → P c → Each P cs → Each P (c ∷ cs)

-- ---- pieces

pub pieces-slash : (p : List ℕ) → pieces (slash ∷ p) ≡ [] ∷ pieces p
unfolding pieces parted
pieces-slash p = refl

pub pieces-byte : (b : ℕ) (p : List ℕ) → (b ≡ slash → ⊥) → pieces (b ∷ p) ≡ grown b (pieces p)
unfolding pieces parted
pieces-byte b p h = rw (ne_eqb b slash h)

grown-unslashed : {b : ℕ} {cs : List (List ℕ)} → (b ≡ slash → ⊥) → Each Unslashed cs → Each Unslashed (grown b cs)
unfolding grown
grown-unslashed h nil = cons (more h none) nil
grown-unslashed h (cons c cs) = cons (more h c) cs

parted-unslashed : (t : Bool) (b : ℕ) {cs : List (List ℕ)} → eqb b slash ≡ t → Each Unslashed cs → Each Unslashed (parted t b cs)
unfolding parted
parted-unslashed true b e cs = cons none cs
parted-unslashed false b e cs = grown-unslashed (eqb-false b slash e) cs

pub pieces-unslashed : (p : List ℕ) → Each Unslashed (pieces p)
unfolding pieces
pieces-unslashed [] = cons none nil
pieces-unslashed (b ∷ p) = parted-unslashed (eqb b slash) b refl (pieces-unslashed p)

-- a component, and what slashes part behind it
pub pieces-component : {c : List ℕ} (cs : List (List ℕ)) → Unslashed c → pieces (slashed cs) ≡ [] ∷ cs → pieces (c ++ slashed cs) ≡ c ∷ cs
unfolding grown
pieces-component cs none e = e
pieces-component cs (more {b = b} {c = c} h u) e = pieces-byte b (c ++ slashed cs) h ∙ ap (grown b) (pieces-component cs u e)

-- a component that a slash ends
pub pieces-until : {c : List ℕ} (r : List ℕ) → Unslashed c → pieces (c ++ slash ∷ r) ≡ c ∷ pieces r
unfolding grown
pieces-until r none = pieces-slash r
pieces-until r (more {b = b} {c = c} h u) = pieces-byte b (c ++ slash ∷ r) h ∙ ap (grown b) (pieces-until r u)

-- the last component
pub pieces-last : {c : List ℕ} → Unslashed c → pieces c ≡ c ∷ []
unfolding grown pieces
pieces-last none = refl
pieces-last (more {b = b} {c = c} h u) = pieces-byte b c h ∙ ap (grown b) (pieces-last u)

-- slashes part what they join
pub pieces-slashed : {cs : List (List ℕ)} → Each Unslashed cs → pieces (slashed cs) ≡ [] ∷ cs
unfolding slashed pieces
pieces-slashed nil = refl
pieces-slashed (cons {c = c} {cs = cs} u us) = pieces-slash (c ++ slashed cs) ∙ ap (◌∷◌ []) (pieces-component cs u (pieces-slashed us))

slashed-grown : (b : ℕ) (p : List ℕ) (cs : List (List ℕ)) → slashed cs ≡ slash ∷ p → slashed (grown b cs) ≡ slash ∷ b ∷ p
unfolding slashed grown
slashed-grown b p [] e = absurd (nil≢cons e)
slashed-grown b p (c ∷ cs) e = ap (λ (l : List ℕ). slash ∷ b ∷ l) (tail-eq_of_cons-eq e)

slashed-parted : (t : Bool) (b : ℕ) (p : List ℕ) (cs : List (List ℕ)) → eqb b slash ≡ t → slashed cs ≡ slash ∷ p → slashed (parted t b cs) ≡ slash ∷ b ∷ p
unfolding slashed parted
slashed-parted true b p cs e h = ap (◌∷◌ slash) (h ∙ ap (λ (x : ℕ). x ∷ p) (sym (eqb-true b slash e)))
slashed-parted false b p cs e h = slashed-grown b p cs h

-- and join what they part
pub slashed-pieces : (p : List ℕ) → slashed (pieces p) ≡ slash ∷ p
unfolding slashed pieces
slashed-pieces [] = refl
slashed-pieces (b ∷ p) = slashed-parted (eqb b slash) b p (pieces p) refl (slashed-pieces p)

-- ---- what holds of each component

module _ {P : List ℕ → Type 0} where
  pub each_append : {cs ds : List (List ℕ)} → Each P cs → Each P ds → Each P (cs ++ ds)
  each_append nil v = v
  each_append (cons p u) v = cons p (each_append u v)

  pub each-drop_last : {cs : List (List ℕ)} → Each P cs → Each P (drop_last cs)
  each-drop_last nil = nil
  each-drop_last (cons p nil) = nil
  each-drop_last (cons p (cons q u)) = cons p (each-drop_last (cons q u))
