-- Laws of the quick test `is_apart`: what it tells of two resolved paths.
use Prim.Native.Nat.{ℕ, ◌+◌, ◌%◌, ◌≤◌, ◌<◌}
use mathlib.Core.Path.{◌≡◌, refl, sym, ap, ◌∙◌, subst₂}
use mathlib.Core.List.{List, [], ◌∷◌, ◌++◌, append_assoc}
use mathlib.Core.Bool.{Bool, true, false, ◌&&◌, not-eq-not, false≢true}
use native.Mathlib.Omega.{arith}
use native.Mathlib.Decide.{dec_lt}
use lib.ListN.{length, get_or, get_or-append}
use borrow.Author.Tests.{eq-eqb, eqb-true}
use Rattle.paths.specs.Components.{same, components, slash, slashed, spell}
use Rattle.paths.specs.Resolving.{is_resolved}
use Rattle.paths.specs.Relations.{is_prefix}
use Rattle.paths.specs.CommonPart.{leads}
use Rattle.paths.specs.Relating.{same_byte, same_eight, SameBytes, TellsApart}
use Rattle.paths.proofs.ComponentLaws.{and_left, and_right, and_both, same-eq}
use Rattle.paths.proofs.ResolvingLaws.{spell-components}
use Rattle.paths.proofs.CommonLaws.{prefix-leads}
use Rattle.paths.proofs.RelationLaws.{prefix-length}

-- ---- eights

module _ {p q : List ℕ} where
  pub same_none : (n : ℕ) → SameBytes p q n n
  same_none n = record { bytes = λ k h l. absurd (omega arith) }

  same-fewer : (from from' to to' : ℕ) → from ≤ from' → to' ≤ to → SameBytes p q from to → SameBytes p q from' to'
  same-fewer from from' to to' h l s = record { bytes = λ k i j. s.bytes k (omega arith) (omega arith) }

  same-joined : (from mid to : ℕ) → SameBytes p q from mid → SameBytes p q mid to → SameBytes p q from to
  same-joined from mid to s t = record { bytes = λ k h l. go k h l (dec_lt k mid) }
    where
      go : (k : ℕ) → from ≤ k → k < to → Dec (k < mid) → get_or p k 0 ≡ get_or q k 0
      go k h l (yes i) = s.bytes k h i
      go k h l (no i) = t.bytes k (omega arith) l

  -- one byte, and one more behind those that were tested
  byte-same : (i : ℕ) → same_byte p q i ≡ true → SameBytes p q i (i + 1)
  byte-same i e = record {
    bytes = λ k h l. let k≡i : k ≡ i = omega arith in rw k≡i (eqb-true _ _ e);
  }

  tested : (i n : ℕ) {t : Bool} → (t ≡ true → SameBytes p q i (i + n)) → t && same_byte p q (i + n) ≡ true → SameBytes p q i (i + (n + 1))
  tested i n {t} f e =
      same-fewer i i (i + n + 1) (i + (n + 1)) (omega arith) (omega arith)
      (same-joined i (i + n) (i + n + 1) (f (and_left t _ e)) (byte-same (i + n) (and_right t _ e)))

  eight-bytes : (i : ℕ) → same_eight p q i ≡ true → SameBytes p q i (i + 8)
  eight-bytes i =
      tested i 7 (tested i 6 (tested i 5 (tested i 4 (tested i 3 (tested i 2 (tested i 1 (byte-same i)))))))

  -- eight bytes before those that are the same
  pub same-eight-more : (i n to : ℕ) → n ≡ i + 8 → same_eight p q i ≡ true → SameBytes p q n to → SameBytes p q i to
  same-eight-more i n to e t s = same-joined i n to (same-fewer i i (i + 8) n (omega arith) (omega arith) (eight-bytes i t)) s

  -- fewer than eight are left: all that is looked at was
  pub same_rest : (n to : ℕ) → n < 8 → n % 8 ≡ to % 8 → SameBytes p q n to → SameBytes p q (to % 8) to
  same_rest n to h e s = same-fewer n (to % 8) to to (omega arith) (omega arith) s

  -- eight of the bytes that are the same
  pub eight-same : (i from to : ℕ) → from ≤ i → i + 8 ≤ to → SameBytes p q from to → same_eight p q i ≡ true
  eight-same i from to h l s =
      let at : (k : ℕ) → i ≤ k → k < i + 8 → same_byte p q k ≡ true = λ k g m. eq-eqb _ _ (s.bytes k (omega arith) (omega arith)) in
      and_both (and_both (and_both (and_both (and_both (and_both (and_both
      (at i (omega arith) (omega arith))
      (at (i + 1) (omega arith) (omega arith)))
      (at (i + 2) (omega arith) (omega arith)))
      (at (i + 3) (omega arith) (omega arith)))
      (at (i + 4) (omega arith) (omega arith)))
      (at (i + 5) (omega arith) (omega arith)))
      (at (i + 6) (omega arith) (omega arith)))
      (at (i + 7) (omega arith) (omega arith))

pub ruleset eights = (same_none, same-eight-more, same_rest, eight-same)

-- ---- a prefix of a resolved path is its front

record Front (p q : List ℕ) : Type 0 where
  rest : List ℕ
  whole : q ≡ p ++ rest

slashed-front : (cs ds : List (List ℕ)) → leads cs ds ≡ true → Front (slashed cs) (slashed ds)
unfolding leads slashed
slashed-front [] ds l = record { rest = slashed ds; whole = refl }
slashed-front (c ∷ cs) [] l = absurd (false≢true l)
slashed-front (c ∷ cs) (d ∷ ds) l =
    let f = slashed-front cs ds (and_right (same c d) _ l) in
    record {
      rest = f.rest;
      whole =
          ap (λ (t : List ℕ). slash ∷ d ++ t) f.whole
          ∙ ap (◌∷◌ slash) (sym (append_assoc d (slashed cs) f.rest))
          ∙ ap (λ (x : List ℕ). slash ∷ (x ++ slashed cs) ++ f.rest) (sym (same-eq c d (and_left (same c d) _ l)));
    }

spell-front : (cs ds : List (List ℕ)) → leads cs ds ≡ true → Front (spell cs) (spell ds)
unfolding leads slashed spell
spell-front [] [] l = record { rest = []; whole = refl }
spell-front [] (d ∷ ds) l = record { rest = d ++ slashed ds; whole = refl }
spell-front (c ∷ cs) [] l = absurd (false≢true l)
spell-front (c ∷ cs) (d ∷ ds) l = slashed-front (c ∷ cs) (d ∷ ds) l

front_same : {p q : List ℕ} → Front p q → SameBytes p q 0 (length p)
front_same {p} f = record { bytes = λ k h l. rw f.whole (sym (get_or-append p f.rest 0 k l)) }

prefix-front : (p q : List ℕ) → is_resolved p ≡ true → is_resolved q ≡ true → is_prefix p q ≡ true → Front p q
prefix-front p q rp rq h =
    let f : Front (spell (components p)) (spell (components q)) = spell-front (components p) (components q) (sym (prefix-leads p q) ∙ h) in
    subst₂ Front (spell-components p rp) (spell-components q rq) f

-- where the quick test tells two resolved paths apart, neither is a prefix of the other
module _ (p q : List ℕ) (rp : is_resolved p ≡ true) (rq : is_resolved q ≡ true) {r : Bool} (T : TellsApart p q r) (told : r ≡ true) where
  pub apart-prefix : is_prefix p q ≡ false
  apart-prefix = (not-eq-not {b = false}).0 (λ h.
      let n = prefix-length p q rp rq h in
      T.apart told (same-fewer 0 _ (length p) _ (omega arith) (omega arith) (front_same (prefix-front p q rp rq h))))

  pub apart-extension : is_prefix q p ≡ false
  apart-extension = (not-eq-not {b = false}).0 (λ h.
      let n = prefix-length q p rq rp h in
      T.apart told (record { bytes = λ k i j. sym ((front_same (prefix-front q p rq rp h)).bytes k (omega arith) (omega arith)) }))
