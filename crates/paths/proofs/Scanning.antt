-- Laws of scanning: components as `split` gives them, a test of them from the left on, names, and resolved form by names.
use Prim.Native.Nat.{ℕ, suc, ◌+◌, ◌-◌, ◌≤◌, ◌<◌}
use mathlib.Core.Path.{◌≡◌, refl, sym, ap, ◌∙◌}
use mathlib.Core.List.{List, [], ◌∷◌, ◌++◌, tail-eq_of_cons-eq, nil≢cons}
use mathlib.Core.Bool.{Bool, true, false, ◌&&◌, not, cond, false≢true}
use native.Mathlib.Omega.{arith}
use native.Mathlib.Numerals.{add-one}
use lib.ListN.{length, get_or, take, drop, length-drop, take-append-drop}
use lib.Seq.{take-suc, drop-cons, drop-drop, get_or-drop, take_all}
use lib.Dec.{eqb}
use Rattle.std.specs.List.{slice_split, onto_first, list_all}
use borrow.Author.Count.{below_more}
use borrow.Author.Tests.{ne_eqb, eq-eqb, eqb-true, eqb-false}
use Rattle.paths.specs.Components.{slash, dot, same, grown, parted, pieces, slashed, spell}
use Rattle.paths.specs.Resolving.{is_absolute, is_name, entered, enter_all, normalize, is_resolved}
use Rattle.paths.specs.Scanning.{all_names, plain_pair, PlainBelow, plain_at, plain_eight}
use Rattle.paths.proofs.ComponentLaws.{and_left, and_right, and_both, Unslashed, none, unslashed-snoc, Each, nil, cons, pieces-slash, pieces-byte, pieces-until, pieces-last, pieces-unslashed, pieces-slashed, slashed-pieces}
use Rattle.paths.proofs.ResolvingLaws.{Name, Spelled, resolved-spelled, spelled-resolved, resolved-absolute}

-- ---- slashes part a path as std's `split` does

pub pieces-split : (p : List ℕ) → pieces p ≡ slice_split (λ b. eqb b slash) p
unfolding pieces parted grown
pieces-split [] = refl
pieces-split (b ∷ p) = go (eqb b slash) (pieces p) ∙ ap (λ (cs : List (List ℕ)). cond (eqb b slash) ([] ∷ cs) (onto_first b cs)) (pieces-split p)
  where
    go : (t : Bool) (cs : List (List ℕ)) → parted t b cs ≡ cond t ([] ∷ cs) (onto_first b cs)
    go true cs = refl
    go false [] = refl
    go false (c ∷ cs) = refl

pub all_names-all : (cs : List (List ℕ)) → all_names cs ≡ list_all is_name cs
unfolding all_names
all_names-all [] = refl
all_names-all (c ∷ cs) = ap (λ (t : Bool). is_name c && t) (all_names-all cs)

-- ---- a component is a name, by its length and its first two bytes

pub and-false : (t : Bool) → t && false ≡ false
and-false true = refl
and-false false = refl

pub is_name-empty : (c : List ℕ) → length c ≡ 0 → is_name c ≡ false
unfolding is_name same
is_name-empty [] h = refl
is_name-empty (a ∷ c) h = absurd (omega arith)

pub is_name-long : (c : List ℕ) → 2 < length c → is_name c ≡ true
unfolding is_name same
is_name-long [] h = absurd (omega arith)
is_name-long (a ∷ []) h = absurd (omega arith)
is_name-long (a ∷ b ∷ []) h = absurd (omega arith)
is_name-long (a ∷ b ∷ d ∷ c) h = rw (and-false (eqb b dot), and-false (eqb a dot))

pub is_name-other : (c : List ℕ) → 0 < length c → (get_or c 0 0 ≡ dot → ⊥) → is_name c ≡ true
unfolding is_name same
is_name-other [] h k = absurd (omega arith)
is_name-other (a ∷ c) h k = rw (ne_eqb a dot k)

pub is_name-dot : (c : List ℕ) → length c ≡ 1 → get_or c 0 0 ≡ dot → is_name c ≡ false
unfolding is_name same
is_name-dot [] h k = refl
is_name-dot (a ∷ []) h k = rw k
is_name-dot (a ∷ b ∷ c) h k = absurd (omega arith)

pub is_name-up : (c : List ℕ) → length c ≡ 2 → get_or c 0 0 ≡ dot → get_or c 1 0 ≡ dot → is_name c ≡ false
unfolding is_name same
is_name-up [] h k l = refl
is_name-up (a ∷ []) h k l = absurd (omega arith)
is_name-up (a ∷ b ∷ []) h k l = rw (k, l)
is_name-up (a ∷ b ∷ d ∷ c) h k l = absurd (omega arith)

pub is_name-second : (c : List ℕ) → length c ≡ 2 → (get_or c 1 0 ≡ dot → ⊥) → is_name c ≡ true
unfolding is_name same
is_name-second [] h k = absurd (omega arith)
is_name-second (a ∷ []) h k = absurd (omega arith)
is_name-second (a ∷ b ∷ []) h k = rw (ne_eqb b dot k, and-false (eqb a dot))
is_name-second (a ∷ b ∷ d ∷ c) h k = absurd (omega arith)

pub ruleset names = (is_name-empty, is_name-dot, is_name-up, is_name-long, is_name-other, is_name-second)

-- ---- every component is a name

each-all_names : {cs : List (List ℕ)} → Each Name cs → all_names cs ≡ true
unfolding all_names
each-all_names nil = refl
each-all_names (cons n ns) = and_both n (each-all_names ns)

all_names-each : (cs : List (List ℕ)) → all_names cs ≡ true → Each Name cs
unfolding all_names
all_names-each [] e = nil
all_names-each (c ∷ cs) e = cons (and_left (is_name c) _ e) (all_names-each cs (and_right (is_name c) _ e))

-- ---- components from the left on

-- at i the component that begins at `from` has not ended: no slash came in it yet
pub record Open (p : List ℕ) (from i : ℕ) : Type 0 where
  pub low : from ≤ i
  pub clean : Unslashed (take (i - from) (drop from p))

pub open-start : (p : List ℕ) → Open p 0 0
open-start p = record { low = omega arith; clean = none }

-- after a slash the next one begins
pub open-next : (p : List ℕ) (i : ℕ) → Open p (i + 1) (i + 1)
open-next p i = let z : i + 1 - (i + 1) ≡ 0 = omega arith in record { low = omega arith; clean = rw z none }

module _ {p : List ℕ} {from i : ℕ} (s : Open p from i) where
  -- no slash: the component goes on
  pub open-byte : i < length p → (get_or p i 0 ≡ slash → ⊥) → Open p from (i + 1)
  open-byte h k =
      let e : i + 1 - from ≡ suc (i - from) = omega (arith, s.low) in
      let j : from + (i - from) ≡ i = omega (arith, s.low) in
      let l : i - from < length (drop from p) = omega (arith, length-drop from p, s.low) in
      record {
        low = omega (arith, s.low);
        clean = rw (e, take-suc (drop from p) (i - from) 0 l, get_or-drop from p (i - from) 0, j) (unslashed-snoc (get_or p i 0) s.clean k);
      }

  -- a slash ends it, and the others are those after the slash
  pub open-parts : i < length p → get_or p i 0 ≡ slash → pieces (drop from p) ≡ take (i - from) (drop from p) ∷ pieces (drop (i + 1) p)
  open-parts h k =
      let j : from + (i - from) ≡ i = omega (arith, s.low) in
      let e : drop (i - from) (drop from p) ≡ slash ∷ drop (i + 1) p = rw (drop-drop, j, add-one i, drop-cons p i 0 h, k) in
      ap pieces (sym (take-append-drop (i - from) (drop from p)) ∙ ap (λ (l : List ℕ). take (i - from) (drop from p) ++ l) e)
      ∙ pieces-until (drop (i + 1) p) s.clean

  -- at the path's end it is the last
  pub open-last : i ≡ length p → pieces (drop from p) ≡ take (length p - from) (drop from p) ∷ []
  open-last h = pieces-open h ∙ ap (λ (c : List ℕ). c ∷ []) (sym (whole h))
    where
      whole : i ≡ length p → take (length p - from) (drop from p) ≡ drop from p
      whole h = take_all (length p - from) (drop from p) (omega (arith, length-drop from p))

      pieces-open : i ≡ length p → pieces (drop from p) ≡ drop from p ∷ []
      pieces-open h = pieces-last (rw (h, whole h) at s.clean)

-- ---- a test of each

-- at i no component that ended was refused
pub record Testing (p : List ℕ) (from i : ℕ) : Type 0 where
  pub present : Open p from i
  pub names : all_names (pieces p) ≡ all_names (pieces (drop from p))

pub testing-start : (p : List ℕ) → Testing p 0 0
testing-start p = record { present = open-start p; names = refl }

and-true : (t : Bool) → t && true ≡ t
and-true true = refl
and-true false = refl

module _ (p : List ℕ) (from i : ℕ) (s : Testing p from i) where
  pub testing-byte : i < length p → (get_or p i 0 ≡ slash → ⊥) → Testing p from (i + 1)
  testing-byte h k = record { present = open-byte s.present h k; names = s.names }

  pub testing-name : i < length p → get_or p i 0 ≡ slash → is_name (take (i - from) (drop from p)) ≡ true → Testing p (i + 1) (i + 1)
  unfolding all_names
  testing-name h k e = record { present = open-next p i; names = s.names ∙ rw (open-parts s.present h k, e) }

  pub testing-refused : i < length p → get_or p i 0 ≡ slash → is_name (take (i - from) (drop from p)) ≡ false → all_names (pieces p) ≡ false
  unfolding all_names
  testing-refused h k e = s.names ∙ rw (open-parts s.present h k, e)

  pub testing-end : i ≡ length p → is_name (take (length p - from) (drop from p)) ≡ all_names (pieces p)
  unfolding all_names
  testing-end h = sym (s.names ∙ ap all_names (open-last s.present h) ∙ and-true (is_name (take (length p - from) (drop from p))))

pub ruleset testing = (testing-byte, testing-name, testing-refused, testing-end)

-- ---- resolved form by names

-- two tests of which each follows from the other
both : (a b : Bool) → (a ≡ true → b ≡ true) → (b ≡ true → a ≡ true) → a ≡ b
both true b f g = sym (f refl)
both false true f g = g refl
both false false f g = refl

spell-slashed : (cs : List (List ℕ)) (q : List ℕ) → slashed cs ≡ slash ∷ q → spell cs ≡ slash ∷ q
unfolding spell slashed
spell-slashed [] q e = absurd (nil≢cons e)
spell-slashed (c ∷ cs) q e = e

-- what spells a path longer than the root are its components behind the first slash
spelled-pieces : (cs : List (List ℕ)) (b : ℕ) (q : List ℕ) → Each Unslashed cs → spell cs ≡ slash ∷ b ∷ q → pieces (b ∷ q) ≡ cs
unfolding spell
spelled-pieces [] b q us e = absurd (nil≢cons (tail-eq_of_cons-eq e))
spelled-pieces (c ∷ cs) b q us e = tail-eq_of_cons-eq (sym (pieces-slash (b ∷ q)) ∙ ap pieces (sym e) ∙ pieces-slashed us)

resolved-when : (b : ℕ) (q : List ℕ) → is_resolved (slash ∷ b ∷ q) ≡ all_names (pieces (b ∷ q))
resolved-when b q =
    both _ _
    (λ e. let s : Spelled (slash ∷ b ∷ q) = resolved-spelled (slash ∷ b ∷ q) e in rw (spelled-pieces s.names b q s.unslashed s.spells) (each-all_names s.named))
    (λ e. spelled-resolved (slash ∷ b ∷ q) (record {
      names = pieces (b ∷ q);
      spells = spell-slashed (pieces (b ∷ q)) (b ∷ q) (slashed-pieces (b ∷ q));
      named = all_names-each (pieces (b ∷ q)) e;
      unslashed = pieces-unslashed (b ∷ q);
    }))

absolute-slash : (p : List ℕ) → is_absolute p ≡ true → (0 < length p) × (get_or p 0 0 ≡ slash)
unfolding is_absolute
absolute-slash [] e = absurd (false≢true e)
absolute-slash (b ∷ p) e = (omega arith, eqb-true b slash e)

pub absolute_some : (p : List ℕ) → is_absolute p ≡ true → 0 < length p
absolute_some p e = (absolute-slash p e).0

pub absolute_first : (p : List ℕ) → is_absolute p ≡ true → get_or p 0 0 ≡ slash
absolute_first p e = (absolute-slash p e).1

names-resolved : (p : List ℕ) → 1 < length p → get_or p 0 0 ≡ slash → is_resolved p ≡ all_names (pieces (take (length p - 1) (drop 1 p)))
names-resolved [] h k = absurd (omega arith)
names-resolved (a ∷ []) h k = absurd (omega arith)
names-resolved (a ∷ b ∷ q) h k =
    ap (λ (x : ℕ). is_resolved (x ∷ b ∷ q)) k ∙ resolved-when b q
    ∙ ap (λ (l : List ℕ). all_names (pieces l)) (sym (take_all (length (a ∷ b ∷ q) - 1) (b ∷ q) (omega arith)))

pub resolved-names : (p : List ℕ) → is_absolute p ≡ true → (length p ≡ 1 → ⊥) → is_resolved p ≡ all_names (pieces (take (length p - 1) (drop 1 p)))
resolved-names p e h = names-resolved p (omega (arith, absolute_some p e)) (absolute_first p e)

root-resolved : (p : List ℕ) → length p ≡ 1 → get_or p 0 0 ≡ slash → is_resolved p ≡ true
unfolding is_resolved normalize spell pieces parted enter_all entered same
root-resolved [] h k = absurd (omega arith)
root-resolved (a ∷ []) h k = ap (λ (x : ℕ). is_resolved (x ∷ [])) k
root-resolved (a ∷ b ∷ q) h k = absurd (omega arith)

pub resolved-root : (p : List ℕ) → is_absolute p ≡ true → length p ≡ 1 → is_resolved p ≡ true
resolved-root p e h = root-resolved p h (absolute_first p e)

pub relative-unresolved : (p : List ℕ) → is_absolute p ≡ false → is_resolved p ≡ false
relative-unresolved p e = both (is_resolved p) false (λ f. absurd (false≢true (sym e ∙ resolved-absolute p f))) (λ f. absurd (false≢true f))

pub ruleset resolved = (absolute_some, absolute_first, resolved-names, resolved-root, relative-unresolved)

-- ---- the quick test

unfoldable behind_first : List (List ℕ) → List (List ℕ)
behind_first [] = []
behind_first (c ∷ cs) = cs

-- a byte and those behind it: behind a slash neither a slash nor a dot stands, and the last is no slash
data Plain : ℕ → List ℕ → Type 0 where
  last : {a : ℕ} → (a ≡ slash → ⊥) → Plain a []
  next : {a b : ℕ} {p : List ℕ} → plain_pair a b ≡ true → Plain b p → Plain a (b ∷ p)

behind_first-byte : (a : ℕ) (p : List ℕ) → (a ≡ slash → ⊥) → behind_first (pieces (a ∷ p)) ≡ behind_first (pieces p)
unfolding behind_first grown
behind_first-byte a p h = ap behind_first (pieces-byte a p h) ∙ go (pieces p)
  where
    go : (cs : List (List ℕ)) → behind_first (grown a cs) ≡ behind_first cs
    go [] = refl
    go (c ∷ cs) = refl

-- a component that begins with a dot may be no name, any other is one
all_names-grown : (b : ℕ) (cs : List (List ℕ)) → (b ≡ dot → ⊥) → all_names (behind_first cs) ≡ true → all_names (grown b cs) ≡ true
unfolding all_names behind_first grown
all_names-grown b [] h e = and_both (is_name-other (b ∷ []) (omega arith) h) refl
all_names-grown b (c ∷ cs) h e = and_both (is_name-other (b ∷ c) (omega arith) h) e

pair-slash : (a b : ℕ) → plain_pair a b ≡ true → a ≡ slash → (b ≡ slash → ⊥) × (b ≡ dot → ⊥)
pair-slash a b e f =
    let g : not (eqb b slash) && not (eqb b dot) ≡ true = rw (eq-eqb a slash f) at e in (
      λ h. absurd (false≢true (sym (ap not (eq-eqb b slash h)) ∙ and_left (not (eqb b slash)) _ g)),
      λ h. absurd (false≢true (sym (ap not (eq-eqb b dot h)) ∙ and_right (not (eqb b slash)) _ g)),
    )

plain-behind : {a : ℕ} {p : List ℕ} → Plain a p → all_names (behind_first (pieces (a ∷ p))) ≡ true
unfolding all_names behind_first pieces
plain-behind {a} (last h) = ap all_names (behind_first-byte a [] h)
plain-behind {a} (next {b = b} {p = p} e r) = go (eqb a slash) refl (plain-behind r)
  where
    go : (t : Bool) → eqb a slash ≡ t → all_names (behind_first (pieces (b ∷ p))) ≡ true → all_names (behind_first (pieces (a ∷ b ∷ p))) ≡ true
    go false f g = ap all_names (behind_first-byte a (b ∷ p) (eqb-false a slash f)) ∙ g
    go true f g =
        let h = pair-slash a b e (eqb-true a slash f) in
        ap (λ (x : ℕ). all_names (behind_first (pieces (x ∷ b ∷ p)))) (eqb-true a slash f)
        ∙ ap (λ (cs : List (List ℕ)). all_names (behind_first cs)) (pieces-slash (b ∷ p))
        ∙ ap all_names (pieces-byte b p h.0)
        ∙ all_names-grown b (pieces p) h.1 (sym (ap all_names (behind_first-byte b p h.0)) ∙ g)

plain_by : (a : ℕ) (p : List ℕ) → ((k : ℕ) → k < length p → plain_pair (get_or (a ∷ p) k 0) (get_or (a ∷ p) (k + 1) 0) ≡ true) → (get_or (a ∷ p) (length p) 0 ≡ slash → ⊥) → Plain a p
plain_by a [] f h = last h
plain_by a (b ∷ p) f h = next (f 0 (omega arith)) (plain_by b p (λ k l. go k (f (suc k) (omega arith))) h)
  where
    go : (k : ℕ) → plain_pair (get_or (a ∷ b ∷ p) (suc k) 0) (get_or (a ∷ b ∷ p) (suc k + 1) 0) ≡ true → plain_pair (get_or (b ∷ p) k 0) (get_or (b ∷ p) (k + 1) 0) ≡ true
    go k e =
        let g : suc k + 1 ≡ suc (k + 1) = omega arith in
        rw g at e

pub plain-resolved : (p : List ℕ) (n : ℕ) → n + 1 ≡ length p → 1 < length p → get_or p 0 0 ≡ slash → (get_or p n 0 ≡ slash → ⊥) → PlainBelow p n → is_resolved p ≡ true
unfolding behind_first pieces parted
plain-resolved [] n e h k l f = absurd (omega arith)
plain-resolved (a ∷ []) n e h k l f = absurd (omega arith)
plain-resolved (a ∷ b ∷ q) n e h k l f =
    let z : n ≡ length (b ∷ q) = omega arith in
    ap (λ (x : ℕ). is_resolved (x ∷ b ∷ q)) k ∙ resolved-when b q ∙ sym (ap (λ (x : ℕ). all_names (behind_first (pieces (x ∷ b ∷ q)))) k)
    ∙ plain-behind (plain_by a (b ∷ q) (λ m w. f.pairs m (omega arith)) (λ g. l (rw z g)))

-- ---- the pairs tested so far

module _ (p : List ℕ) where
  pub plain-none : PlainBelow p 0
  plain-none = record { pairs = λ k l. absurd (omega arith) }

  plain-fewer : (m n : ℕ) → m ≤ n → PlainBelow p n → PlainBelow p m
  plain-fewer m n h f = record { pairs = λ k l. f.pairs k (omega arith) }

  pub plain_more : (n : ℕ) → PlainBelow p n → plain_pair (get_or p n 0) (get_or p (n + 1) 0) ≡ true → PlainBelow p (n + 1)
  plain_more n f e = record { pairs = below_more (λ (k : ℕ). plain_pair (get_or p k 0) (get_or p (k + 1) 0) ≡ true) n f.pairs e }

  -- one more, where a test of those before it and of this one holds
  plain-tested : (at : ℕ) {t : Bool} (k : ℕ) → (t ≡ true → PlainBelow p (at + k)) → t && plain_at p at k ≡ true → PlainBelow p (at + (k + 1))
  plain-tested at {t} k f e =
      let g : at + (k + 1) ≡ at + k + 1 = omega arith in
      rw g (plain_more (at + k) (f (and_left t _ e)) (rw g at (and_right t _ e)))

  -- eight that begin where the tested ones end, or before
  pub plain-eight : (at n m : ℕ) → at ≤ n → m ≤ at + 8 → PlainBelow p n → plain_eight p at ≡ true → PlainBelow p m
  plain-eight at n m h k f t =
      plain-fewer m (at + 8) k
      (plain-tested at 7 (plain-tested at 6 (plain-tested at 5 (plain-tested at 4 (plain-tested at 3 (plain-tested at 2 (plain-tested at 1
      (plain_more at (plain-fewer at n h f)))))))) t)

pub ruleset plain = (plain-none, plain-eight, plain-resolved)
