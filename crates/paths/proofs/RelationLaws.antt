-- Laws of prefix and path order.
use Prim.Native.Nat.{ℕ, zero, suc, ◌≤◌, ◌<◌}
use mathlib.Core.Path.{◌≡◌, refl, sym, ap, ap₂, ◌∙◌, subst}
use mathlib.Core.List.{List, [], ◌∷◌}
use mathlib.Core.Logic.{◌⊎◌, inl, inr}
use mathlib.Core.Bool.{Bool, true, false, ◌&&◌, false≢true}
use native.Mathlib.Omega.{arith}
use native.Mathlib.Decide.{dec_lt}
use lib.IntN.{ℤ, pos, negsuc, neg_ℤ}
use lib.ListN.{length, length-append}
use lib.Dec.{eqb}
use borrow.Author.Tests.{eq-eqb, ne_eqb, lt-ltb, le-ltb}
use Rattle.paths.specs.Components.{slash, same, parted, pieces, without_empty, components, slashed, spell}
use Rattle.paths.specs.Resolving.{is_resolved}
use Rattle.paths.specs.Relations.{
  is_prefix,
  less,
  equal,
  greater,
  number_order,
  or_else,
  in_turn,
  path_order,
  related_by,
  relation,
  comparison,
}
use Rattle.paths.specs.CommonPart.{leads}
use Rattle.paths.specs.declared.Relation.{Relation}
use Rattle.paths.specs.declared.Relation.TheVariants.{Equal, Prefix, Extension, Less, Greater}
use Rattle.paths.specs.declared.Comparison.{Comparison}
use Rattle.paths.proofs.ComponentLaws.{and_left, and_right, and_both, same_refl, same-eq}
use Rattle.paths.proofs.ResolvingLaws.{spell-components}
use Rattle.paths.proofs.CommonLaws.{prefix-leads}

-- ---- prefix

leads-refl : (cs : List (List ℕ)) → leads cs cs ≡ true
unfolding leads
leads-refl [] = refl
leads-refl (c ∷ cs) = and_both (same_refl c) (leads-refl cs)

leads-trans : (cs ds es : List (List ℕ)) → leads cs ds ≡ true → leads ds es ≡ true → leads cs es ≡ true
unfolding leads
leads-trans [] ds es p q = refl
leads-trans (c ∷ cs) [] es p q = absurd (false≢true p)
leads-trans (c ∷ cs) (d ∷ ds) [] p q = absurd (false≢true q)
leads-trans (c ∷ cs) (d ∷ ds) (e ∷ es) p q =
    and_both
    (subst (λ (x : List ℕ). same c x ≡ true) (same-eq d e (and_left (same d e) _ q)) (and_left (same c d) _ p))
    (leads-trans cs ds es (and_right (same c d) _ p) (and_right (same d e) _ q))

leads-antisym : (cs ds : List (List ℕ)) → leads cs ds ≡ true → leads ds cs ≡ true → cs ≡ ds
unfolding leads
leads-antisym [] [] p q = refl
leads-antisym [] (d ∷ ds) p q = absurd (false≢true q)
leads-antisym (c ∷ cs) [] p q = absurd (false≢true p)
leads-antisym (c ∷ cs) (d ∷ ds) p q =
    ap₂ ◌∷◌ (same-eq c d (and_left (same c d) _ p)) (leads-antisym cs ds (and_right (same c d) _ p) (and_right (same d c) _ q))

leads-length : (cs ds : List (List ℕ)) → leads cs ds ≡ true → length (slashed cs) ≤ length (slashed ds)
unfolding leads slashed
leads-length [] ds p = omega arith
leads-length (c ∷ cs) [] p = absurd (false≢true p)
leads-length (c ∷ cs) (d ∷ ds) p =
    omega (
      arith,
      leads-length cs ds (and_right (same c d) _ p),
      length-append c (slashed cs),
      length-append d (slashed ds),
      ap length (same-eq c d (and_left (same c d) _ p)),
    )

pub prefix_refl : (p : List ℕ) → is_prefix p p ≡ true
prefix_refl p = prefix-leads p p ∙ leads-refl (components p)

pub prefix_trans : (p q r : List ℕ) → is_prefix p q ≡ true → is_prefix q r ≡ true → is_prefix p r ≡ true
prefix_trans p q r = rw (prefix-leads p q, prefix-leads q r, prefix-leads p r) (leads-trans (components p) (components q) (components r))

-- two paths that are prefixes of each other have the same components
pub prefix-components : (p q : List ℕ) → is_prefix p q ≡ true → is_prefix q p ≡ true → components p ≡ components q
prefix-components p q = rw (prefix-leads p q, prefix-leads q p) (leads-antisym (components p) (components q))

-- the root is a prefix of all
pub root-prefix : (q : List ℕ) → is_prefix (slash ∷ []) q ≡ true
unfolding components pieces parted without_empty leads
root-prefix q = prefix-leads (slash ∷ []) q

-- ---- on resolved paths

-- resolved paths with the same components have the same bytes
pub components-bytes : (p q : List ℕ) → is_resolved p ≡ true → is_resolved q ≡ true → components p ≡ components q → p ≡ q
components-bytes p q rp rq e = sym (spell-components p rp) ∙ ap spell e ∙ spell-components q rq

pub prefix-antisym : (p q : List ℕ) → is_resolved p ≡ true → is_resolved q ≡ true → is_prefix p q ≡ true → is_prefix q p ≡ true → p ≡ q
prefix-antisym p q rp rq a b = components-bytes p q rp rq (prefix-components p q a b)

spell-length : (cs ds : List (List ℕ)) → leads cs ds ≡ true → length (spell cs) ≤ length (spell ds)
unfolding spell slashed leads
spell-length [] [] p = omega arith
spell-length [] (d ∷ ds) p = omega arith
spell-length (c ∷ cs) [] p = absurd (false≢true p)
spell-length (c ∷ cs) (d ∷ ds) p = leads-length (c ∷ cs) (d ∷ ds) p

-- a prefix of a path is no longer than it
pub prefix-length : (p q : List ℕ) → is_resolved p ≡ true → is_resolved q ≡ true → is_prefix p q ≡ true → length p ≤ length q
prefix-length p q rp rq h =
    omega (arith, spell-length (components p) (components q) (sym (prefix-leads p q) ∙ h), ap length (spell-components p rp), ap length (spell-components q rq))

-- ---- order, turned round

pub number-less : (a b : ℕ) → a < b → number_order a b ≡ less
unfolding number_order
number-less a b h = rw (lt-ltb a b h)

pub number-greater : (a b : ℕ) → b < a → number_order a b ≡ greater
unfolding number_order
number-greater a b h = rw (le-ltb a b (omega arith), ne_eqb a b (omega arith))

pub number-equal : (a b : ℕ) → a ≡ b → number_order a b ≡ equal
unfolding number_order
number-equal a b e = rw (le-ltb a b (omega arith), eq-eqb a b e)

pub number_order-turned : (a b : ℕ) → number_order b a ≡ neg_ℤ (number_order a b)
number_order-turned a b = go (dec_lt a b) (dec_lt b a)
  where
    go : Dec (a < b) → Dec (b < a) → number_order b a ≡ neg_ℤ (number_order a b)
    go (yes h) d = rw (number-less a b h) (number-greater b a h)
    go (no h) (yes k) = rw (number-greater a b k) (number-less b a k)
    go (no h) (no k) = rw (number-equal a b (omega arith)) (number-equal b a (omega arith))

or_else-turned : (x y : ℤ) → neg_ℤ (or_else x y) ≡ or_else (neg_ℤ x) (neg_ℤ y)
unfolding or_else
or_else-turned (pos zero) y = refl
or_else-turned (pos (suc n)) y = refl
or_else-turned (negsuc n) y = refl

in_turn-turned : {A : Type 0} (order : A → A → ℤ) → ((x y : A) → order y x ≡ neg_ℤ (order x y)) → (xs ys : List A) → in_turn order ys xs ≡ neg_ℤ (in_turn order xs ys)
unfolding in_turn
in_turn-turned order h [] [] = refl
in_turn-turned order h [] (y ∷ ys) = refl
in_turn-turned order h (x ∷ xs) [] = refl
in_turn-turned order h (x ∷ xs) (y ∷ ys) =
    ap₂ or_else (h x y) (in_turn-turned order h xs ys) ∙ sym (or_else-turned (order x y) (in_turn order xs ys))

pub bytes-turned : (c d : List ℕ) → in_turn number_order d c ≡ neg_ℤ (in_turn number_order c d)
bytes-turned = in_turn-turned number_order number_order-turned

-- the turned-round question gives the negative
pub path_order-turned : (p q : List ℕ) → path_order q p ≡ neg_ℤ (path_order p q)
unfolding path_order
path_order-turned p q = in_turn-turned (in_turn number_order) bytes-turned (components p) (components q)

-- ---- what can hold of two lists at once: whether they are the same, and their order

pub data Ordered : Bool → Bool → ℤ → Type 0 where
  alike : Ordered true true equal
  below : Ordered false false less
  above : Ordered false false greater

ordered-then : {a b c d : Bool} {o u : ℤ} → Ordered a b o → Ordered c d u → Ordered (a && c) (b && d) (or_else o u)
unfolding or_else
ordered-then alike k = k
ordered-then below k = below
ordered-then above k = above

ordered-numbers : (a b : ℕ) → Ordered (eqb a b) (eqb b a) (number_order a b)
ordered-numbers a b = go (dec_lt a b) (dec_lt b a)
  where
    go : Dec (a < b) → Dec (b < a) → Ordered (eqb a b) (eqb b a) (number_order a b)
    go (yes h) d = rw (ne_eqb a b (omega arith), ne_eqb b a (omega arith), number-less a b h) below
    go (no h) (yes k) = rw (ne_eqb a b (omega arith), ne_eqb b a (omega arith), number-greater a b k) above
    go (no h) (no k) = rw (eq-eqb a b (omega arith), eq-eqb b a (omega arith), number-equal a b (omega arith)) alike

pub ordered-bytes : (c d : List ℕ) → Ordered (same c d) (same d c) (in_turn number_order c d)
unfolding same in_turn
ordered-bytes [] [] = alike
ordered-bytes [] (b ∷ d) = below
ordered-bytes (a ∷ c) [] = above
ordered-bytes (a ∷ c) (b ∷ d) = ordered-then (ordered-numbers a b) (ordered-bytes c d)

-- ---- the same of components: whether each leads the other, and their order

data Related : Bool → Bool → ℤ → Type 0 where
  both : Related true true equal
  first : Related true false less
  second : Related false true greater
  lower : Related false false less
  higher : Related false false greater

related-then : {a b c d : Bool} {o u : ℤ} → Ordered a b o → Related c d u → Related (a && c) (b && d) (or_else o u)
unfolding or_else
related-then alike k = k
related-then below k = lower
related-then above k = higher

related-components : (cs ds : List (List ℕ)) → Related (leads cs ds) (leads ds cs) (in_turn (in_turn number_order) cs ds)
unfolding leads in_turn
related-components [] [] = both
related-components [] (d ∷ ds) = first
related-components (c ∷ cs) [] = second
related-components (c ∷ cs) (d ∷ ds) = related-then (ordered-bytes c d) (related-components cs ds)

related : (p q : List ℕ) → Related (is_prefix p q) (is_prefix q p) (path_order p q)
unfolding path_order
related p q = rw (prefix-leads p q, prefix-leads q p) (related-components (components p) (components q))

-- ---- what each answer says

-- the answer to the turned-round question
abbrev pub turned : Relation → Relation
turned Equal = Equal
turned Prefix = Extension
turned Extension = Prefix
turned Less = Greater
turned Greater = Less

-- whether the first is a prefix of the second
abbrev pub says_prefix : Relation → Bool
says_prefix Equal = true
says_prefix Prefix = true
says_prefix Extension = false
says_prefix Less = false
says_prefix Greater = false

-- their order: a prefix is less
abbrev pub says_order : Relation → ℤ
says_order Equal = equal
says_order Prefix = less
says_order Extension = greater
says_order Less = less
says_order Greater = greater

related-turned : {a b : Bool} {o : ℤ} → Related a b o → related_by b a (neg_ℤ o) ≡ turned (related_by a b o)
unfolding related_by
related-turned both = refl
related-turned first = refl
related-turned second = refl
related-turned lower = refl
related-turned higher = refl

pub relation-turned : (p q : List ℕ) → relation q p ≡ turned (relation p q)
unfolding relation
relation-turned p q = rw (path_order-turned p q) (related-turned (related p q))

-- of two paths: whether each is a prefix of the other, and their order
pub record Said (p q : List ℕ) (a b : Bool) (o : ℤ) : Type 0 where
  pub prefix : is_prefix p q ≡ a
  pub extension : is_prefix q p ≡ b
  pub order : path_order p q ≡ o

related-prefix : {a b : Bool} {o : ℤ} → Related a b o → a ≡ says_prefix (related_by a b o)
unfolding related_by
related-prefix both = refl
related-prefix first = refl
related-prefix second = refl
related-prefix lower = refl
related-prefix higher = refl

related-order : {a b : Bool} {o : ℤ} → Related a b o → o ≡ says_order (related_by a b o)
unfolding related_by
related-order both = refl
related-order first = refl
related-order second = refl
related-order lower = refl
related-order higher = refl

pub relation-said : (p q : List ℕ) (r : Relation) → relation p q ≡ r → Said p q (says_prefix r) (says_prefix (turned r)) (says_order r)
unfolding relation
relation-said p q r e = record {
  prefix = related-prefix (related p q) ∙ ap says_prefix e;
  extension = related-prefix (related q p) ∙ ap says_prefix (relation-turned p q ∙ ap turned e);
  order = related-order (related p q) ∙ ap says_order e;
}

-- what the comparison finds says both
pub compared-said : {p q : List ℕ} {r : Comparison} {a : Relation} → r ≡ comparison p q → r.relation ≡ a → Said p q (says_prefix a) (says_prefix (turned a)) (says_order a)
unfolding comparison
compared-said {p} {q} {r} {a} e f = relation-said p q a (sym (ap (λ (c : Comparison). c.relation) e) ∙ f)

-- a prefix is found exactly where equal or prefix is said
module _ (p q : List ℕ) {r : Comparison} (e : r ≡ comparison p q) where
  pub prefix-found : (r.relation ≡ Equal) ⊎ (r.relation ≡ Prefix) → true ≡ is_prefix p q
  prefix-found (inl f) = sym (compared-said e f).prefix
  prefix-found (inr f) = sym (compared-said e f).prefix

  pub no-prefix-found : (r.relation ≡ Equal → ⊥) → (r.relation ≡ Prefix → ⊥) → false ≡ is_prefix p q
  no-prefix-found f g = go r.relation refl
    where
      go : (a : Relation) → r.relation ≡ a → false ≡ is_prefix p q
      go Equal k = absurd (f k)
      go Prefix k = absurd (g k)
      go Extension k = sym (compared-said e k).prefix
      go Less k = sym (compared-said e k).prefix
      go Greater k = sym (compared-said e k).prefix

pub ruleset prefixes = (prefix-found, no-prefix-found)

module _ (p q : List ℕ) where
  -- equal is said of the same components
  pub equal-components : relation p q ≡ Equal → components p ≡ components q
  equal-components e = let s = relation-said p q Equal e in prefix-components p q s.prefix s.extension

  pub components-equal : components p ≡ components q → relation p q ≡ Equal
  unfolding relation related_by
  components-equal e = rw (prefix-leads p q, prefix-leads q p, e, leads-refl (components q))
