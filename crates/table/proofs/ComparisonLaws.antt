-- Laws of the comparison of two entries.
use Prim.Native.Nat.{ℕ, zero, suc, ◌^◌, ◌<◌}
use mathlib.Core.Path.{◌≡◌, refl, sym}
use mathlib.Core.List.{List, [], ◌∷◌}
use mathlib.Core.Bool.{Bool, true, false, ◌&&◌, not, cond}
use lib.IntN.{ℤ, pos, negsuc, neg_ℤ}
use lib.Dec.{eqb, ltb}
use mir.Syntax.{Width}
use lib.Signed.{mag}
use mir.Val.{to_z, of_z, hbits}
use mir.Facts.{to_z-of_z}
use denote.Enum.Bare.{sameb}
use Rattle.std.specs.declared.cmp.Ordering.{Ordering}
use Rattle.std.specs.declared.cmp.Ordering.TheVariants.{Less, Equal, Greater}
use Rattle.std.specs.Ordering.{nat_cmp, ordering_reverse}
use Rattle.paths.specs.Components.{components}
use Rattle.paths.specs.contracts.Relation.{the_type}
use Rattle.paths.specs.declared.Comparison.{Comparison}
use Rattle.paths.specs.declared.Relation.{Relation}
use Rattle.paths.specs.declared.Relation.TheVariants as relation
use Rattle.paths.specs.Relations.{is_prefix, path_order, number_order, or_else, in_turn, less, equal, greater, relation, comparison}
use Rattle.paths.proofs.RelationLaws.{number_order-turned, path_order-turned, Said, says_prefix, says_order, turned, relation-said, compared-said}
use Rattle.table.specs.Entries.{Entry, is_granted, kind_precedence, same_path, strictly_extends, compare_alike, granted_order, compare, order_number}

neg-neg : (x : ℤ) → neg_ℤ (neg_ℤ x) ≡ x
neg-neg (pos zero) = refl
neg-neg (pos (suc n)) = refl
neg-neg (negsuc n) = refl

-- by whether p is a prefix of q, and q of p
alike-by : (pq qp : Bool) (n n' o o' : ℤ) → n' ≡ neg_ℤ n → o' ≡ neg_ℤ o
    → cond (qp && pq) n' (cond (pq && not qp) less (cond (qp && not pq) greater o'))
    ≡ neg_ℤ (cond (pq && qp) n (cond (qp && not pq) less (cond (pq && not qp) greater o)))
alike-by true true n n' o o' en eo = en
alike-by true false n n' o o' en eo = refl
alike-by false true n n' o o' en eo = refl
alike-by false false n n' o o' en eo = eo

alike_turned : (old new : Entry) → compare_alike new old ≡ neg_ℤ (compare_alike old new)
unfolding compare_alike same_path strictly_extends
alike_turned old new =
    alike-by (is_prefix old.path new.path) (is_prefix new.path old.path) _ _ _ _
    (number_order-turned (kind_precedence old.kind) (kind_precedence new.kind))
    (path_order-turned old.path new.path)

by-kinds : (old new : Bool) (alike alike' grant grant' : ℤ) → alike' ≡ neg_ℤ alike
    → cond new (cond old alike' grant') (cond old (neg_ℤ grant) alike') ≡ neg_ℤ (cond old (cond new alike grant) (cond new (neg_ℤ grant') alike))
by-kinds true true alike alike' grant grant' e = e
by-kinds true false alike alike' grant grant' e = refl
by-kinds false true alike alike' grant grant' e = sym (neg-neg grant')
by-kinds false false alike alike' grant grant' e = e

-- the turned-round question gives the negative, whatever the kinds
pub compare-turned : (old new : Entry) → compare new old ≡ neg_ℤ (compare old new)
unfolding compare
compare-turned old new =
    by-kinds (is_granted old.kind) (is_granted new.kind) _ _ (granted_order old.path new.path) (granted_order new.path old.path) (alike_turned old new)

-- ---- the comparison, by how the two paths relate

alike-said : (old new : Entry) {a b : Bool} {o : ℤ} → Said old.path new.path a b o
    → compare_alike old new ≡ cond (a && b) (number_order (kind_precedence old.kind) (kind_precedence new.kind)) (cond (b && not a) less (cond (a && not b) greater o))
unfolding compare_alike same_path strictly_extends
alike-said old new s = rw (s.prefix, s.extension, s.order)

-- with what `relate` finds
pub alike-is : (old new : Entry) {r : Comparison} {a : Relation} → r ≡ comparison old.path new.path → r.relation ≡ a
    → cond (says_prefix a && says_prefix (turned a)) (number_order (kind_precedence old.kind) (kind_precedence new.kind))
    (cond (says_prefix (turned a) && not (says_prefix a)) less (cond (says_prefix a && not (says_prefix (turned a))) greater (says_order a)))
    ≡ compare_alike old new
alike-is old new e f = sym (alike-said old new (compared-said e f))

pub granted-said : (p q : List ℕ) {a b : Bool} {o : ℤ} → Said p q a b o → granted_order p q ≡ cond (b && not a) less greater
unfolding granted_order strictly_extends
granted-said p q s = rw (s.prefix, s.extension)

-- a grant as the old entry comes before an entry of another kind just where its path is an extension of the other's
pub granted-related : (p q : List ℕ) {r : Comparison} → r ≡ comparison p q → granted_order p q ≡ cond (sameb the_type r.relation relation.Extension) less greater
unfolding comparison
granted-related p q e = rw e (go (relation p q) refl)
  where
    go : (x : Relation) → relation p q ≡ x → granted_order p q ≡ cond (sameb the_type x relation.Extension) less greater
    go relation.Equal f = granted-said p q (relation-said p q _ f)
    go relation.Prefix f = granted-said p q (relation-said p q _ f)
    go relation.Extension f = granted-said p q (relation-said p q _ f)
    go relation.Less f = granted-said p q (relation-said p q _ f)
    go relation.Greater f = granted-said p q (relation-said p q _ f)

-- what std's comparison of two numbers says
pub order-numbers : (a b : ℕ) {o : Ordering} → o ≡ nat_cmp a b → order_number o ≡ number_order a b
unfolding number_order
order-numbers a b e = rw e (go (ltb a b) (eqb a b))
  where
    go : (below same : Bool) → order_number (cond below Less (cond same Equal Greater)) ≡ cond below less (cond same equal greater)
    go true same = refl
    go false true = refl
    go false false = refl

-- and its answer turned round
pub order-turned : (o : Ordering) → order_number (ordering_reverse o) ≡ neg_ℤ (order_number o)
order-turned Less = refl
order-turned Equal = refl
order-turned Greater = refl

-- ---- and by whether the two kinds grant

pub compare-by : (old new : Entry) {a b : Bool} → is_granted old.kind ≡ a → is_granted new.kind ≡ b
    → compare old new
    ≡ cond a (cond b (compare_alike old new) (granted_order old.path new.path)) (cond b (neg_ℤ (granted_order new.path old.path)) (compare_alike old new))
unfolding compare
compare-by old new p q = rw (p, q)

-- ---- the sign

pub data Sign : ℤ → Type 0 where
  minus : Sign (negsuc 0)
  none : Sign (pos 0)
  plus : Sign (pos 1)

-- a grant with an entry of another kind is never equal
less-or-greater : (t : Bool) → Sign (cond t less greater)
less-or-greater true = minus
less-or-greater false = plus

pub granted-sign : (p q : List ℕ) → Sign (granted_order p q)
unfolding granted_order
granted-sign p q = less-or-greater (strictly_extends p q)

number_by : (below same : Bool) → Sign (cond below less (cond same equal greater))
number_by true same = minus
number_by false true = none
number_by false false = plus

number-sign : (a b : ℕ) → Sign (number_order a b)
unfolding number_order
number-sign a b = number_by (ltb a b) (eqb a b)

or-sign : {x y : ℤ} → Sign x → Sign y → Sign (or_else x y)
unfolding or_else
or-sign minus s = minus
or-sign none s = s
or-sign plus s = plus

turn-sign : {A : Type 0} (order : A → A → ℤ) → ((x y : A) → Sign (order x y)) → (xs ys : List A) → Sign (in_turn order xs ys)
unfolding in_turn
turn-sign order h [] [] = none
turn-sign order h [] (y ∷ ys) = minus
turn-sign order h (x ∷ xs) [] = plus
turn-sign order h (x ∷ xs) (y ∷ ys) = or-sign (h x y) (turn-sign order h xs ys)

path-sign : (p q : List ℕ) → Sign (path_order p q)
unfolding path_order
path-sign p q = turn-sign (in_turn number_order) (turn-sign number_order number-sign) (components p) (components q)

alike-sign-by : (same deeper higher : Bool) {n o : ℤ} → Sign n → Sign o → Sign (cond same n (cond deeper less (cond higher greater o)))
alike-sign-by true deeper higher s t = s
alike-sign-by false true higher s t = minus
alike-sign-by false false true s t = plus
alike-sign-by false false false s t = t

alike-sign : (old new : Entry) → Sign (compare_alike old new)
unfolding compare_alike
alike-sign old new =
    alike-sign-by (same_path old.path new.path) (strictly_extends old.path new.path) (strictly_extends new.path old.path)
    (number-sign (kind_precedence old.kind) (kind_precedence new.kind)) (path-sign old.path new.path)

negative-sign : {x : ℤ} → Sign x → Sign (neg_ℤ x)
negative-sign minus = plus
negative-sign none = none
negative-sign plus = minus

sign-by : (old new : Bool) {alike grant grant' : ℤ} → Sign alike → Sign grant → Sign grant'
    → Sign (cond old (cond new alike grant) (cond new (neg_ℤ grant') alike))
sign-by true true s t u = s
sign-by true false s t u = t
sign-by false true s t u = negative-sign u
sign-by false false s t u = s

-- the comparison is −1, 0 or 1
pub compare_sign : (old new : Entry) → Sign (compare old new)
unfolding compare
compare_sign old new =
    sign-by (is_granted old.kind) (is_granted new.kind) (alike-sign old new) (granted-sign old.path new.path)
    (granted-sign new.path old.path)

-- ---- signed numbers

-- a signed number of any width that a call returned
pub read_back : (w : Width) (x : ℤ) → mag x < 2 ^ hbits w → to_z w (of_z w x) ≡ x
read_back w x h = to_z-of_z (record { sfits = h })
