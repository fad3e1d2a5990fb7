-- An insert that finds its entry finds one with its path and kind, so an insert that has room keeps a table within its limits.
use Prim.Native.Nat.{ℕ, zero, suc, ◌<◌}
use mathlib.Core.Path.{◌≡◌, refl, sym, ap, ap₂, ◌∙◌}
use mathlib.Core.List.{List, [], ◌∷◌}
use mathlib.Core.Bool.{Bool, true, false, cond, or-true, false≢true}
use native.Mathlib.Omega.{arith}
use native.Mathlib.Decide.{dec_lt}
use native.Mathlib.Nat.{not-suc-le-zero, le_of_suc-le-suc}
use lib.ListN.{length, get_or}
use lib.IntN.{ℤ, pos, negsuc, neg_ℤ}
use borrow.Author.Tests.{eq-eqb, not-false}
use Rattle.table.specs.declared.Kind.{Kind}
use Rattle.table.specs.declared.Kind.TheVariants.{G, D, P, I}
use Rattle.table.specs.Entries.{
  Entry,
  kind_number,
  is_granted,
  kind_precedence,
  same_path,
  strictly_extends,
  compare_alike,
  granted_order,
  compare,
}
use Rattle.table.specs.declared.Place.TheVariants.{Found}
use Rattle.table.specs.Placing.{search, place_by, place}
use Rattle.table.specs.Tables.{Table, any, present, is_entry, is_table}
use Rattle.table.specs.Acts.{inserted, would_add, overflows}
use Rattle.table.proofs.PlacingLaws.{search-inside}
use Rattle.table.proofs.Puts.{table-inserted}
use Rattle.paths.specs.Components.{components}
use Rattle.paths.specs.Relations.{common, depth, is_prefix, less, equal, greater, number_order, or_else, in_turn, path_order}
use Rattle.paths.proofs.ComponentLaws.{and_both}
use Rattle.paths.proofs.RelationLaws.{prefix_refl, number-less, number-greater}

-- ---- what an order of 0 says

less-unequal : less ≡ equal → ⊥
less-unequal e = let z : ◌≡◌ {A = ℕ} 0 1 = cc in omega arith

greater-unequal : greater ≡ equal → ⊥
greater-unequal e = let z : ◌≡◌ {A = ℕ} 0 1 = cc in omega arith

number_same : (a b : ℕ) → number_order a b ≡ equal → a ≡ b
number_same a b e = go (dec_lt a b) (dec_lt b a)
  where
    go : Dec (a < b) → Dec (b < a) → a ≡ b
    go (yes h) d = absurd (less-unequal (sym (number-less a b h) ∙ e))
    go (no h) (yes k) = absurd (greater-unequal (sym (number-greater a b k) ∙ e))
    go (no h) (no k) = omega arith

or_same : (x y : ℤ) → or_else x y ≡ equal → (x ≡ equal) × (y ≡ equal)
unfolding or_else
or_same (pos zero) y e = (refl, e)
or_same (pos (suc n)) y e = (cc, cc)
or_same (negsuc n) y e = (cc, cc)

turn-same : {A : Type 0} (order : A → A → ℤ) → ((x y : A) → order x y ≡ equal → x ≡ y)
    → (xs ys : List A) → in_turn order xs ys ≡ equal → xs ≡ ys
unfolding in_turn
turn-same order h [] [] e = refl
turn-same order h [] (y ∷ ys) e = absurd (less-unequal e)
turn-same order h (x ∷ xs) [] e = absurd (greater-unequal e)
turn-same order h (x ∷ xs) (y ∷ ys) e =
    let both = or_same (order x y) (in_turn order xs ys) e in
    ap₂ ◌∷◌ (h x y both.0) (turn-same order h xs ys both.1)

path-same : (p q : List ℕ) → path_order p q ≡ equal → same_path p q ≡ true
unfolding path_order same_path is_prefix common depth
path-same p q e =
    rw (turn-same (in_turn number_order) (turn-same number_order number_same) (components p) (components q) e)
    (and_both (prefix_refl q) (prefix_refl q))

-- ---- what a comparison of 0 says: paths and kinds are the same

alike_same : (same deeper higher : Bool) (n o : ℤ) → (o ≡ equal → same ≡ true)
    → cond same n (cond deeper less (cond higher greater o)) ≡ equal → (same ≡ true) × (n ≡ equal)
alike_same true deeper higher n o h e = (refl, e)
alike_same false true higher n o h e = absurd (less-unequal e)
alike_same false false true n o h e = absurd (greater-unequal e)
alike_same false false false n o h e = absurd (false≢true (h e))

kinds-same : (old new first second : Bool) (alike : ℤ)
    → cond old (cond new alike (cond first less greater)) (cond new (neg_ℤ (cond second less greater)) alike) ≡ equal → alike ≡ equal
kinds-same true true first second alike e = e
kinds-same true false true second alike e = absurd (less-unequal e)
kinds-same true false false second alike e = absurd (greater-unequal e)
kinds-same false true first true alike e = absurd (greater-unequal e)
kinds-same false true first false alike e = absurd (less-unequal e)
kinds-same false false first second alike e = e

-- the kind with a precedence
by_precedence : ℕ → Kind
by_precedence zero = D
by_precedence (suc zero) = P
by_precedence (suc (suc zero)) = I
by_precedence (suc (suc (suc n))) = G

precedence-back : (k : Kind) → by_precedence (kind_precedence k) ≡ k
unfolding by_precedence
precedence-back G = refl
precedence-back D = refl
precedence-back P = refl
precedence-back I = refl

pub compare_same : (old new : Entry) → compare old new ≡ equal → (same_path old.path new.path ≡ true) × (old.kind ≡ new.kind)
unfolding compare granted_order compare_alike
compare_same old new e =
    let same = same_path old.path new.path in
    let deeper = strictly_extends old.path new.path in
    let higher = strictly_extends new.path old.path in
    let alike = kinds-same (is_granted old.kind) (is_granted new.kind) deeper higher (compare_alike old new) e in
    let both = alike_same same deeper higher _ _ (path-same old.path new.path) alike in (
      both.0,
      sym (precedence-back old.kind)
          ∙ ap by_precedence (number_same (kind_precedence old.kind) (kind_precedence new.kind) both.1)
          ∙ precedence-back new.kind,
    )

-- ---- an entry that is Found

any_at : (f : Entry → Bool) (es : List Entry) (i : ℕ) (d : Entry) → i < length es → f (get_or es i d) ≡ true → any f es ≡ true
unfolding any
any_at f [] i d h e = absurd (not-suc-le-zero h)
any_at f (x ∷ es) zero d h e = rw e
any_at f (x ∷ es) (suc i) d h e = rw (any_at f es i d (le_of_suc-le-suc h) e) (or-true (f x))

by-found : (base : ℕ) (order : ℤ) → place_by base order ≡ Found → order ≡ equal
unfolding place_by
by-found base (pos zero) e = refl
by-found base (pos (suc n)) e = cc
by-found base (negsuc n) e = cc

-- what is so of every entry with its path and kind is so of one in the list
pub found-any : (f : Entry → Bool) (es : List Entry) (new : Entry) → place es new ≡ Found
    → ((old : Entry) → same_path old.path new.path ≡ true → old.kind ≡ new.kind → f old ≡ true) → any f es ≡ true
unfolding place search
found-any f [] new e h = cc
found-any f (x ∷ es) new e h =
    let base = search (x ∷ es) new in
    let n = length (x ∷ es) in
    let inside : base < n = omega (arith, search-inside (x ∷ es) new n 0 n (omega arith)) in
    let old = get_or (x ∷ es) base new in
    let same = compare_same old new (by-found base _ e) in
    any_at f (x ∷ es) base new inside (h old same.0 same.1)

pub found-present : (es : List Entry) (new : Entry) → place es new ≡ Found → present new.kind es ≡ true
unfolding present
found-present es new e = found-any _ es new e (λ old p k. eq-eqb _ _ (ap kind_number k))

-- an insert that does not overflow keeps a table within its limits
pub table-placed : (t : Table) (e : Entry) → is_table t ≡ true → is_entry e ≡ true → overflows t e ≡ false → is_table (inserted t e) ≡ true
unfolding inserted overflows would_add
table-placed t e v w o =
    table-inserted (place t.entries e) t e v w (found-present t.entries e)
    (λ a. not-false _ (rw a at o))
