-- Laws of a table within its limits: what that says of it, and what its path bytes and marks are with one entry more.
use Prim.Native.Nat.{ℕ, zero, suc, ◌+◌, ◌≤◌}
use mathlib.Core.Path.{◌≡◌, refl, sym, ap, ◌∙◌}
use mathlib.Core.List.{List, [], ◌∷◌, ◌++◌}
use mathlib.Core.Bool.{Bool, true, false, ◌&&◌, ◌||◌, cond}
use native.Mathlib.Omega.{arith}
use lib.ListN.{length, take, drop, take-append-drop, length-append}
use lib.Dec.{leb, eqb}
use borrow.Author.Tests.{leb-true, eqb-true, le-leb, eq-eqb}
use Rattle.table.specs.declared.Kind.{Kind}
use Rattle.table.specs.declared.Kind.TheVariants.{G, D, P, I}
use Rattle.table.specs.Entries.{Entry, kind_number}
use Rattle.table.specs.Tables.{
  Table,
  fresh,
  has,
  set_bit,
  marked,
  max_entries,
  max_path_bytes,
  max_switches,
  path_bytes,
  is_entry,
  every,
  any,
  present,
  marks_of,
  is_table,
}
use Rattle.paths.proofs.ComponentLaws.{and_left, and_right}

-- ---- the limits, one by one

pub record Valid (t : Table) : Type 0 where
  pub few : length t.entries ≤ max_entries
  pub bytes : path_bytes t.entries ≤ max_path_bytes
  pub each : every is_entry t.entries ≡ true
  pub switches : t.switches ≤ max_switches
  pub marks : t.marks ≡ marks_of t.entries

pub valid-parts : (t : Table) → is_table t ≡ true → Valid t
unfolding is_table
valid-parts t e =
    let a = leb (length t.entries) max_entries in
    let b = leb (path_bytes t.entries) max_path_bytes in
    let c = every is_entry t.entries in
    let d = leb t.switches max_switches in
    let e₁ = and_left (a && b && c && d) _ e in
    let e₂ = and_left (a && b && c) _ e₁ in
    let e₃ = and_left (a && b) _ e₂ in
    record {
      few = leb-true _ _ (and_left a _ e₃);
      bytes = leb-true _ _ (and_right a _ e₃);
      each = and_right (a && b) _ e₂;
      switches = leb-true _ _ (and_right (a && b && c) _ e₁);
      marks = eqb-true _ _ (and_right (a && b && c && d) _ e);
    }

pub parts-valid : (t : Table) → Valid t → is_table t ≡ true
unfolding is_table
parts-valid t v =
    rw (le-leb _ _ v.few, le-leb _ _ v.bytes, v.each, le-leb _ _ v.switches) (eq-eqb _ _ v.marks)

-- ---- what holds of every entry, and of some

or_swap : (a b c : Bool) → a || (b || c) ≡ b || (a || c)
or_swap true true c = refl
or_swap true false c = refl
or_swap false b c = refl

module _ (f : Entry → Bool) where
  pub every_append : (a b : List Entry) → every f a ≡ true → every f b ≡ true → every f (a ++ b) ≡ true
  unfolding every
  every_append [] b p q = q
  every_append (e ∷ a) b p q = rw (and_left (f e) _ p) (every_append a b (and_right (f e) _ p) q)

  pub every_take : (k : ℕ) (es : List Entry) → every f es ≡ true → every f (take k es) ≡ true
  unfolding every
  every_take zero es p = refl
  every_take (suc k) [] p = refl
  every_take (suc k) (e ∷ es) p = rw (and_left (f e) _ p) (every_take k es (and_right (f e) _ p))

  pub every_drop : (k : ℕ) (es : List Entry) → every f es ≡ true → every f (drop k es) ≡ true
  unfolding every
  every_drop zero es p = p
  every_drop (suc k) [] p = refl
  every_drop (suc k) (e ∷ es) p = every_drop k es (and_right (f e) _ p)

  -- with one entry more
  pub any-more : (k : ℕ) (es : List Entry) (e : Entry) → any f (take k es ++ e ∷ drop k es) ≡ f e || any f es
  unfolding any
  any-more zero es e = refl
  any-more (suc k) [] e = refl
  any-more (suc k) (x ∷ es) e = ap (◌||◌ (f x)) (any-more k es e) ∙ or_swap (f x) (f e) (any f es)

-- ---- one entry more

path-append : (a b : List Entry) → path_bytes (a ++ b) ≡ path_bytes a + path_bytes b
unfolding path_bytes
path-append [] b = omega arith
path-append (e ∷ a) b = omega (arith, path-append a b)

module _ (k : ℕ) (es : List Entry) (e : Entry) where
  pub path-more : path_bytes (take k es ++ e ∷ drop k es) ≡ path_bytes es + length e.path
  unfolding path_bytes
  path-more =
      rw path-append (omega (arith, ap path_bytes (take-append-drop k es), path-append (take k es) (drop k es)))

  pub length_more : length (take k es ++ e ∷ drop k es) ≡ length es + 1
  length_more = rw length-append (omega (arith, ap length (take-append-drop k es), length-append (take k es) (drop k es)))

  pub every_more : (f : Entry → Bool) → every f es ≡ true → f e ≡ true → every f (take k es ++ e ∷ drop k es) ≡ true
  unfolding every
  every_more f p q = every_append f (take k es) (e ∷ drop k es) (every_take f k es p) (rw q (every_drop f k es p))

-- ---- marks

-- the marks by whether D, P and I are present
abbrev pub marks_by : Bool → Bool → Bool → ℕ
marks_by d p i = cond d 1 0 + cond p 2 0 + cond i 4 0

-- a fact of three tests, by their eight outcomes
by_three : (F : Bool → Bool → Bool → Type 0) → F true true true → F true true false → F true false true → F true false false
    → F false true true → F false true false → F false false true → F false false false → (d p i : Bool) → F d p i
by_three F a b c d e f g h true true true = a
by_three F a b c d e f g h true true false = b
by_three F a b c d e f g h true false true = c
by_three F a b c d e f g h true false false = d
by_three F a b c d e f g h false true true = e
by_three F a b c d e f g h false true false = f
by_three F a b c d e f g h false false true = g
by_three F a b c d e f g h false false false = h

at_most : (b : Bool) (n : ℕ) → cond b n 0 ≤ n
at_most true n = omega arith
at_most false n = omega arith

pub marks-small : (es : List Entry) → marks_of es ≤ 7
unfolding marks_of
marks-small es = omega (arith, at_most (present D es) 1, at_most (present P es) 2, at_most (present I es) 4)

-- a kind's mark is set
pub mark_set : (k : Kind) (d p i : Bool)
    → marks_by (eqb (kind_number k) 1 || d) (eqb (kind_number k) 2 || p) (eqb (kind_number k) 3 || i) ≡ marked k (marks_by d p i)
unfolding marked set_bit has
mark_set G d p i = refl
mark_set D d p i = by_three (λ d p i. marks_by true p i ≡ marked D (marks_by d p i)) refl refl refl refl refl refl refl refl d p i
mark_set P d p i = by_three (λ d p i. marks_by d true i ≡ marked P (marks_by d p i)) refl refl refl refl refl refl refl refl d p i
mark_set I d p i = by_three (λ d p i. marks_by d p true ≡ marked I (marks_by d p i)) refl refl refl refl refl refl refl refl d p i

-- the marks with one entry more
pub marks-more : (k : ℕ) (es : List Entry) (e : Entry) → marks_of (take k es ++ e ∷ drop k es) ≡ marked e.kind (marks_of es)
unfolding marks_of present
marks-more k es e =
    rw (any-more _ k es e, any-more _ k es e, any-more _ k es e)
    (mark_set e.kind (present D es) (present P es) (present I es))

-- an insert that finds its entry sets no other mark
pub marks-present : (k : Kind) (es : List Entry) → present k es ≡ true → marked k (marks_of es) ≡ marks_of es
unfolding marks_of
marks-present G es h = unfold marked in refl
marks-present D es h = sym (mark_set D (present D es) (present P es) (present I es)) ∙ rw h
marks-present P es h = sym (mark_set P (present D es) (present P es) (present I es)) ∙ rw h
marks-present I es h = sym (mark_set I (present D es) (present P es) (present I es)) ∙ rw h

-- a fresh table is within its limits
pub fresh-table : is_table fresh ≡ true
unfolding is_table path_bytes every marks_of present any
fresh-table = refl
