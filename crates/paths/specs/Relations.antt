-- How two paths relate: the common part, prefix by whole components, and path order. Scope, "Paths, at the bottom"; std's documentation of `Path` has
-- components, prefix and order.
use Rattle.std.specs.Prelude.{ℕ, zero, suc, List, [], ◌∷◌, Bool, true, false, cond, ℤ, pos, negsuc, length, eqb, ltb}
use Rattle.paths.specs.Components.{same, components}
use Rattle.paths.specs.declared.Relation.{Relation}
use Rattle.paths.specs.declared.Relation.TheVariants.{Equal, Prefix, Extension, Less, Greater}
use Rattle.paths.specs.declared.Comparison.{Comparison}

-- ---- the common part

-- how many leading components two lists share, each whole
unfoldable pub shared : List (List ℕ) → List (List ℕ) → ℕ
shared [] ds = 0
shared (c ∷ cs) [] = 0
shared (c ∷ cs) (d ∷ ds) = cond (same c d) (suc (shared cs ds)) 0

-- the number of leading components below the root that two paths share
unfoldable pub common : List ℕ → List ℕ → ℕ
common p q = shared (components p) (components q)

-- how many components below the root a path has
unfoldable pub depth : List ℕ → ℕ
depth p = length (components p)

-- ---- prefix

-- p is a prefix of q, by whole components: q shares all of p's
unfoldable pub is_prefix : List ℕ → List ℕ → Bool
is_prefix p q = eqb (common p q) (depth p)

-- ---- order, as −1, 0 or 1

abbrev pub less : ℤ
less = negsuc 0

abbrev pub equal : ℤ
equal = pos 0

abbrev pub greater : ℤ
greater = pos 1

unfoldable pub number_order : ℕ → ℕ → ℤ
number_order a b = cond (ltb a b) less (cond (eqb a b) equal greater)

-- the first comparison decides, and the second where the first is 0
unfoldable pub or_else : ℤ → ℤ → ℤ
or_else (pos zero) o = o
or_else (pos (suc n)) o = pos (suc n)
or_else (negsuc n) o = negsuc n

-- item by item; a shorter start is less
unfoldable pub in_turn : {A : Type 0} → (A → A → ℤ) → List A → List A → ℤ
in_turn order [] [] = equal
in_turn order [] (y ∷ ys) = less
in_turn order (x ∷ xs) [] = greater
in_turn order (x ∷ xs) (y ∷ ys) = or_else (order x y) (in_turn order xs ys)

-- component by component and, inside a component, byte by byte
unfoldable pub path_order : List ℕ → List ℕ → ℤ
path_order p q = in_turn (in_turn number_order) (components p) (components q)

-- ---- all of it in one answer

-- equal, a prefix, an extension, and else by path order
unfoldable pub related_by : Bool → Bool → ℤ → Relation
related_by true true o = Equal
related_by true false o = Prefix
related_by false true o = Extension
related_by false false (pos n) = Greater
related_by false false (negsuc n) = Less

-- how p relates to q
unfoldable pub relation : List ℕ → List ℕ → Relation
relation p q = related_by (is_prefix p q) (is_prefix q p) (path_order p q)

-- and, beside it, the number of components that both share
unfoldable pub comparison : List ℕ → List ℕ → Comparison
comparison p q = record { relation = relation p q; common = common p q }
