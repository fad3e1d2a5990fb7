-- What holds of the common part of any two paths, and what the tree of a list rests on. Scope, "Paths, at the bottom".
use Rattle.std.specs.Prelude.{ℕ, ◌+◌, ◌≤◌, ◌<◌, ◌≡◌, List, [], ◌∷◌, Bool, true, false, ◌&&◌, take, eqb}
use Rattle.paths.specs.Components.{same, components}
use Rattle.paths.specs.Relations.{common, depth, greater, path_order}

-- the components of one path are the first ones of another, as in std's `starts_with`
unfoldable pub leads : List (List ℕ) → List (List ℕ) → Bool
leads [] ds = true
leads (c ∷ cs) [] = false
leads (c ∷ cs) (d ∷ ds) = same c d && leads cs ds

-- two paths lie in the same branch of the tree, n components below the root: each has so many, and they are the same
pub record SameBranch (n : ℕ) (p q : List ℕ) : Type 0 where
  pub left : n ≤ depth p
  pub right : n ≤ depth q
  pub same : take n (components p) ≡ take n (components q)

-- p does not come behind q in path order
abbrev pub NotBehind : List ℕ → List ℕ → Type 0
NotBehind p q = path_order p q ≡ greater → ⊥

pub record CommonPart : Type 0 where
  -- the number is how far down two paths lie in the same branch, and no less and no more
  pub shares : (p q : List ℕ) → SameBranch (common p q) p q
  pub greatest : (p q : List ℕ) (n : ℕ) → SameBranch n p q → n ≤ common p q
  -- it is the same either way round
  pub symmetric : (p q : List ℕ) → common p q ≡ common q p
  -- a path is a prefix, as std has it, exactly if the number is its own count of components
  pub prefix : (p q : List ℕ) → leads (components p) (components q) ≡ eqb (common p q) (depth p)
  -- equal paths share all, and only these
  pub equal : (p q : List ℕ) → components p ≡ components q → (common p q ≡ depth p) × (common p q ≡ depth q)
  pub all : (p q : List ℕ) → common p q ≡ depth p → common p q ≡ depth q → components p ≡ components q
  -- a longer common part with q than with r: p goes on with q, in the same branch, where it parts from r; and q parts from r there too
  pub branch : (p q r : List ℕ) → common p r < common p q → SameBranch (common p r + 1) p q × (common q r ≡ common p r)
  -- in path order a branch stands together: what lies between two paths shares with each as much as these two share
  pub together : (p q r : List ℕ) → NotBehind p q → NotBehind q r → (common p r ≤ common p q) × (common p r ≤ common q r)
