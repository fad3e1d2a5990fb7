-- Scanning a path: whether its components are names, and what the quick test `is_plain` looks at.
use Rattle.std.specs.Prelude.{ℕ, ◌+◌, ◌<◌, ◌≡◌, List, [], ◌∷◌, Bool, true, ◌&&◌, ◌||◌, not, get_or, eqb}
use Rattle.paths.specs.Components.{slash, dot}
use Rattle.paths.specs.Resolving.{is_name}

unfoldable pub all_names : List (List ℕ) → Bool
all_names [] = true
all_names (c ∷ cs) = is_name c && all_names cs

-- ---- a quick test of names

-- no slash, or one behind which neither a slash nor a dot stands
abbrev pub plain_pair : ℕ → ℕ → Bool
plain_pair a b = not (eqb a slash) || (not (eqb b slash) && not (eqb b dot))

-- so are all below n, each with the next
pub record PlainBelow (p : List ℕ) (n : ℕ) : Type 0 where
  pub pairs : (k : ℕ) → k < n → plain_pair (get_or p k 0) (get_or p (k + 1) 0) ≡ true

-- so is the byte k behind `at`
abbrev pub plain_at : List ℕ → ℕ → ℕ → Bool
plain_at p at k = plain_pair (get_or p (at + k) 0) (get_or p (at + (k + 1)) 0)

-- so are eight from `at` on
abbrev pub plain_eight : List ℕ → ℕ → Bool
plain_eight p at =
    ((((((plain_pair (get_or p at 0) (get_or p (at + 1) 0) && plain_at p at 1) && plain_at p at 2) && plain_at p at 3) && plain_at p at 4) && plain_at p at 5) && plain_at p at 6) && plain_at p at 7
