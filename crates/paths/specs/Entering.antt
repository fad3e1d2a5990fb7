-- Resolving in bytes: the components entered so far stand in a work area, each behind a slash.
use Rattle.std.specs.Prelude.{ℕ, ◌≤◌, ◌≡◌, List, [], ◌∷◌, ◌++◌, Bool, false, ◌||◌, cond, take, eqb}
use Rattle.paths.specs.Components.{slash, dot, same}

unfoldable pub has_slash : List ℕ → Bool
has_slash [] = false
has_slash (b ∷ w) = eqb b slash || has_slash w

-- what stands before the last slash; without a slash nothing
unfoldable pub before_last : List ℕ → List ℕ
before_last [] = []
before_last (b ∷ w) = cond (has_slash w) (b ∷ before_last w) []

-- one component more, in bytes
unfoldable pub entered_bytes : List ℕ → List ℕ → List ℕ
entered_bytes w c =
    cond (same c []) w
    (cond (same c (dot ∷ [])) w
    (cond (same c (dot ∷ dot ∷ [])) (before_last w)
    (w ++ slash ∷ c)))

-- components entered in turn, in bytes
unfoldable pub enter_all_bytes : List ℕ → List (List ℕ) → List ℕ
enter_all_bytes w [] = w
enter_all_bytes w (c ∷ cs) = enter_all_bytes (entered_bytes w c) cs

-- the first n bytes of a work area, of which there are at most `most`
pub record Begins (work : List ℕ) (n most : ℕ) (bytes : List ℕ) : Type 0 where
  pub few : n ≤ most
  pub front : take n work ≡ bytes

-- no component at all is the root
unfoldable pub rooted : List ℕ → List ℕ
rooted [] = slash ∷ []
rooted (b ∷ w) = b ∷ w
