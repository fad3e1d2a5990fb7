-- What the helpers of `relate` answer: where a component begins, and how what stands there compares; and what the quick test `is_apart` looks at.
use Rattle.std.specs.Prelude.{ℕ, ◌+◌, ◌%◌, ◌≤◌, ◌<◌, ◌≡◌, List, [], ◌∷◌, Bool, true, false, ◌&&◌, min, cond, length, get_or, drop, eqb}
use Rattle.paths.specs.Components.{slash, components}

-- how the start of a path compares inside a component: 0 where the component ends, and else one more than the byte
unfoldable pub rank_of : List ℕ → ℕ
rank_of [] = 0
rank_of (b ∷ p) = cond (eqb b slash) 0 (b + 1)

-- a component of p begins at `at`, or p ends there, and from i to there stand only slashes
pub record Begins (p : List ℕ) (i at : ℕ) : Type 0 where
  pub behind : i ≤ at
  pub within : at ≤ length p
  pub same : components (drop at p) ≡ components (drop i p)
  pub begins : at < length p → 0 < rank_of (drop at p)

-- ---- a quick test

-- both have the same byte at i
abbrev pub same_byte : List ℕ → List ℕ → ℕ → Bool
same_byte p q i = eqb (get_or p i 0) (get_or q i 0)

-- and eight from i on
abbrev pub same_eight : List ℕ → List ℕ → ℕ → Bool
same_eight p q i =
    ((((((same_byte p q i && same_byte p q (i + 1)) && same_byte p q (i + 2)) && same_byte p q (i + 3)) && same_byte p q (i + 4)) && same_byte p q (i + 5)) && same_byte p q (i + 6)) && same_byte p q (i + 7)

-- both have the same bytes from one place up to another
pub record SameBytes (p q : List ℕ) (from to : ℕ) : Type 0 where
  pub bytes : (k : ℕ) → from ≤ k → k < to → get_or p k 0 ≡ get_or q k 0

-- of as many bytes as the shorter path has, eights from the end are the same in both: all but the first up to seven
abbrev pub EndAlike : List ℕ → List ℕ → Type 0
EndAlike p q = SameBytes p q (min (length p) (length q) % 8) (min (length p) (length q))

-- the quick test says whether they are not
pub record TellsApart (p q : List ℕ) (r : Bool) : Type 0 where
  pub apart : r ≡ true → EndAlike p q → ⊥
  pub alike : r ≡ false → EndAlike p q
