-- A path is a list of bytes, and slashes part it into components. Scope, "Paths, at the bottom".
-- Any byte but the slash may stand in a component.
use Rattle.std.specs.Prelude.{ℕ, ◌<◌, List, [], ◌∷◌, ◌++◌, Bool, true, false, ◌&&◌, get_or, eqb}

-- every element is a byte
pub record Bytes (p : List ℕ) : Type 0 where
  pub each : (k : ℕ) → get_or p k 0 < 256

abbrev pub slash : ℕ
slash = 47

abbrev pub dot : ℕ
dot = 46

-- the same bytes
unfoldable pub same : List ℕ → List ℕ → Bool
same [] [] = true
same [] (b ∷ q) = false
same (a ∷ p) [] = false
same (a ∷ p) (b ∷ q) = eqb a b && same p q

-- a byte in front of the first component
unfoldable pub grown : ℕ → List (List ℕ) → List (List ℕ)
grown b [] = (b ∷ []) ∷ []
grown b (c ∷ cs) = (b ∷ c) ∷ cs

-- a byte in front of the components: a slash begins a new one
unfoldable pub parted : Bool → ℕ → List (List ℕ) → List (List ℕ)
parted true b cs = [] ∷ cs
parted false b cs = grown b cs

-- all that slashes part, empty components too: `/a//b` has four, of which the first and the third are empty
unfoldable pub pieces : List ℕ → List (List ℕ)
pieces [] = [] ∷ []
pieces (b ∷ p) = parted (eqb b slash) b (pieces p)

unfoldable pub without_empty : List (List ℕ) → List (List ℕ)
without_empty [] = []
without_empty ([] ∷ cs) = without_empty cs
without_empty ((b ∷ c) ∷ cs) = (b ∷ c) ∷ without_empty cs

-- the components: `/a//b` has two, and `/` has none
unfoldable pub components : List ℕ → List (List ℕ)
components p = without_empty (pieces p)

-- each component behind a slash
unfoldable pub slashed : List (List ℕ) → List ℕ
slashed [] = []
slashed (c ∷ cs) = slash ∷ c ++ slashed cs

-- the path that has these components; that of none is the root
unfoldable pub spell : List (List ℕ) → List ℕ
spell [] = slash ∷ []
spell (c ∷ cs) = slashed (c ∷ cs)
