-- Resolving: the scope's stand-in for `normalize_path`, and the form that it gives. Scope, "Paths, at the bottom".
use Rattle.std.specs.Prelude.{ℕ, ◌≡◌, Bool, false, ◌&&◌, ◌||◌, not, cond, length, drop, eqb, ltb, Option, None, Some}
use mathlib.Core.List.{List, [], ◌∷◌, ◌++◌, drop_last}
use Rattle.refusals.specs.declared.Refusal.{Refusal}
use Rattle.refusals.specs.declared.Refusal.TheVariants.{EmptyPath, PathTooLong, BadDirectory, ResolvedTooLong}
use Rattle.refusals.specs.Refusals.{Condition, when, first_cause, Result, unless}
use Rattle.paths.specs.Components.{slash, dot, same, pieces, spell}

unfoldable pub is_absolute : List ℕ → Bool
is_absolute [] = false
is_absolute (b ∷ p) = eqb b slash

-- a relative path is joined to the working directory
unfoldable pub join : List ℕ → List ℕ → List ℕ
join cwd p = cond (is_absolute p) p (cwd ++ slash ∷ p)

-- a component that is a name: not empty, not `.`, not `..`
unfoldable pub is_name : List ℕ → Bool
is_name c = not (same c []) && not (same c (dot ∷ [])) && not (same c (dot ∷ dot ∷ []))

-- one component more: an empty one and `.` vanish; `..` drops the last one, at the root nothing
unfoldable pub entered : List (List ℕ) → List ℕ → List (List ℕ)
entered done c =
    cond (same c []) done
    (cond (same c (dot ∷ [])) done
    (cond (same c (dot ∷ dot ∷ [])) (drop_last done)
    (done ++ c ∷ [])))

-- components entered in turn
unfoldable pub enter_all : List (List ℕ) → List (List ℕ) → List (List ℕ)
enter_all done [] = done
enter_all done (c ∷ cs) = enter_all (entered done c) cs

unfoldable pub normalize : List ℕ → List ℕ
normalize p = spell (enter_all [] (pieces p))

-- the resolved path of p, as given in the working directory cwd
unfoldable pub resolve : List ℕ → List ℕ → List ℕ
resolve p cwd = normalize (join cwd p)

-- resolved form: resolving leaves the path as it is
unfoldable pub is_resolved : List ℕ → Bool
is_resolved p = same (normalize p) p

-- ---- the limit, and causes 4 to 7. Scope, "A call comes in"

-- the longest path, as given, resolved, or of a working directory
abbrev pub max_path : ℕ
max_path = 1024

-- a relative path comes with a working directory that is empty, too long or does not begin with `/`
unfoldable pub is_bad_directory : List ℕ → List ℕ → Bool
is_bad_directory p cwd = not (is_absolute p) && (same cwd [] || ltb max_path (length cwd) || not (is_absolute cwd))

-- in the checking order
unfoldable pub path_conditions : List ℕ → List ℕ → List Condition
path_conditions p cwd =
    when (same p []) EmptyPath
    ∷ when (ltb max_path (length p)) PathTooLong
    ∷ when (is_bad_directory p cwd) BadDirectory
    ∷ when (ltb max_path (length (resolve p cwd))) ResolvedTooLong
    ∷ []

-- ---- the answer of resolving, and the lent space after it

-- the length of the resolved path, or the first cause
unfoldable pub resolution : List ℕ → List ℕ → Result ℕ
resolution p cwd = unless (first_cause (path_conditions p cwd)) (length (resolve p cwd))

unfoldable pub space_after : List ℕ → List ℕ → Option Refusal → List ℕ
space_after path space None = path ++ drop (length path) space
space_after path space (Some cause) = space

-- the resolved path from the space's start and no more of it; on a refusal nothing
unfoldable pub resolved_into : List ℕ → List ℕ → List ℕ → List ℕ
resolved_into p cwd space = space_after (resolve p cwd) space (first_cause (path_conditions p cwd))

-- the answer of resolving, and the lent space after it
pub record Resolves (path cwd space : List ℕ) (r : Result ℕ) (after : List ℕ) : Type 0 where
  pub answer : r ≡ resolution path cwd
  pub bytes : after ≡ resolved_into path cwd space
