-- What a call is given: no path, or a path with its working directory; and what it asks about once that is resolved. Scope, "A call comes in".
use Rattle.std.specs.Prelude.{ℕ, ◌≡◌, List, Bool, true, ◌&&◌, length, leb, Ok}
use Rattle.refusals.specs.Refusals.{first_cause, Result, unless, and_then}
use Rattle.paths.specs.declared.Descriptor.{Descriptor}
use Rattle.paths.specs.declared.Descriptor.TheVariants.{NoPath, Path}
use Rattle.paths.specs.Resolving.{max_path, resolve, is_resolved, path_conditions, resolution, resolved_into}

-- a path that an entry or an act may have: in resolved form and within its limit
unfoldable pub is_path : List ℕ → Bool
is_path q = leb (length q) max_path && is_resolved q

-- 4 to 7: the resolved path, or the first cause
unfoldable pub resolved : List ℕ → List ℕ → Result (List ℕ)
resolved p cwd = unless (first_cause (path_conditions p cwd)) (resolve p cwd)

-- what is asked about: no path, or a resolved one
pub data Query : Type 0 where
  no_path : Query
  path : List ℕ → Query

-- its path, if it has one, is such a path
unfoldable pub is_query : Query → Bool
is_query no_path = true
is_query (path q) = is_path q

-- a descriptor says whether there is a path, with the bytes lent beside it
unfoldable pub query_of : Descriptor → List ℕ → Query
query_of NoPath q = no_path
query_of Path q = path q

-- what is given, resolved; with no path nothing is resolved, and the working directory is not looked at
unfoldable pub given : Descriptor → List ℕ → List ℕ → Result Query
given NoPath p cwd = Ok no_path
given Path p cwd = and_then (resolved p cwd) (λ q. Ok (path q))

-- how many bytes it has then
unfoldable pub given_size : Descriptor → List ℕ → List ℕ → ℕ
given_size NoPath p cwd = 0
given_size Path p cwd = length (resolve p cwd)

-- ---- the same as an answer of the code, with the lent space after it

unfoldable pub given_resolution : Descriptor → List ℕ → List ℕ → Result ℕ
given_resolution NoPath p cwd = Ok 0
given_resolution Path p cwd = resolution p cwd

unfoldable pub given_into : Descriptor → List ℕ → List ℕ → List ℕ → List ℕ
given_into NoPath p cwd space = space
given_into Path p cwd space = resolved_into p cwd space

pub record Gives (d : Descriptor) (p cwd space : List ℕ) (r : Result ℕ) (after : List ℕ) : Type 0 where
  pub answer : r ≡ given_resolution d p cwd
  pub bytes : after ≡ given_into d p cwd space
