-- What the last step of resolving answers, and the lent space after it.
use Rattle.std.specs.Prelude.{ℕ, ◌≡◌, List, [], ◌∷◌, length, ltb, Option}
use Rattle.refusals.specs.declared.Refusal.{Refusal}
use Rattle.refusals.specs.declared.Refusal.TheVariants.{ResolvedTooLong}
use Rattle.refusals.specs.Refusals.{when, first_cause, Result, unless}
use Rattle.paths.specs.Resolving.{max_path, space_after}

-- the cause of a resolved path that is too long
unfoldable pub too_long : List ℕ → Option Refusal
too_long path = first_cause (when (ltb max_path (length path)) ResolvedTooLong ∷ [])

-- the answer and the lent space after it, of a path and a cause against it, if there is one
pub record Answers (path : List ℕ) (cause : Option Refusal) (space : List ℕ) (r : Result ℕ) (after : List ℕ) : Type 0 where
  pub answer : r ≡ unless cause (length path)
  pub bytes : after ≡ space_after path space cause
