-- The call that compares two paths as given: its checking order and its answer. Scope, "Paths, at the bottom".
use Rattle.std.specs.Prelude.{ℕ, List, Ok}
use Rattle.refusals.specs.Refusals.{Result, and_then}
use Rattle.paths.specs.declared.Comparison.{Comparison}
use Rattle.paths.specs.Giving.{resolved}
use Rattle.paths.specs.Relations.{comparison}

-- 4 to 7 for the first path, 4 to 7 for the second, and then how the resolved paths compare: what the comparison finds, or the first cause
unfoldable pub compare_call : List ℕ → List ℕ → List ℕ → Result Comparison
compare_call p q cwd =
    and_then (resolved p cwd) (λ a.
    and_then (resolved q cwd) (λ b.
    Ok (comparison a b)))
