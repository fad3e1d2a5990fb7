-- The call query: its checking order and its answer. Scope, "A call comes in".
use Rattle.std.specs.Prelude.{ℕ, List, Ok}
use Rattle.refusals.specs.Refusals.{Result, and_then}
use Rattle.paths.specs.declared.Descriptor.{Descriptor}
use Rattle.paths.specs.Giving.{given}
use Rattle.table.specs.Calls.{table_in}
use Rattle.walk.specs.declared.PermissionState.{PermissionState}
use Rattle.walk.specs.Walk.{mode_of, known_mode, query_desc}

-- the state, or the first cause: 1, 3, 4 to 7, and then the state; m is the lent memory, p the path as given
unfoldable pub query_call : List ℕ → ℕ → Descriptor → List ℕ → List ℕ → Result PermissionState
query_call m mode d p cwd =
    and_then (table_in m) (λ t.
    and_then (known_mode (mode_of mode)) (λ known.
    and_then (given d p cwd) (λ q.
    Ok (query_desc t known q))))
