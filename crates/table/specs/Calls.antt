-- Steps of the checking order on a table, and the call that makes a fresh one. Scope, "A call comes in".
use Rattle.std.specs.Prelude.{ℕ, ◌≡◌, List, [], ◌∷◌, not, length, ltb, Some, Ok, Err}
use Rattle.refusals.specs.declared.Refusal.TheVariants.{NoTable}
use Rattle.refusals.specs.Refusals.{when, first_cause, Result, unless, cause_of}
use Rattle.table.specs.Tables.{Table, fresh}
use Rattle.table.specs.Acts.{Act}
use Rattle.table.specs.Memory.{table_bytes, table_of, holds, put}
use Rattle.table.specs.Carrying.{room_cause, outcome_of}

-- ---- steps of the checking order

-- 1: the table that the lent memory holds
unfoldable pub table_in : List ℕ → Result Table
table_in m = unless (first_cause (when (not (holds m)) NoTable ∷ [])) (table_of m)

-- 1: memory about to get a fresh or child table need only be large enough
unfoldable pub fresh_in : List ℕ → Result Table
fresh_in m = unless (first_cause (when (ltb (length m) table_bytes) NoTable ∷ [])) fresh

-- 8: an act on the table t
unfoldable pub with_room : Table → Act → Result Act
with_room t act = unless (room_cause t (Some act)) act

-- ---- a fresh table

unfoldable pub put_in : Result Table → List ℕ → List ℕ
put_in (Err cause) m = m
put_in (Ok t) m = put t m

pub record MakesFresh (m m' : List ℕ) (r : Result Unit) : Type 0 where
  pub outcome : r ≡ outcome_of (cause_of (fresh_in m))
  pub memory : m' ≡ put_in (fresh_in m) m
