-- A table that is known: acts done in turn on memory that holds it, and memory made for it. Concrete runs of calls rest on these.
use Rattle.std.specs.Prelude.{Ok}
use Prim.Native.Nat.{ℕ}
use mathlib.Core.Path.{◌≡◌, ap, ◌∙◌}
use mathlib.Core.List.{List, [], ◌∷◌}
use mathlib.Core.Bool.{Bool, true, ◌&&◌, not}
use native.Mathlib.Omega.{arith}
use lib.ListN.{length, replicate, length-replicate}
use borrow.Author.Tests.{not-true}
use Rattle.paths.proofs.ComponentLaws.{and_left, and_right}
use Rattle.table.specs.Tables.{Table, is_table}
use Rattle.table.specs.Acts.{Act, is_act, act_overflows, apply_act, apply_acts}
use Rattle.table.specs.Memory.{table_bytes, table_of, holds, put, do_acts}
use Rattle.table.specs.Calls.{table_in}
use Rattle.table.proofs.Puts.{table_of-put, holds-put}
use Rattle.table.proofs.ActLaws.{Acted, acted-none, acted-one, acted-append}
use Rattle.table.proofs.CallLaws.{a-table}

-- acts in turn, each of which can be recorded and has room
unfoldable pub all_fit : Table → List Act → Bool
all_fit t [] = true
all_fit t (act ∷ acts) = (is_act act && not (act_overflows t act)) && all_fit (apply_act t act) acts

acted-all : (m : List ℕ) (acts : List Act) → holds m ≡ true → all_fit (table_of m) acts ≡ true → Acted m acts
unfolding all_fit apply_acts
acted-all m [] h f = acted-none m h
acted-all m (act ∷ acts) h f =
    let fits = is_act act && not (act_overflows (table_of m) act) in
    let this = and_left fits _ f in
    let one = acted-one m act h (and_left (is_act act) _ this) (not-true _ (and_right (is_act act) _ this)) in
    acted-append (act ∷ []) acts one (acted-all (do_acts m (act ∷ [])) acts one.holding (rw one.table (and_right fits _ f)))

-- memory holds this table
pub record Stands (m : List ℕ) (t : Table) : Type 0 where
  pub holding : holds m ≡ true
  pub table : table_of m ≡ t

pub stands-then : {m : List ℕ} {t : Table} → Stands m t → (new : List Act) → all_fit t new ≡ true → Stands (do_acts m new) (apply_acts t new)
stands-then {m} S new f =
    let A = acted-all m new S.holding (rw S.table f) in
    record { holding = A.holding; table = rw (← S.table) A.table }

pub table-in : {m : List ℕ} {t : Table} → Stands m t → table_in m ≡ Ok t
table-in {m} S = a-table m S.holding ∙ ap Ok S.table

-- ---- memory and spaces

-- a list of this length
unfoldable pub space_of : ℕ → List ℕ
space_of n = replicate n 0

pub length-space : (n : ℕ) → length (space_of n) ≡ n
unfolding space_of
length-space n = length-replicate n 0

-- memory with a table in it
unfoldable pub table_memory : Table → List ℕ
table_memory t = put t (space_of table_bytes)

pub memory-stands : (t : Table) → is_table t ≡ true → Stands (table_memory t) t
unfolding table_memory
memory-stands t v = record {
  holding = holds-put t (space_of table_bytes) v (omega (arith, length-space table_bytes));
  table = table_of-put t (space_of table_bytes);
}
