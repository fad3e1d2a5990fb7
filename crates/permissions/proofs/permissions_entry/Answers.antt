-- `permissions_entry` meets its contract.
use mathlib.Core.Path.{sym, ◌∙◌}
use mir.Syntax.{w32}
use Rattle.table.proofs.ComparisonLaws.{read_back}
use Rattle.results.proofs.ExportLaws.{table-held, entry-none, entry-some}
use Rattle.permissions.proofs.permissions_entry.Goals as goal

pub entry_at-requires : goal.entry_at-requires
entry_at-requires c = table-held _ (sym c.in-Ok.ensures)

pub returns-in-Ok : goal.returns-in-Ok
returns-in-Ok c = rw (read_back w32 _ c.tell_listed.type_inv) (entry-some _ _ (sym c.in-Ok.ensures) (rw c.entry_at.ensures at c.tell_listed.ensures))

pub returns-in-Err : goal.returns-in-Err
returns-in-Err c = entry-none _ _ (sym c.in-Err.ensures) c.tell_listed-in-Err.ensures (read_back w32 _ c.refused.type_inv ∙ c.refused.ensures)
