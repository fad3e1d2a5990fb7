-- `permissions_insert` meets its contract.
use mathlib.Core.Path.{◌∙◌}
use mir.Syntax.{w32}
use Rattle.table.proofs.ComparisonLaws.{read_back}
use Rattle.results.proofs.PlainLaws.{insert-plainly}
use Rattle.permissions.proofs.permissions_insert.Goals as goal

pub returns : goal.returns
returns c = insert-plainly _ _ _ _ c.insert-sent.ensures (read_back w32 _ c.outcome_number.type_inv ∙ c.outcome_number.ensures)
