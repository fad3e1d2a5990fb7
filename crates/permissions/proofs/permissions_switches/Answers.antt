-- `permissions_switches` meets its contract.
use mathlib.Core.Path.{◌∙◌}
use mir.Syntax.{w32}
use Rattle.table.proofs.ComparisonLaws.{read_back}
use Rattle.results.proofs.PlainLaws.{switches-plainly}
use Rattle.permissions.proofs.permissions_switches.Goals as goal

pub returns : goal.returns
returns c = switches-plainly _ _ c.set_switches-sent.ensures (read_back w32 _ c.outcome_number.type_inv ∙ c.outcome_number.ensures)
