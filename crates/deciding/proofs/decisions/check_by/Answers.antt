-- `check_by` meets its contract: Granted passes, and any other state that asks nobody fails.
use Rattle.std.proofs.Common.{arith}
use Rattle.std.proofs.lemmas.Grind.{common_steps}
use Rattle.deciding.specs.Decisions.{check_by}
use Rattle.deciding.proofs.DecisionLaws.{decides-same}
use Rattle.deciding.proofs.decisions.check_by.Goals as goal

pub returns-in-Granted : goal.returns-in-Granted
unfolding check_by
returns-in-Granted c q = decides-same (grind (arith, common_steps)) (c.unasked.ensures q)

pub returns-in_default : goal.returns-in_default
unfolding check_by
returns-in_default c q = decides-same (grind (arith, common_steps)) (c.unasked-in_default.ensures q)
