-- `request_by` meets its contract: Prompt that asks nobody is Denied, and any other state but Granted is answered as it is.
use Rattle.std.proofs.Common.{arith}
use Rattle.std.proofs.lemmas.Grind.{common_steps}
use Rattle.deciding.specs.Decisions.{request_by}
use Rattle.deciding.proofs.DecisionLaws.{decides-same}
use Rattle.deciding.proofs.decisions.request_by.Goals as goal

pub returns-in-Prompt-2 : goal.returns-in-Prompt-2
unfolding request_by
returns-in-Prompt-2 c q = decides-same (grind (arith, common_steps)) (c.unasked.ensures q)

pub returns-in_default : goal.returns-in_default
unfolding request_by
returns-in_default c q = decides-same (grind (arith, common_steps)) (c.unasked-in_default.ensures q)
