-- `check_desc` meets its contract: a table that allows all passes.
use Rattle.std.proofs.Common.{arith}
use Rattle.std.proofs.lemmas.Grind.{common_steps}
use Rattle.deciding.specs.Decisions.{check_desc}
use Rattle.deciding.proofs.DecisionLaws.{decides-same}
use Rattle.deciding.proofs.decisions.check_desc.Goals as goal

pub returns-then-is_allow_all : goal.returns-then-is_allow_all
unfolding check_desc
returns-then-is_allow_all c = decides-same (grind (arith, common_steps)) (c.unasked.ensures _)
