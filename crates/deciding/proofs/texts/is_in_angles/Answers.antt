-- `is_in_angles` meets its contract: the first byte and the last decide.
use Rattle.std.proofs.Common.{arith}
use Rattle.std.proofs.lemmas.Grind.{common_steps}
use Rattle.deciding.specs.Texts.{opening, closing}
use Rattle.deciding.proofs.TextLaws.{starts-one, ends-one}
use Rattle.deciding.proofs.texts.is_in_angles.Goals as goal

pub returns-then-starts_with : goal.returns-then-starts_with
returns-then-starts_with c = grind (arith, common_steps, starts-one opening c.args.name.now, ends-one closing c.args.name.now)

pub returns-else-starts_with : goal.returns-else-starts_with
returns-else-starts_with c = grind (arith, common_steps, starts-one opening c.args.name.now)
