-- `meet` meets its contract: apart by the quick test, and else by what the comparison says.
use mathlib.Core.Path.{sym, ◌∙◌}
use Rattle.std.proofs.Common.{arith}
use Rattle.std.proofs.lemmas.Grind.{common_steps}
use Rattle.paths.proofs.ApartLaws.{apart-prefix, apart-extension}
use Rattle.walk.proofs.SeeingLaws.{meets-compared}
use Rattle.walk.proofs.walking.meet.Goals as goal
use Rattle.walk.proofs.walking.meet.Goals.{in-Equal, in_default}

pub returns-then-is_apart : goal.returns-then-is_apart
returns-then-is_apart c =
    let q-resolved = sym c.requires.1 ∙ c.if-resolved.true in
    record {
      above = sym (apart-prefix _ _ c.requires.0 q-resolved c.is_apart.ensures c.if-is_apart.true);
      below = sym (apart-extension _ _ c.requires.0 q-resolved c.is_apart.ensures c.if-is_apart.true);
    }

pub returns-in-Equal-matches : goal.returns-in-Equal-matches
returns-in-Equal-matches c = meets-compared c.relate-relation.ensures (grind (arith, common_steps)) (grind (arith, common_steps))

pub returns-in_default-matches : goal.returns-in_default-matches
returns-in_default-matches c = meets-compared c.relate-relation.ensures (grind (arith, common_steps)) (grind (arith, common_steps))
