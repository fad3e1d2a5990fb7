-- `with_entry` meets its contract: the first match and the partial denial, each with this entry's.
use Rattle.walk.proofs.SeeingLaws.{sees_more}
use Rattle.walk.proofs.walking.with_entry.Goals as goal

pub returns : goal.returns
returns c =
    record {
      more = λ q read e k M S.
          sees_more q read e k M c.matches.ensures S c.first_of.ensures c.is_partial.ensures;
    }
