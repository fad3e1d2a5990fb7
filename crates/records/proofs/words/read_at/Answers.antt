-- `read_at` meets its contract: a word stands at the place, or the end.
use Rattle.records.proofs.WordLaws.{read_word, read-end}
use Rattle.records.proofs.words.read_at.Goals as goal

pub returns-in-Some : goal.returns-in-Some
returns-in-Some c = let h = c.in-Some.ensures.lookup in read_word _ _ h.3.0 (h.3.1 0)

pub returns-in-None : goal.returns-in-None
returns-in-None c = read-end _ _ c.in-None.ensures.lookup.3
