-- `finish` meets its contract: the text is written, if one is due.
use Rattle.calls.proofs.AskLaws.{finishes-written, finishes-silent}
use Rattle.calls.proofs.asking.finish.Goals as goal

pub returns-then-settled : goal.returns-then-settled
returns-then-settled c = finishes-written c.if-settled.true c.write_text-text.ensures

pub returns-else-settled : goal.returns-else-settled
returns-else-settled c = finishes-silent _ _ _ _ _ c.if-settled.false
