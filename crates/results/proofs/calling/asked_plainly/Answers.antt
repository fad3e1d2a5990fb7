-- `asked_plainly` meets its contract.
use mir.Syntax.{w32}
use Rattle.table.proofs.ComparisonLaws.{read_back}
use Rattle.results.proofs.PlainLaws.{ask-plainly}
use Rattle.results.proofs.calling.asked_plainly.Goals as goal

pub returns : goal.returns
returns c = rw (read_back w32 _ c.asked.type_inv) (ask-plainly c.asked.ensures)
