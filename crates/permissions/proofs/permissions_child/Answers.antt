-- `permissions_child` meets its contract.
use mir.Syntax.{w32}
use Rattle.table.proofs.ComparisonLaws.{read_back}
use Rattle.results.proofs.PlainLaws.{child-plainly}
use Rattle.permissions.proofs.permissions_child.Goals as goal

pub returns : goal.returns
returns c = rw (read_back w32 _ c.created.type_inv) (child-plainly c.created.ensures)
