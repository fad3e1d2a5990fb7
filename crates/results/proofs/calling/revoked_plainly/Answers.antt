-- `revoked_plainly` meets its contract.
use mir.Syntax.{w32}
use Rattle.table.proofs.ComparisonLaws.{read_back}
use Rattle.results.proofs.PlainLaws.{revoke-plainly}
use Rattle.results.proofs.calling.revoked_plainly.Goals as goal

pub returns : goal.returns
returns c = rw (read_back w32 _ c.revoked.type_inv) (revoke-plainly c.revoked.ensures)
