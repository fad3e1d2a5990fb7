-- `created` meets its contract: the operator is asked at most once for each item.
use native.Mathlib.Omega.{arith}
use Rattle.child.proofs.AskedLaws.{asked-few}
use Rattle.results.proofs.calling.created.Goals as goal

pub overflow_cast-told : goal.overflow_cast-told
overflow_cast-told c = omega (arith, asked-few c.create_child_permissions-sent.ensures)
