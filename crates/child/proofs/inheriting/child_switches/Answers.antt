-- `child_switches` meets its contract.
use mathlib.Core.Path.{sym}
use Rattle.child.proofs.TakeOverLaws.{switches-granted, switches-cleared}
use Rattle.child.proofs.inheriting.child_switches.Goals as goal

pub returns-then-has : goal.returns-then-has
returns-then-has c = switches-granted _ _ (sym c.if-has.ensures) c.set_bit.ensures

pub returns-else-has : goal.returns-else-has
returns-else-has c = switches-cleared _ _ (sym c.if-has.ensures) c.clear_bit.ensures
