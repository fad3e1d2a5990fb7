-- `switches` meets its contract: the byte of memory that holds a table.
use mathlib.Core.Path.{refl}
use native.Mathlib.Omega.{arith}
use Rattle.table.specs.Memory.{table_of}
use Rattle.table.proofs.Within.{held}
use Rattle.table.proofs.held.Table.switches.Goals as goal

pub bounds-self-inside-2 : goal.bounds-self-inside-2
bounds-self-inside-2 c = omega (arith, (held _ c.self.invariant.holding).long)

pub returns : goal.returns
unfolding table_of
returns c = rw (← c.self.view_is) (refl, (held _ c.self.invariant.holding).switches)
