-- `marks` meets its contract: the byte at `marks_at` of memory that holds a table is its marks.
use mathlib.Core.Path.{refl}
use native.Mathlib.Omega.{arith}
use Rattle.table.specs.Memory.{table_of}
use Rattle.table.proofs.Within.{held, marks_low}
use Rattle.table.proofs.held.Table.marks.Goals as goal

pub bounds-self-inside-3 : goal.bounds-self-inside-3
bounds-self-inside-3 c = omega (arith, (held _ c.self.invariant.holding).long)

pub returns : goal.returns
unfolding table_of
returns c = rw (← c.self.view_is) (refl, marks_low _ c.self.invariant.holding)
