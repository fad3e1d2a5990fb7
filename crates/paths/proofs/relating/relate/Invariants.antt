-- `relating::relate` meets its contract. The outer loop's invariant: i and j lie between components, those before are shared and counted, and those from
-- there on decide. The inner loop's: i and j lie inside components, and what is left of both decides. Both measures are what is left of the first path.
-- Assumes nothing.
use Prim.Native.Nat.{◌-◌}
use lib.ListN.{length}
use Rattle.paths.proofs.RelatingLaws.{Between, Inside}
use Rattle.paths.proofs.relating.relate.Given as goal

abbrev pub invariant-loop-i : goal.invariant-loop-i
invariant-loop-i l = Inside l.p l.q l.common l.initial.i l.end l.i l.j

abbrev pub decreases-loop-i : goal.decreases-loop-i
decreases-loop-i l = length l.p - l.i

abbrev pub invariant-components : goal.invariant-components
invariant-components l = Between l.p l.q l.common l.i l.j

abbrev pub decreases-components : goal.decreases-components
decreases-components l = length l.p - l.i
