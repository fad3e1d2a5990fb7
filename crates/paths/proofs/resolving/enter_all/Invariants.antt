-- The components before the present one are entered, and that one and the others follow. Assumes nothing.
use lib.ListN.{drop}
use Rattle.paths.specs.Components.{pieces}
use Rattle.paths.proofs.Scanning.{Open}
use Rattle.paths.proofs.Entering.{Entering}
use Rattle.paths.proofs.resolving.enter_all.Given as goal

abbrev pub invariant-loop-i : goal.invariant-loop-i
invariant-loop-i l = Open l.src l.from l.i × Entering l.initial.work l.len l.src l.work l.n (pieces (drop l.from l.src))
