-- The components before i are names, but for the one that has not ended yet. Assumes nothing.
use Rattle.paths.proofs.Scanning.{Testing}
use Rattle.paths.proofs.resolving.all_names.Given as goal

abbrev pub invariant-loop-i : goal.invariant-loop-i
invariant-loop-i l = Testing l.p l.from l.i
