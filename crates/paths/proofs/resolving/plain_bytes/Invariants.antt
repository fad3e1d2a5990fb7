-- The pairs before byte k are tested. Assumes nothing.
use Prim.Native.Nat.{◌-◌}
use Rattle.paths.specs.Scanning.{PlainBelow}
use Rattle.paths.proofs.resolving.plain_bytes.Given as goal

abbrev pub invariant-loop-k : goal.invariant-loop-k
invariant-loop-k l = PlainBelow l.p (l.k - 1)
