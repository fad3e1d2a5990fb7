-- `is_apart` meets its contract. The loop's invariant: the bytes looked at are the same, and those left of them are eights. Assumes nothing.
use Prim.Native.Nat.{◌%◌, ◌≤◌, min}
use mathlib.Core.Path.{◌≡◌}
use lib.ListN.{length}
use Rattle.paths.specs.Relating.{SameBytes}
use Rattle.paths.proofs.relating.is_apart.Given as goal

abbrev pub invariant-loop-n : goal.invariant-loop-n
invariant-loop-n l =
    let both = min (length l.p) (length l.q) in
    (l.n ≤ both) × (l.n % 8 ≡ both % 8) × SameBytes l.p l.q l.n both

abbrev pub decreases-loop-n : goal.decreases-loop-n
decreases-loop-n l = l.n
