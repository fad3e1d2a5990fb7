-- `copy_in` meets its contract. The loop's invariant: the first `i` bytes of src are copied.
use mathlib.Core.Path.{◌≡◌}
use lib.Seq.{paste}
use Rattle.paths.proofs.copying.copy_in.Given as goal

abbrev pub invariant-loop-i : goal.invariant-loop-i
invariant-loop-i l = l.mem ≡ paste l.initial.mem l.at l.src l.i
