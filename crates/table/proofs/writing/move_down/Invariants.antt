-- `move_down` meets its contract. The loop's invariant: the first `i` bytes stand at their new offset.
use mathlib.Core.Path.{◌≡◌}
use lib.ListN.{drop}
use lib.Seq.{paste}
use Rattle.table.proofs.writing.move_down.Given as goal

abbrev pub invariant-loop-i : goal.invariant-loop-i
invariant-loop-i l = l.mem ≡ paste l.initial.mem l.to (drop l.from l.initial.mem) l.i
