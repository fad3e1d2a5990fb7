-- `move_up` meets its contract. The loop's invariant: all but the first `i` bytes stand at their new offset.
use Prim.Native.Nat.{◌+◌, ◌-◌}
use mathlib.Core.Path.{◌≡◌}
use lib.ListN.{drop}
use lib.Seq.{paste}
use Rattle.table.proofs.writing.move_up.Given as goal

abbrev pub invariant-loop-i : goal.invariant-loop-i
invariant-loop-i l = l.mem ≡ paste l.initial.mem (l.to + l.i) (drop (l.from + l.i) l.initial.mem) (l.n - l.i)
