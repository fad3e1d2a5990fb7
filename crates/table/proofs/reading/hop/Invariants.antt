-- `hop` meets its contract. The loop's invariant: the entry that is sought is the one at as many places from `at` on as turns are left.
use Prim.Native.Nat.{◌-◌}
use mathlib.Core.Path.{◌≡◌}
use mathlib.Core.Bool.{true}
use Rattle.table.specs.Memory.{offset_at, are_within}
use Rattle.table.proofs.reading.hop.Given as goal

abbrev pub invariant-loop : goal.invariant-loop
invariant-loop l =
    (are_within l.mem (l.n - l.counter) l.at ≡ true) × (offset_at l.mem l.n l.from ≡ offset_at l.mem (l.n - l.counter) l.at)
