-- `drop_grants` meets its contract. The loop's invariant: what it kept is written from the front on, and the rest is where it was.
use Prim.Native.Nat.{◌-◌}
use Rattle.table.specs.Changing.{Selects}
use Rattle.table.proofs.RevokeLaws.{Kept}
use Rattle.table.proofs.revoking.drop_grants.Given as goal

abbrev pub invariant-loop : goal.invariant-loop
invariant-loop g l = Kept (Selects g.F.Fn l.selects) l.initial.mem l.mem (l.end - l.counter) l.kept l.from l.to
