-- `entries_fit` meets its contract: the entries tested so far fit, and the rest decides.
use Prim.Native.Nat.{◌-◌}
use Rattle.table.proofs.ScanningLaws.{Scans}
use Rattle.table.proofs.holding.entries_fit.Given as goal

abbrev pub invariant-loop : goal.invariant-loop
invariant-loop l = Scans l.mem l.count (l.count - l.counter) l.room l.seen l.at
