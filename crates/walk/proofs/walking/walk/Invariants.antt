-- `walk` meets its contract. The loop's invariant: of the entries read, those before the ones that are left, `seen` has the first match and whether a
-- partial denial is among them.
use Rattle.walk.proofs.SeeingLaws.{Walking}
use Rattle.walk.proofs.walking.walk.Given as goal

abbrev pub invariant-loop-entry : goal.invariant-loop-entry
invariant-loop-entry l = Walking l.table l.q l.entry-iterator l.seen
