-- `append_entries` meets its contract. The loop's invariant: with the lines of the entries that are left, the lines so far are all of them.
use Rattle.holdlist.proofs.LineLaws.{Lining}
use Rattle.holdlist.proofs.printing.append_entries.Given as goal

abbrev pub invariant-loop-entry : goal.invariant-loop-entry
invariant-loop-entry l = Lining l.fn.entries l.initial.space l.at l.space l.end l.entry-iterator
