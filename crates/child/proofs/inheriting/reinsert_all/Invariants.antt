-- `reinsert_all` meets its contract. The loop's invariant: whatever inserting the entries that are left makes, the whole list makes.
use Rattle.table.specs.Memory.{table_of}
use Rattle.child.proofs.TakeOverLaws.{Inserting}
use Rattle.child.proofs.inheriting.reinsert_all.Given as goal

abbrev pub invariant-loop-entry : goal.invariant-loop-entry
invariant-loop-entry l = Inserting (table_of l.parent) l.initial.child l.child l.entry-iterator
