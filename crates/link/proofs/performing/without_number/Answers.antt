-- `without_number` meets its contract.
use mathlib.Core.Logic.{inl, inr}
use Rattle.table.specs.Acts.{act_overflows}
use Rattle.table.specs.Carrying.{act_of}
use Rattle.link.specs.Steps.{no_number}
use Rattle.link.proofs.performing.without_number.Goals as goal

pub returns-in-Nothing : goal.returns-in-Nothing
unfolding no_number act_of
returns-in-Nothing c = rw c.in-Nothing.is

pub returns-then-overflows : goal.returns-then-overflows
unfolding no_number act_of act_overflows
returns-then-overflows c = rw (c.in-Insert.is, ← c.if-overflows.ensures)

pub returns-else-overflows : goal.returns-else-overflows
unfolding no_number act_of act_overflows
returns-else-overflows c = rw (c.in-Insert.is, ← c.if-overflows.ensures)

pub returns-in-SetSwitches : goal.returns-in-SetSwitches
unfolding no_number act_of act_overflows
returns-in-SetSwitches c = elim c.in-SetSwitches.is [ inl e ↦ rw e.1 | inr (inl e) ↦ rw e | inr (inr e) ↦ rw e ]
