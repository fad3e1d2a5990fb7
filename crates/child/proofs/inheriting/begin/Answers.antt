-- `begin` meets its contract: the parent's copy, or a fresh table.
use mathlib.Core.Logic.{◌⊎◌, inl, inr}
use mathlib.Core.Path.{◌≡◌}
use Rattle.table.specs.Tables.{Table, fresh}
use Rattle.table.proofs.CallLaws.{made-fresh}
use Rattle.child.specs.declared.ChildUnaryPermissionArg.{ChildUnaryPermissionArg}
use Rattle.child.specs.declared.ChildUnaryPermissionArg.TheVariants.{Granted, NotGranted, GrantedList}
use Rattle.child.specs.Making.{first_child}
use Rattle.child.proofs.TakeOverLaws.{fresh-done}
use Rattle.child.proofs.inheriting.begin.Goals as goal

first-fresh : {arg : ChildUnaryPermissionArg} (t : Table) → (arg ≡ Granted) ⊎ ((arg ≡ NotGranted) ⊎ (arg ≡ GrantedList)) → first_child arg t ≡ fresh
unfolding first_child
first-fresh t (inl e) = rw e
first-fresh t (inr (inl e)) = rw e
first-fresh t (inr (inr e)) = rw e

pub unwrap-requires : goal.unwrap-requires
unwrap-requires c = fresh-done c.requires.1 c.make_fresh.ensures

pub returns-in-Inherit : goal.returns-in-Inherit
unfolding first_child
returns-in-Inherit c = rw c.in-Inherit.is (rw c.of.ensures at c.copy_to.ensures)

pub returns-in-Granted : goal.returns-in-Granted
returns-in-Granted c = rw (first-fresh _ c.in-Granted.is) (made-fresh c.requires.1 c.make_fresh.ensures)
