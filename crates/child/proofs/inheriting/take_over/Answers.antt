-- `take_over` meets its contract: the switches, and then each D, I and P again.
use mathlib.Core.Path.{refl}
use Rattle.std.proofs.lemmas.Result.{err_from_is_err_and}
use Rattle.table.proofs.Puts.{valid-of}
use Rattle.table.proofs.TableLaws.{valid-parts}
use Rattle.child.proofs.MakingLaws.{granted-held}
use Rattle.child.proofs.TakeOverLaws.{switches-fit, take-stops, take-goes}
use Rattle.child.proofs.inheriting.take_over.Goals as goal

pub returns-in_err-take_switches : goal.returns-in_err-take_switches
returns-in_err-take_switches c =
    let p = err_from_is_err_and c.from_residual.result c.from_residual.ensures.1 in
    rw (p.1, p.2) (take-stops _ c.in_err-take_switches.ensures refl)

pub reinsert_all-requires : goal.reinsert_all-requires
reinsert_all-requires c =
    (c.requires.0, granted-held _ c.requires.1 (switches-fit _ _ (valid-parts _ (valid-of _ c.requires.0)).switches) c.take_switches.ensures)

pub returns : goal.returns
returns c =
    take-goes _ c.requires.1 (valid-parts _ (valid-of _ c.requires.0)).switches c.in_ok-take_switches.ensures refl c.reinsert_all.ensures
