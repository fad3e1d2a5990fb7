use mathlib.Core.Path.{refl}
use Rattle.std.proofs.lemmas.Result.{err_from_is_err_and}
use Rattle.child.proofs.TakeOverLaws.{inserting-done, inserting-stops, inserting-next}
use Rattle.child.proofs.inheriting.reinsert_all.Goals as goal

pub loop-entry-preserved : goal.loop-entry-preserved
loop-entry-preserved c = inserting-next c.loop-entry.invariant c.in-Some.ensures.steps c.in-Some.entry.sound c.in_ok-reinsert.ensures refl

pub returns-in_err-reinsert : goal.returns-in_err-reinsert
returns-in_err-reinsert c =
    let p = err_from_is_err_and c.from_residual.result c.from_residual.ensures.1 in
    rw (p.1, p.2) (inserting-stops c.loop-entry.invariant c.in-Some.ensures.steps c.in-Some.entry.sound c.in_err-reinsert.ensures refl)

pub returns : goal.returns
returns c = inserting-done c.loop-entry.invariant c.in-None.ensures.steps.0
