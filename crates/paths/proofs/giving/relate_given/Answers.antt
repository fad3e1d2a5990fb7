-- `giving::relate_given` hands on the first path's cause, or the second's. Assumes nothing.
use mathlib.Core.Path.{refl}
use Rattle.std.proofs.lemmas.Result.{err_from_is_err_and}
use Rattle.paths.proofs.GivingLaws.{resolves-refused, resolves-ok, compare-first, compare-second}
use Rattle.paths.proofs.giving.relate_given.Goals as goal

pub returns-in_err-n : goal.returns-in_err-n
returns-in_err-n c =
    let p = err_from_is_err_and c.from_residual.result c.from_residual.ensures.1 in
    rw (p.1, p.2) (compare-first _ _ _ (resolves-refused c.in_err-n.ensures refl))

pub returns-in_err-m : goal.returns-in_err-m
returns-in_err-m c =
    let p = err_from_is_err_and c.from_residual-in_err-m.result c.from_residual-in_err-m.ensures.1 in
    rw (p.1, p.2) (compare-second _ _ _ (resolves-ok c.in_ok-n.ensures refl) (resolves-refused c.in_err-m.ensures refl))
