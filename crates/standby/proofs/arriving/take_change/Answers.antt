-- `take_change` meets its contract, by the run and the number of the change.
use native.Mathlib.Omega.{arith}
use Rattle.std.proofs.lemmas.Result.{err_from_is_err_and}
use Rattle.standby.proofs.ArrivingLaws.{takes-lower, takes-higher, takes-repeat, takes-early, takes-full, takes-applied}
use Rattle.standby.proofs.arriving.take_change.Goals as goal

pub returns-then-run-after : goal.returns-then-run-after
returns-then-run-after c = takes-lower _ _ _ _ _ c.meet-after.ensures (omega arith)

pub returns-then-after-run : goal.returns-then-after-run
returns-then-after-run c = takes-higher _ _ _ _ _ c.meet-after.ensures _ (omega arith) c.take_higher.ensures

pub returns-then-number-after : goal.returns-then-number-after
returns-then-number-after c = takes-repeat _ _ _ _ _ c.meet-after.ensures (omega arith) (omega arith)

pub returns-then-number-after-2 : goal.returns-then-number-after-2
returns-then-number-after-2 c = takes-early _ _ _ _ _ c.meet-after.ensures (omega arith) (omega arith)

pub returns-in_err-carry_out : goal.returns-in_err-carry_out
returns-in_err-carry_out c =
    let p = err_from_is_err_and c.from_residual.result c.from_residual.ensures.1 in
    rw (p.1, p.2) (takes-full _ _ _ _ _ c.meet-after.ensures (omega arith) (omega arith) c.in_err-carry_out.ensures)

pub returns : goal.returns
returns c = takes-applied _ _ _ _ _ c.meet-after.ensures (omega arith) (omega arith) (omega arith) c.in_ok-carry_out.ensures
