-- `revoke` meets its contract: 12, or Granted becomes Prompt.
use Rattle.std.proofs.lemmas.Result.{err_from_is_err_and}
use Rattle.refusals.specs.Refusals.{and_then}
use Rattle.unit.specs.Calls.{revoke_unit_call, answer_in, state_after}
use Rattle.unit.proofs.revoke.Goals as goal

pub returns-in_err-before : goal.returns-in_err-before
unfolding revoke_unit_call and_then answer_in state_after
returns-in_err-before c =
    let p = err_from_is_err_and c.from_residual.result c.from_residual.ensures.1 in
    let e = c.in_err-before.ensures in
    rw (p.1, p.2) (record { answer = rw (← e); state = rw (← e) })

pub returns : goal.returns
unfolding revoke_unit_call and_then answer_in state_after
returns c =
    let e = c.in_ok-before.ensures in
    record { answer = rw (← e, c.revoked-left.ensures); state = rw (← e, c.from-2.ensures, c.from.ensures, c.revoked-left.ensures) }
