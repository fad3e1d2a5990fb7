-- `ask` meets its contract: 12, 3, or the decision.
use Rattle.std.proofs.lemmas.Result.{err_from_is_err_and}
use Rattle.refusals.specs.Refusals.{and_then}
use Rattle.unit.specs.Calls.{unit_call, state_after}
use Rattle.unit.proofs.ask.Goals as goal

pub returns-in_err-found : goal.returns-in_err-found
unfolding unit_call and_then state_after
returns-in_err-found c =
    let p = err_from_is_err_and c.from_residual.result c.from_residual.ensures.1 in
    let e = c.in_err-found.ensures in
    rw (p.1, p.2) (record { answer = rw (← e); state = rw (← e) })

pub returns-in_err-known : goal.returns-in_err-known
unfolding unit_call and_then state_after
returns-in_err-known c =
    let p = err_from_is_err_and c.from_residual-in_err-known.result c.from_residual-in_err-known.ensures.1 in
    let e = c.in_ok-found.ensures in
    let f = c.in_err-known.ensures in
    rw (p.1, p.2) (record { answer = rw (← e, ← f); state = rw (← e, ← f) })

pub returns : goal.returns
unfolding unit_call and_then state_after
returns c =
    let d = c.in_ok-found.ensures in
    let f = c.in_ok-known.ensures in
    record { answer = rw (← d, ← f, c.decide-decided.ensures); state = rw (← d, ← f, c.from-2.ensures, c.from.ensures, c.decide-decided.ensures) }
