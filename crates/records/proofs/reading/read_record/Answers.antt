-- `read_record` meets its contract, at each way out.
use mathlib.Core.Path.{refl}
use mathlib.Core.List.{[]}
use native.Mathlib.Omega.{arith}
use Rattle.std.proofs.Common.{rules}
use Rattle.records.proofs.WordLaws.{front-headed}
use Rattle.records.proofs.ReadingLaws.{without-run, no-head, headed-unnumbered, headed-unknown, headed-path, headed-switches, headed-revoke-all}
use Rattle.records.proofs.reading.read_record.Goals as goal

pub returns-in_err-run : goal.returns-in_err-run
returns-in_err-run c = rw c.from_residual.ensures (without-run _ _ c.read_front-front.ensures c.in_err-run.ensures)

pub returns-in_err-head : goal.returns-in_err-head
returns-in_err-head c = rw c.from_residual-in_err-head.ensures (no-head _ _ c.read_front-front.ensures c.in_ok-run.ensures c.in_err-head.was)

pub returns-then-number-eq0 : goal.returns-then-number-eq0
returns-then-number-eq0 c =
    let H = front-headed _ _ c.read_front-front.ensures c.in_ok-run.ensures c.in_ok-head.was in
    headed-unnumbered H (omega arith)

pub overflow_add-action : goal.overflow_add-action
overflow_add-action c =
    let H = front-headed _ _ c.read_front-front.ensures c.in_ok-run.ensures c.in_ok-head.was in
    omega (arith, H.here)

pub returns-in_err-path-in-17-to-20 : goal.returns-in_err-path-in-17-to-20
returns-in_err-path-in-17-to-20 c =
    let H = front-headed _ _ c.read_front-front.ensures c.in_ok-run.ensures c.in_ok-head.was in
    rw c.from_residual-in_err-path-in-17-to-20.ensures
    (headed-path H (λ z. omega arith) _ refl (search rules) c.in_err-path-in-17-to-20.ensures refl)

pub returns-in_err-switches_of-in-21 : goal.returns-in_err-switches_of-in-21
returns-in_err-switches_of-in-21 c =
    let H = front-headed _ _ c.read_front-front.ensures c.in_ok-run.ensures c.in_ok-head.was in
    rw c.from_residual-in_err-switches_of-in-21.ensures (headed-switches H (λ z. omega arith) c.in-21.is c.in_err-switches_of-in-21.ensures)

pub returns-in_ok-switches_of-in-21 : goal.returns-in_ok-switches_of-in-21
returns-in_ok-switches_of-in-21 c =
    let H = front-headed _ _ c.read_front-front.ensures c.in_ok-run.ensures c.in_ok-head.was in
    rw c.from-number.ensures (headed-switches H (λ z. omega arith) c.in-21.is c.in_ok-switches_of-in-21.ensures)

pub returns-in-23 : goal.returns-in-23
returns-in-23 c =
    let H = front-headed _ _ c.read_front-front.ensures c.in_ok-run.ensures c.in_ok-head.was in
    rw c.from-number.ensures (headed-revoke-all H (λ z. omega arith) c.in-23.is)

pub returns-in-0-to-16 : goal.returns-in-0-to-16
returns-in-0-to-16 c =
    let H = front-headed _ _ c.read_front-front.ensures c.in_ok-run.ensures c.in_ok-head.was in
    headed-unknown H (λ l. omega arith)

pub returns-in-0-to-16-2 : goal.returns-in-0-to-16-2
returns-in-0-to-16-2 c =
    let H = front-headed _ _ c.read_front-front.ensures c.in_ok-run.ensures c.in_ok-head.was in
    headed-unknown H (λ l. omega arith)

pub returns-in_ok-path-in-17-to-20 : goal.returns-in_ok-path-in-17-to-20
returns-in_ok-path-in-17-to-20 c =
    let H = front-headed _ _ c.read_front-front.ensures c.in_ok-run.ensures c.in_ok-head.was in
    rw c.from-number.ensures (headed-path H (λ z. omega arith) _ refl (search rules) c.in_ok-path-in-17-to-20.ensures (c.path_action.ensures []))
