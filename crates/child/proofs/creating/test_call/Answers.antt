-- `test_call` meets its contract: the first cause is found, or every test is passed.
use mathlib.Core.Path.{sym}
use native.Mathlib.Omega.{arith}
use Rattle.std.proofs.lemmas.Result.{err_from_is_err_and}
use Rattle.link.proofs.LinkLaws.{admitted}
use Rattle.items.proofs.ItemListLaws.{all_known}
use Rattle.child.proofs.ArgumentLaws.{no-arg, no-responses, no-order}
use Rattle.child.proofs.CreatingLaws.{child-no-table, child-small, child-barred, child-unknown}
use Rattle.child.proofs.creating.test_call.Goals as goal
use Rattle.child.proofs.creating.test_call.Goals.{
  then-not-holds_table-via-then-not-holds_table,
  then-not-holds_table-via-else-not-holds_table+then-child-lt-TABLE_BYTES,
  else-are_responses-via-then-are_responses+else-are_in_order,
  else-are_responses-via-else-are_responses,
}

pub returns-then-not-holds_table : goal.returns-then-not-holds_table
returns-then-not-holds_table c = λ n cwd.
    elim c.then-not-holds_table.branch [
      | then-not-holds_table-via-then-not-holds_table w ↦ child-no-table _ _ _ _ _ _ _ _ (sym w.if-not-holds_table.ensures)
      | then-not-holds_table-via-else-not-holds_table+then-child-lt-TABLE_BYTES w ↦
          child-small _ _ _ _ _ _ _ _ (sym w.if-not-holds_table.ensures) (omega arith)
    ]

pub returns-in_err-admit : goal.returns-in_err-admit
returns-in_err-admit c =
    let p = err_from_is_err_and c.from_residual.result c.from_residual.ensures.1 in
    rw (p.1, p.2) (λ n cwd. child-barred _ _ _ _ _ _ _ _ (sym c.if-not-holds_table.ensures) (omega arith) c.in_err-admit.ensures)

pub returns-in_err-arg : goal.returns-in_err-arg
returns-in_err-arg c =
    let p = err_from_is_err_and c.from_residual-in_err-arg.result c.from_residual-in_err-arg.ensures.1 in
    rw (p.1, p.2) (λ n cwd.
    child-unknown _ _ _ _ _ _ _ _ (sym c.if-not-holds_table.ensures) (omega arith) (admitted _ _ _ c.in_ok-admit.ensures)
    (no-arg _ _ _ _ (sym c.in_err-arg.ensures)))

pub returns-then-are_in_order : goal.returns-then-are_in_order
returns-then-are_in_order c = record {
  parent = sym c.if-not-holds_table.ensures;
  child = omega arith;
  admits = admitted _ _ _ c.in_ok-admit.ensures;
  known = sym c.in_ok-arg.ensures;
  responses = sym c.if-are_responses.ensures;
  ordered = sym c.if-are_in_order.ensures;
}

pub returns-else-are_responses : goal.returns-else-are_responses
returns-else-are_responses c = λ n cwd.
    child-unknown _ _ _ _ _ _ _ _ (sym c.if-not-holds_table.ensures) (omega arith) (admitted _ _ _ c.in_ok-admit.ensures)
    (elim c.else-are_responses.branch [
      | else-are_responses-via-then-are_responses+else-are_in_order w ↦
          no-order _ _ _ _ (sym c.in_ok-arg.ensures) (all_known _ (sym w.if-are_responses.ensures)).are (sym w.if-are_in_order.ensures)
      | else-are_responses-via-else-are_responses w ↦ no-responses _ _ _ _ (sym c.in_ok-arg.ensures) (sym w.if-are_responses.ensures)
    ])
