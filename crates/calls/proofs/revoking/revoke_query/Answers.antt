-- `revoke_query` meets its contract: the act is carried out, and the query asks the table that it leaves.
use Rattle.std.proofs.lemmas.Result.{err_from_is_err_and}
use Rattle.table.specs.Carrying.{fits}
use Rattle.deciding.proofs.FittingLaws.{revoke-fits}
use Rattle.calls.proofs.AskLaws.{revoke-refused, revoke-asks, revoke-state}
use Rattle.calls.proofs.revoking.revoke_query.Goals as goal

pub perform-requires : goal.perform-requires
unfolding fits
perform-requires c = (c.requires.0, rw (c.revoke_action.ensures _) (revoke-fits _ c.requires.2), c.requires.1)

pub returns-in_err-end : goal.returns-in_err-end
returns-in_err-end c =
    let p = err_from_is_err_and c.from_residual.result c.from_residual.ensures.1 in
    rw (p.1, p.2) (revoke-refused _ (c.revoke_action.ensures _) c.perform.ensures c.in_err-end.was)

pub of-requires : goal.of-requires
of-requires c = revoke-asks _ (c.revoke_action.ensures _) c.perform.ensures c.requires.0 c.requires.2

pub returns : goal.returns
returns c = revoke-state _ (c.revoke_action.ensures _) c.perform.ensures c.requires.0 c.requires.2 c.in_ok-end.was (rw c.of.ensures at c.query_desc.ensures)
