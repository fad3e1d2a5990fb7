-- `settle_query` meets its contract: the decision is made, and its act is carried out or refused.
use Rattle.std.proofs.lemmas.Result.{err_from_is_err_and}
use Rattle.table.proofs.Puts.{valid-of}
use Rattle.deciding.proofs.FittingLaws.{decided-fits}
use Rattle.calls.proofs.AskLaws.{query-refused, query-decided}
use Rattle.calls.proofs.asking.settle_query.Goals as goal

pub perform-requires : goal.perform-requires
perform-requires c =
    (c.requires.mem_value.0, rw (c.decide-decided.ensures.act, c.of.ensures) (decided-fits _ (valid-of _ c.requires.mem_value.0) _ c.requires.resolved_value _ _), c.requires.mem_value.1)

pub returns-in_err-end : goal.returns-in_err-end
returns-in_err-end c =
    let p = err_from_is_err_and c.from_residual.result c.from_residual.ensures.1 in
    rw (p.1, p.2) (query-refused (rw c.of.ensures at c.decide-decided.ensures) c.perform.ensures c.in_err-end.was)

pub returns : goal.returns
returns c = query-decided (rw c.of.ensures at c.decide-decided.ensures) c.perform.ensures c.in_ok-end.was
