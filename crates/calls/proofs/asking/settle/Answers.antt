-- `settle` meets its contract: what is given is refused, or what it resolves to is settled.
use mathlib.Core.Path.{refl}
use Rattle.std.proofs.lemmas.Result.{err_from_is_err_and}
use Rattle.paths.proofs.GivingLaws.{gives-stands}
use Rattle.calls.proofs.AskLaws.{settles-refused, settles-query}
use Rattle.calls.proofs.asking.settle.Goals as goal

pub shared_ref_as_front-settle_query : goal.shared_ref_as_front-settle_query
shared_ref_as_front-settle_query c = (gives-stands c.in_ok-size.ensures refl).short

pub settle_query-requires-clause-resolved_value : goal.settle_query-requires-clause-resolved_value
settle_query-requires-clause-resolved_value c = (gives-stands c.in_ok-size.ensures refl).fits

pub returns-in_err-size : goal.returns-in_err-size
returns-in_err-size c =
    let p = err_from_is_err_and c.from_residual.result c.from_residual.ensures.1 in
    rw (p.1, p.2) (settles-refused c.in_err-size.ensures refl)

pub returns : goal.returns
returns c = settles-query c.in_ok-size.ensures refl c.settle_query.ensures
