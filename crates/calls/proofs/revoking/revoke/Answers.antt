-- `revoke` meets its contract: the first cause is found, or what is given is revoked.
use mathlib.Core.Path.{refl, sym}
use lib.Seq.{length-take-le}
use Rattle.std.proofs.lemmas.Result.{err_from_is_err_and}
use Rattle.paths.proofs.GivingLaws.{gives-refused, gives-stands}
use Rattle.link.proofs.LinkLaws.{admitted, link-ready}
use Rattle.calls.proofs.AskLaws.{revoke-no-table, revoke-barred, revoke-ungiven, revoke-given, revokes-refused, revokes-query}
use Rattle.calls.proofs.revoking.revoke.Goals as goal

pub returns-then-not-holds_table : goal.returns-then-not-holds_table
returns-then-not-holds_table c = revokes-refused (revoke-no-table _ _ _ (sym c.if-not-holds_table.ensures))

pub returns-in_err-admit : goal.returns-in_err-admit
returns-in_err-admit c =
    let p = err_from_is_err_and c.from_residual.result c.from_residual.ensures.1 in
    rw (p.1, p.2) (revokes-refused (revoke-barred _ _ _ (sym c.if-not-holds_table.ensures) c.in_err-admit.ensures))

pub returns-in_err-size : goal.returns-in_err-size
returns-in_err-size c =
    let p = err_from_is_err_and c.from_residual-in_err-size.result c.from_residual-in_err-size.ensures.1 in
    rw (p.1, p.2)
    (revokes-refused (revoke-ungiven _ _ _ (sym c.if-not-holds_table.ensures) (admitted _ _ _ c.in_ok-admit.ensures)
    (gives-refused c.in_err-size.ensures refl)))

pub slice_bounds-space-end : goal.slice_bounds-space-end
slice_bounds-space-end c = (gives-stands c.in_ok-size.ensures refl).room

pub slice_bounds-revoke_query-end : goal.slice_bounds-revoke_query-end
slice_bounds-revoke_query-end c = sym (length-take-le _ _ (gives-stands c.in_ok-size.ensures refl).room)

pub revoke_query-requires : goal.revoke_query-requires
revoke_query-requires c =
    (sym c.if-not-holds_table.ensures, link-ready (admitted _ _ _ c.in_ok-admit.ensures), (gives-stands c.in_ok-size.ensures refl).fits)

pub returns : goal.returns
returns c =
    revokes-query
    (revoke-given _ _ _ (sym c.if-not-holds_table.ensures) (admitted _ _ _ c.in_ok-admit.ensures) _
    (gives-stands c.in_ok-size.ensures refl).query)
    c.revoke_query.ensures
