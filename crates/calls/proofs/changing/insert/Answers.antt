-- `insert` meets its contract: the first cause is found, or the act is performed.
use mathlib.Core.Path.{refl, sym}
use lib.Seq.{length-take-le}
use Rattle.std.proofs.lemmas.Result.{err_from_is_err_and}
use Rattle.paths.specs.Giving.{query_of, is_query}
use Rattle.paths.proofs.GivingLaws.{gives-refused, gives-stands}
use Rattle.table.specs.Tables.{is_entry}
use Rattle.table.specs.Acts.{is_act}
use Rattle.table.specs.Carrying.{act_of, fits}
use Rattle.link.proofs.LinkLaws.{admitted, link-ready}
use Rattle.link.proofs.SendingLaws.{does-refuse, does-perform}
use Rattle.calls.proofs.ChangeLaws.{insert-no-table, insert-barred, insert-unknown, insert-refused, insert-known}
use Rattle.calls.proofs.changing.insert.Goals as goal

pub returns-then-not-holds_table : goal.returns-then-not-holds_table
returns-then-not-holds_table c = does-refuse (insert-no-table _ _ _ _ _ (sym c.if-not-holds_table.ensures))

pub returns-in_err-admit : goal.returns-in_err-admit
returns-in_err-admit c =
    let p = err_from_is_err_and c.from_residual.result c.from_residual.ensures.1 in
    rw (p.1, p.2) (does-refuse (insert-barred _ _ _ _ _ (sym c.if-not-holds_table.ensures) c.in_err-admit.ensures))

pub returns-in_err-known : goal.returns-in_err-known
returns-in_err-known c =
    let p = err_from_is_err_and c.from_residual-in_err-known.result c.from_residual-in_err-known.ensures.1 in
    rw (p.1, p.2)
    (does-refuse (insert-unknown _ _ _ _ _ (sym c.if-not-holds_table.ensures) (admitted _ _ _ c.in_ok-admit.ensures)
    (sym c.in_err-known.ensures)))

pub returns-in_err-size : goal.returns-in_err-size
returns-in_err-size c =
    let p = err_from_is_err_and c.from_residual-in_err-size.result c.from_residual-in_err-size.ensures.1 in
    rw (p.1, p.2)
    (does-refuse (insert-refused _ _ _ _ _ (sym c.if-not-holds_table.ensures) (admitted _ _ _ c.in_ok-admit.ensures)
    (sym c.in_ok-known.ensures) (gives-refused c.in_err-size.ensures refl)))

pub slice_bounds-space-end : goal.slice_bounds-space-end
slice_bounds-space-end c = (gives-stands c.in_ok-size.ensures refl).room

pub slice_bounds-perform-end : goal.slice_bounds-perform-end
slice_bounds-perform-end c = sym (length-take-le _ _ (gives-stands c.in_ok-size.ensures refl).room)

pub perform-requires : goal.perform-requires
unfolding act_of fits is_act is_entry query_of is_query
perform-requires c = (
  sym c.if-not-holds_table.ensures,
  (gives-stands c.in_ok-size.ensures refl).fits,
  link-ready (admitted _ _ _ c.in_ok-admit.ensures),
)

pub returns : goal.returns
unfolding act_of
returns c =
    does-perform
    (insert-known _ _ _ _ _ (sym c.if-not-holds_table.ensures) (admitted _ _ _ c.in_ok-admit.ensures) (sym c.in_ok-known.ensures) _
    (gives-stands c.in_ok-size.ensures refl).query)
    c.perform.ensures
