-- `ask` meets its contract: the first cause is found, or the call is settled and its text is written.
use mathlib.Core.Path.{refl, sym}
use native.Mathlib.Omega.{arith}
use lib.Seq.{length-take-le}
use Rattle.std.proofs.lemmas.Result.{err_from_is_err_and}
use Rattle.link.proofs.LinkLaws.{admitted, link-ready}
use Rattle.deciding.proofs.QuestionLaws.{text-room}
use Rattle.calls.proofs.AskLaws.{ask-no-table, ask-no-space, ask-barred, ask-unknown, ask-known, asks-refused, asks-stopped, asks-finished, settled-stands}
use Rattle.calls.proofs.asking.ask.Goals as goal

pub returns-then-not-holds_table : goal.returns-then-not-holds_table
returns-then-not-holds_table c = asks-refused (ask-no-table _ _ _ _ _ _ (sym c.if-not-holds_table.ensures))

pub returns-then-space-lt-TEXT_BYTES : goal.returns-then-space-lt-TEXT_BYTES
returns-then-space-lt-TEXT_BYTES c =
    asks-refused (ask-no-space _ _ _ _ _ _ (sym c.if-not-holds_table.ensures) (omega arith))

pub returns-in_err-admit : goal.returns-in_err-admit
returns-in_err-admit c =
    let p = err_from_is_err_and c.from_residual.result c.from_residual.ensures.1 in
    rw (p.1, p.2)
    (asks-refused (ask-barred _ _ _ _ _ _ (sym c.if-not-holds_table.ensures) (omega arith) c.in_err-admit.ensures))

pub returns-in_err-known : goal.returns-in_err-known
returns-in_err-known c =
    let p = err_from_is_err_and c.from_residual-in_err-known.result c.from_residual-in_err-known.ensures.1 in
    rw (p.1, p.2)
    (asks-refused (ask-unknown _ _ _ _ _ _ (sym c.if-not-holds_table.ensures) (omega arith)
    (admitted _ _ _ c.in_ok-admit.ensures) (sym c.in_err-known.ensures)))

pub settle-requires : goal.settle-requires
settle-requires c = (sym c.if-not-holds_table.ensures, link-ready (admitted _ _ _ c.in_ok-admit.ensures))

pub returns-in_err-settled : goal.returns-in_err-settled
returns-in_err-settled c =
    let p = err_from_is_err_and c.from_residual-in_err-settled.result c.from_residual-in_err-settled.ensures.1 in
    rw (p.1, p.2)
    (asks-stopped (ask-known _ _ _ _ _ _ (sym c.if-not-holds_table.ensures) (omega (arith, c.if-space-lt-TEXT_BYTES.false))
    (admitted _ _ _ c.in_ok-admit.ensures) _ (sym c.in_ok-known.ensures)) c.in_err-settled.ensures refl)

pub slice_bounds-resolved-end : goal.slice_bounds-resolved-end
slice_bounds-resolved-end c = (settled-stands c.in_ok-settled.ensures refl).room

pub slice_bounds-finish-end : goal.slice_bounds-finish-end
slice_bounds-finish-end c = sym (length-take-le _ _ (settled-stands c.in_ok-settled.ensures refl).room)

pub finish-requires : goal.finish-requires
finish-requires c = text-room (omega arith) (settled-stands c.in_ok-settled.ensures refl)

pub returns : goal.returns
returns c =
    asks-finished (ask-known _ _ _ _ _ _ (sym c.if-not-holds_table.ensures) (omega (arith, c.if-space-lt-TEXT_BYTES.false))
    (admitted _ _ _ c.in_ok-admit.ensures) _ (sym c.in_ok-known.ensures)) c.in_ok-settled.ensures refl c.finish.ensures
