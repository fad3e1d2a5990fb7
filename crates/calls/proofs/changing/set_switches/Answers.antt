-- `set_switches` meets its contract: the first cause is found, or the act is performed.
use mathlib.Core.Path.{sym}
use native.Mathlib.Omega.{arith}
use borrow.Author.Tests.{le-leb}
use Rattle.std.proofs.lemmas.Result.{err_from_is_err_and}
use Rattle.table.specs.Tables.{max_switches}
use Rattle.table.specs.Acts.{is_act}
use Rattle.table.specs.Carrying.{act_of, fits}
use Rattle.link.proofs.LinkLaws.{admitted, link-ready}
use Rattle.link.proofs.SendingLaws.{does-refuse, does-perform}
use Rattle.calls.proofs.ChangeLaws.{switches-no-table, switches-barred, switches-unknown, switches-known}
use Rattle.calls.proofs.changing.set_switches.Goals as goal

pub returns-then-not-holds_table : goal.returns-then-not-holds_table
returns-then-not-holds_table c = does-refuse (switches-no-table _ _ _ (sym c.if-not-holds_table.ensures))

pub returns-in_err-admit : goal.returns-in_err-admit
returns-in_err-admit c =
    let p = err_from_is_err_and c.from_residual.result c.from_residual.ensures.1 in
    rw (p.1, p.2) (does-refuse (switches-barred _ _ _ (sym c.if-not-holds_table.ensures) c.in_err-admit.ensures))

pub returns-then-switches-from : goal.returns-then-switches-from
returns-then-switches-from c =
    does-refuse (switches-unknown _ _ _ (sym c.if-not-holds_table.ensures) (admitted _ _ _ c.in_ok-admit.ensures) (omega arith))

pub perform-requires : goal.perform-requires
unfolding act_of fits is_act
perform-requires c = (
  sym c.if-not-holds_table.ensures,
  le-leb c.args.switches max_switches (omega arith),
  link-ready (admitted _ _ _ c.in_ok-admit.ensures),
)

pub returns : goal.returns
unfolding act_of
returns c =
    does-perform
    (switches-known _ _ _ (sym c.if-not-holds_table.ensures) (admitted _ _ _ c.in_ok-admit.ensures) (omega arith))
    c.perform.ensures
