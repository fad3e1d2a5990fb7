-- `try_from` meets its contract.
use mathlib.Core.Path.{sym, ◌∙◌}
use Rattle.table.proofs.CallLaws.{no_table, a-table}
use Rattle.table.proofs.held.TableTryFromRefSliceU8.try_from.Goals as goal

pub returns-then-not-holds_table : goal.returns-then-not-holds_table
returns-then-not-holds_table c = sym (no_table _ (sym c.holds_table.ensures ∙ c.if-not-holds_table.true))

pub returns : goal.returns
returns c = sym (a-table _ (sym c.holds_table.ensures ∙ c.if-not-holds_table.false))
