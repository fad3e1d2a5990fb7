-- `reinsert` meets its contract: a G is passed over, and any other entry is inserted.
use mathlib.Core.Path.{sym, ◌∙◌}
use Rattle.table.specs.Held.{entry_of}
use Rattle.table.specs.Acts.{is_act}
use Rattle.table.specs.Carrying.{act_of, fits}
use Rattle.table.proofs.RevokeLaws.{same-grant}
use Rattle.child.proofs.MakingLaws.{grants-carried}
use Rattle.child.proofs.TakeOverLaws.{skips, inserts-again}
use Rattle.child.proofs.inheriting.reinsert.Goals as goal

pub returns-then-eq : goal.returns-then-eq
returns-then-eq c = skips (entry_of c.args.entry) (sym (same-grant _) ∙ sym c.if-eq.ensures)

pub carry_out-requires-clause-q_value : goal.carry_out-requires-clause-q_value
unfolding act_of fits is_act
carry_out-requires-clause-q_value c = c.args.entry.sound

pub returns : goal.returns
unfolding act_of
returns c = inserts-again (entry_of c.args.entry) (sym (same-grant _) ∙ sym c.if-eq.ensures) (grants-carried c.carry_out.ensures)
