-- `take_switches` meets its contract.
use mathlib.Core.Path.{ap, ◌∙◌}
use Rattle.table.specs.Tables.{Table}
use Rattle.table.specs.Memory.{table_of}
use Rattle.table.specs.Carrying.{act_of, fits}
use Rattle.child.proofs.MakingLaws.{grants-carried}
use Rattle.child.proofs.TakeOverLaws.{switches-fit, switches-taken}
use Rattle.child.proofs.inheriting.take_switches.Goals as goal

pub carry_out-requires-clause-q_value : goal.carry_out-requires-clause-q_value
unfolding act_of fits
carry_out-requires-clause-q_value c = rw c.child_switches-switches.ensures (switches-fit _ _ c.switches.ensures.1)

pub returns : goal.returns
unfolding act_of
returns c =
    switches-taken (table_of c.args.parent.now) (table_of c.args.child.now) c.child_switches-switches.ensures
    (c.switches.ensures.0 ∙ ap (λ (t : Table). t.switches) c.of.ensures) (c.switches-2.ensures.0 ∙ ap (λ (t : Table). t.switches) c.of-2.ensures)
    (grants-carried c.carry_out.ensures)
