-- `send_at` meets its contract.
use mathlib.Core.Path.{refl}
use native.Mathlib.Omega.{arith}
use Rattle.table.specs.Carrying.{act_of}
use Rattle.records.proofs.RecordLaws.{run-few}
use Rattle.link.specs.Steps.{is_none}
use Rattle.link.proofs.SendingLaws.{is-act, sends_none, sends-record}
use Rattle.link.proofs.performing.send_at.Goals as goal
use Rattle.link.proofs.performing.send_at.Goals.{in-Nothing, in_default}

pub returns-then-matches : goal.returns-then-matches
unfolding is_none act_of
returns-then-matches c = sends_none _ _ _ _ _ (elim c.match-matches.branch [ in-Nothing w ↦ rw w.in-Nothing.is | in_default w ↦ cc ])

pub write_record-requires-clause-record_space_in_bounds : goal.write_record-requires-clause-record_space_in_bounds
write_record-requires-clause-record_space_in_bounds c =
    let pre = c.requires in
    (omega (arith, pre.ready.room _ refl), run-few _ (pre.ready.known _ refl), omega (arith, pre.q_value.1))

pub returns : goal.returns
returns c =
    sends-record _ _ _ _ _ (elim c.match-matches.branch [ in-Nothing w ↦ cc | in_default w ↦ is-act _ _ w.in_default.not-Nothing ]) c.requires.q_value.0 refl
    c.write_record.ensures
