-- `carry_out` meets its contract, action by action.
use mathlib.Core.Path.{◌≡◌, refl}
use Rattle.std.proofs.Common.{Err, rules}
use Rattle.table.specs.Acts.{act_overflows}
use Rattle.table.proofs.CarryingLaws.{act-none, act-insert, act-switches, act-revoke, act-revoke-all, insert-fits, switches-fit, carries-none, carries-act}
use Rattle.table.proofs.carrying.carry_out.Goals as goal

pub insert_entry-requires-clause-path_value : goal.insert_entry-requires-clause-path_value
insert_entry-requires-clause-path_value c = insert-fits c.requires.q_value (act-insert _ c.in-Insert.is)

pub returns-in_err-insert_entry-in-Insert : goal.returns-in_err-insert_entry-in-Insert
returns-in_err-insert_entry-in-Insert c =
    let same : c.from_residual.result ≡ Err c.in_err-insert_entry-in-Insert.field-0.0 = search rules in
    rw (act-insert _ c.in-Insert.is, same) c.in_err-insert_entry-in-Insert.ensures

pub set_switches_byte-requires : goal.set_switches_byte-requires
set_switches_byte-requires c = (c.requires.mem_value, switches-fit c.requires.q_value (act-switches _ c.in-SetSwitches.is))

pub returns-in-Nothing : goal.returns-in-Nothing
returns-in-Nothing c = carries-none (act-none _ c.in-Nothing.is)

pub returns-in_ok-insert_entry-in-Insert : goal.returns-in_ok-insert_entry-in-Insert
returns-in_ok-insert_entry-in-Insert c = rw (act-insert _ c.in-Insert.is) c.in_ok-insert_entry-in-Insert.ensures

pub returns-in-SetSwitches : goal.returns-in-SetSwitches
unfolding act_overflows
returns-in-SetSwitches c = carries-act (act-switches _ c.in-SetSwitches.is) refl c.set_switches_byte.ensures

pub returns-in-Revoke : goal.returns-in-Revoke
unfolding act_overflows
returns-in-Revoke c = carries-act (act-revoke _ c.in-Revoke.is) refl c.revoke_path.ensures

pub returns-in-RevokeAll : goal.returns-in-RevokeAll
unfolding act_overflows
returns-in-RevokeAll c = carries-act (act-revoke-all _ c.in-RevokeAll.is) refl c.revoke_grants.ensures
