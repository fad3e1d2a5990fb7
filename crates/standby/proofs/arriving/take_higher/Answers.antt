-- `take_higher` meets its contract.
use native.Mathlib.Omega.{arith}
use Rattle.table.specs.Carrying.{outcome_of}
use Rattle.standby.proofs.ArrivingLaws.{cleared-ok, cleared-holds, cleared-room, moves-early, moves-first}
use Rattle.standby.proofs.arriving.take_higher.Goals as goal

pub returns-then-record-ne1 : goal.returns-then-record-ne1
returns-then-record-ne1 c = moves-early _ _ _ _ _ (λ e. omega arith)

pub unwrap-requires : goal.unwrap-requires
unwrap-requires c = rw (cleared-ok c.requires.0 c.make_fresh.ensures)

pub carry_out-requires-clause-mem_value : goal.carry_out-requires-clause-mem_value
carry_out-requires-clause-mem_value c = cleared-holds c.requires.0 c.make_fresh.ensures

pub unwrap-requires-2 : goal.unwrap-requires-2
unfolding outcome_of
unwrap-requires-2 c = rw (c.carry_out.ensures.outcome, cleared-room c.requires.0 c.make_fresh.ensures _ c.requires.1)

pub returns : goal.returns
returns c = moves-first _ _ _ _ _ (omega arith) c.requires.0 c.requires.1 c.make_fresh.ensures c.carry_out.ensures
