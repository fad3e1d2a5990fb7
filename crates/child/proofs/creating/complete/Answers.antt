-- `complete` meets its contract: what is taken over stays, and a refusal leaves a fresh child.
use mathlib.Core.Path.{sym, ◌∙◌}
use native.Mathlib.Omega.{arith}
use Rattle.table.specs.Memory.{table_of}
use Rattle.table.proofs.Puts.{long_of}
use Rattle.table.proofs.CallLaws.{made-fresh}
use Rattle.child.specs.Making.{take_over}
use Rattle.child.specs.Steps.{after_items, MakesChild}
use Rattle.child.proofs.TakeOverLaws.{fresh-done, after-through, after-stopped, completes-done, completes-refused}
use Rattle.child.proofs.creating.complete.Goals as goal
use Rattle.child.proofs.creating.complete.Goals.{in-Ok, in-Err}

pub unwrap-requires : goal.unwrap-requires
unwrap-requires c = fresh-done (omega (arith, long_of _ c.requires.1, c.match-items.auto.child)) c.make_fresh.ensures

pub returns-then-is_err : goal.returns-then-is_err
returns-then-is_err c =
    let M : MakesChild (after_items c.args.items (take_over (table_of c.args.parent.now) (table_of c.args.child.now))) c.args.child.now c.match-items.child c.match-items.outcome =
    elim c.match-items.branch [
      | in-Ok w ↦ rw (w.child-is, w.outcome-is) (after-through _ _ w.in-Ok.is w.take_over-outcome.ensures)
      | in-Err w ↦ rw (w.child-is, w.outcome-is) (after-stopped _ _ w.in-Err.is)
    ] in
    completes-refused M (sym c.is_err.ensures.value ∙ c.if-is_err.true)
    (made-fresh (omega (arith, long_of _ c.requires.1, c.match-items.auto.child)) c.make_fresh.ensures)

pub returns-else-is_err : goal.returns-else-is_err
returns-else-is_err c =
    let M : MakesChild (after_items c.args.items (take_over (table_of c.args.parent.now) (table_of c.args.child.now))) c.args.child.now c.match-items.child c.match-items.outcome =
    elim c.match-items.branch [
      | in-Ok w ↦ rw (w.child-is, w.outcome-is) (after-through _ _ w.in-Ok.is w.take_over-outcome.ensures)
      | in-Err w ↦ rw (w.child-is, w.outcome-is) (after-stopped _ _ w.in-Err.is)
    ] in
    completes-done M (sym c.is_err.ensures.value ∙ c.if-is_err.false)
