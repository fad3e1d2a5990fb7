-- `grant_item` meets its contract: the parent's check is refused, or what passes is granted.
use mathlib.Core.Path.{sym}
use lib.Seq.{length-take-le}
use Rattle.calls.proofs.AskLaws.{settled-stands}
use Rattle.child.proofs.GrantingLaws.{item-stops, item-sends}
use Rattle.child.proofs.granting.grant_item.Goals as goal

pub settle-requires : goal.settle-requires
settle-requires c = (c.requires.0, c.requires.2)

pub slice_bounds-resolved-end : goal.slice_bounds-resolved-end
slice_bounds-resolved-end c = (settled-stands c.settle.ensures c.in-Ok.is).room

pub slice_bounds-pass_on-end : goal.slice_bounds-pass_on-end
slice_bounds-pass_on-end c = sym (length-take-le _ _ (settled-stands c.settle.ensures c.in-Ok.is).room)

pub pass_on-requires-clause-q_value : goal.pass_on-requires-clause-q_value
pass_on-requires-clause-q_value c = (settled-stands c.settle.ensures c.in-Ok.is).fits

pub returns-in-Err : goal.returns-in-Err
returns-in-Err c = item-stops c.settle.ensures _ c.in-Err.is c.new.ensures

pub returns-in-Ok : goal.returns-in-Ok
returns-in-Ok c = item-sends c.settle.ensures c.in-Ok.is c.pass_on.ensures c.from.ensures c.new-in-Ok.ensures
