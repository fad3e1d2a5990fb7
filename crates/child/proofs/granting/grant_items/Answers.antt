use mathlib.Core.Path.{refl}
use native.Mathlib.Omega.{arith}
use Rattle.items.proofs.ItemListLaws.{closing-next}
use Rattle.child.proofs.GrantingLaws.{sent-start, sent-room, sent-once, sent-stops, sent-next, sent-done}
use Rattle.child.proofs.granting.grant_items.Goals as goal

pub loop-i-init : goal.loop-i-init
loop-i-init c = let pre = c.requires in sent-start _ _ _ _ _ _ _ _ _ pre.0 pre.1 pre.2.closes pre.3

pub slice_bounds-grant_item-count : goal.slice_bounds-grant_item-count
slice_bounds-grant_item-count c = (closing-next _ _ _ _ c.loop-i-test.true c.loop-i.invariant.items.closes).rises

pub slice_bounds-grant_item-start : goal.slice_bounds-grant_item-start
slice_bounds-grant_item-start c = (closing-next _ _ _ _ c.loop-i-test.true c.loop-i.invariant.items.closes).rises

pub slice_bounds-grant_item-end : goal.slice_bounds-grant_item-end
slice_bounds-grant_item-end c = (closing-next _ _ _ _ c.loop-i-test.true c.loop-i.invariant.items.closes).within

pub grant_item-sent-requires : goal.grant_item-sent-requires
grant_item-sent-requires c =
    let pre = c.requires in
    (c.loop-i.invariant.items.parent, c.loop-i.invariant.items.child, sent-room c.loop-i.invariant c.loop-i-test.true (omega (arith, pre.2.many)) c.response_at.ensures refl)

pub overflow_add-asked : goal.overflow_add-asked
overflow_add-asked c =
    let listed = c.requires.2 in
    omega (arith, c.loop-i.invariant.items.few, listed.few, sent-once c.loop-i.invariant c.loop-i-test.true (omega (arith, listed.many)) c.response_at.ensures refl c.grant_item-sent.ensures)

pub returns-in-Err : goal.returns-in-Err
returns-in-Err c =
    let listed = c.requires.2 in
    sent-stops c.loop-i.invariant c.loop-i-test.true (omega (arith, listed.many)) c.response_at.ensures refl c.grant_item-sent.ensures c.in-Err.is refl c.new.ensures

pub loop-i-preserved : goal.loop-i-preserved
loop-i-preserved c =
    let listed = c.requires.2 in
    sent-next c.loop-i.invariant c.loop-i-test.true (omega (arith, listed.many)) c.response_at.ensures refl c.grant_item-sent.ensures c.in_default.is refl c.grant_item-sent.auto.words

pub returns : goal.returns
returns c = sent-done c.loop-i.invariant c.loop-i-test.false c.new-2.ensures
