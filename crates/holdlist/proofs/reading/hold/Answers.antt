use borrow.Author.Tests.{not-true, not-false}
use Rattle.holdlist.proofs.HoldingLaws.{going_less, going_next, going-stopped, going-kept}
use Rattle.holdlist.proofs.reading.hold.Goals as goal

pub loop-held-smaller : goal.loop-held-smaller
loop-held-smaller c =
    going_less c.loop-held.invariant (not-true _ c.loop-held-test.true) c.if-bytes-held.true c.hold_next-held.ensures

pub loop-held-preserved : goal.loop-held-preserved
loop-held-preserved c =
    going_next c.loop-held.invariant (not-true _ c.loop-held-test.true) c.if-bytes-held.true c.hold_next-held.ensures c.hold_next-held.auto.mem

pub returns-else-bytes-held : goal.returns-else-bytes-held
returns-else-bytes-held c = going-kept c.loop-held.invariant c.if-bytes-held.false

pub returns-after-loop-held : goal.returns-after-loop-held
returns-after-loop-held c = going-stopped c.loop-held.invariant (not-false _ c.loop-held-test.false)
