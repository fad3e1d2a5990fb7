-- At a slash one component is entered, at the end the last. Assumes nothing.
use mathlib.Core.Path.{◌≡◌}
use native.Mathlib.Omega.{arith}
use lib.ListN.{length}
use Rattle.paths.proofs.Scanning.{open-start, open-byte, open-parts, open-next, open-last}
use Rattle.paths.proofs.Entering.{entering-start, entering-room, entering-more, entering-end}
use Rattle.paths.proofs.resolving.enter_all.Goals as goal
use Rattle.paths.proofs.resolving.enter_all.Goals.{then-b-eq47, else-b-eq47}

pub loop-i-init : goal.loop-i-init
loop-i-init c = (open-start _, entering-start _ _ _)

pub enter-n-requires : goal.enter-n-requires
enter-n-requires c =
    let at = c.loop-i.invariant in
    omega (arith, c.loop-i.auto.work, entering-room (rw (open-parts at.0 c.loop-i-test.true c.if-b-eq47.true) at at.1), c.requires)

pub loop-i-preserved : goal.loop-i-preserved
loop-i-preserved c =
    let at = c.loop-i.invariant in
    elim c.if-b-eq47.branch [
      | then-b-eq47 w ↦
          let more = entering-more (rw (open-parts at.0 c.loop-i-test.true w.if-b-eq47.true) at at.1) w.enter-n.auto.work w.enter-n.ensures in
          rw (w.from-is, w.n-is, w.work-is) (open-next _ _, more)
      | else-b-eq47 w ↦ rw (w.from-is, w.n-is, w.work-is) (open-byte at.0 c.loop-i-test.true w.if-b-eq47.false, at.1)
    ]

pub enter-requires : goal.enter-requires
enter-requires c =
    let at = c.loop-i.invariant in
    let z : c.loop-i.i ≡ length c.args.src.now = omega arith in
    omega (arith, c.loop-i.auto.work, entering-room (rw (open-last at.0 z) at at.1), c.requires)

pub returns : goal.returns
returns c =
    let at = c.loop-i.invariant in
    let z : c.loop-i.i ≡ length c.args.src.now = omega arith in
    entering-end (entering-more (rw (open-last at.0 z) at at.1) c.enter.auto.work c.enter.ensures)
