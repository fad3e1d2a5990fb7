use mathlib.Core.Path.{refl, ap, ◌∙◌}
use native.Mathlib.Omega.{arith}
use lib.ListN.{length, take}
use Rattle.std.proofs.lemmas.Result.{err_from_is_err_and}
use Rattle.input.proofs.PartLaws.{came-inside}
use Rattle.holdlist.specs.Input.{unreadable}
use Rattle.holdlist.proofs.InputLaws.{Part, part-start, part-kept, part_end, taken-inside, part-next}
use Rattle.holdlist.proofs.hold_input.Goals as goal
use Rattle.holdlist.proofs.hold_input.Goals.{else-loop-test, then-loop-test+then-held, then-loop-test+else-held+in_ok-more+then-more-eq0}

pub loop-init : goal.loop-init
loop-init g c = part-start _ _ c.requires

pub returns-in_err-more : goal.returns-in_err-more
returns-in_err-more g c =
    let p = err_from_is_err_and c.from_residual.result c.from_residual.ensures.1 in
    rw p.1 unreadable

-- the words that were taken are in the buffer
pub overflow_sub-next : goal.overflow_sub-next
overflow_sub-next g c =
    (taken-inside c.loop.invariant c.if-held.false c.read_after.ensures c.read_after.auto.buffer c.in_ok-more.was c.hold_on-next.ensures).0

pub overflow_mul-next : goal.overflow_mul-next
overflow_mul-next g c =
    let grown = taken-inside c.loop.invariant c.if-held.false c.read_after.ensures c.read_after.auto.buffer c.in_ok-more.was c.hold_on-next.ensures in
    omega (arith, grown.1, came-inside c.loop.invariant.buffered c.read_after.ensures c.read_after.auto.buffer c.in_ok-more.was)

pub keep_rest-left-requires : goal.keep_rest-left-requires
keep_rest-left-requires g c =
    let grown = taken-inside c.loop.invariant c.if-held.false c.read_after.ensures c.read_after.auto.buffer c.in_ok-more.was c.hold_on-next.ensures in
    (grown.1, came-inside c.loop.invariant.buffered c.read_after.ensures c.read_after.auto.buffer c.in_ok-more.was)

pub loop-preserved : goal.loop-preserved
loop-preserved g c =
    part-next c.loop.invariant c.if-held.false c.read_after.ensures c.read_after.auto.buffer c.in_ok-more.was
    c.hold_on-next.ensures c.hold_on-next.auto.mem c.keep_rest-left.ensures c.keep_rest-left.auto.buffer refl

-- the ways out of the loop: the buffer's first bytes are the same
pub returns : goal.returns
returns g c =
    let P : Part c.args.mem.now c.loop.mem c.loop-test.buffer c.loop.held c.loop.left c.loop.counter =
    elim c.loop-test.branch [
      | else-loop-test w ↦ part-kept c.loop.invariant (ap (take c.loop.left) w.buffer-is) (ap length w.buffer-is)
      | then-loop-test+then-held w ↦ part-kept c.loop.invariant (ap (take c.loop.left) w.buffer-is) (ap length w.buffer-is)
      | then-loop-test+else-held+in_ok-more+then-more-eq0 w ↦
          part-kept c.loop.invariant (ap (take c.loop.left) w.buffer-is ∙ w.read_after.ensures.kept) c.loop-test.auto.buffer
    ] in
    part_end P c.hold_on.ensures
