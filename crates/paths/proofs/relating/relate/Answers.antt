use native.Mathlib.Omega.{arith}
use Rattle.paths.proofs.RelatingLaws.{answered, between-begins, Shared, inside-start, inside-last, inside-byte, inside-slash, inside-differs, inside-less, inside-greater}
use Rattle.paths.proofs.relating.relate.Goals as goal
use Rattle.paths.proofs.relating.relate.Goals.{then-i-end+else-rank, else-i-end+else-p-i+then-p-i-eq47, then-i-end+then-rank, else-i-end+then-p-i}

pub loop-i-init : goal.loop-i-init
loop-i-init c =
    let b = c.next_component-i.ensures in
    let d = c.next_component-j.ensures in
    inside-start (between-begins c.components.invariant b d) (b.begins (omega arith)) (d.begins (omega arith))
    (record { ahead = omega arith; left = omega arith; right = omega arith; one = λ h. omega arith })

pub loop-i-preserved : goal.loop-i-preserved
loop-i-preserved c =
    inside-byte c.loop-i.invariant (omega arith) (omega arith) (omega arith) (λ e. omega arith) (omega arith)

-- both paths have the component whole: both end with it, or a slash stands behind it in both
shared :
    (c : goal.Joined-i-end)
    → let entry = c.args in
    Shared entry.p.now entry.q.now c.components.common c.next_component-i.result c.loop-i.i c.loop-i.j
shared c =
    let s = c.loop-i.invariant in
    elim c.if-i-end.branch [
      | then-i-end+else-rank w ↦ inside-last s w.rank.ensures w.rank-then-i-end.ensures (omega arith) (omega arith)
      | else-i-end+else-p-i+then-p-i-eq47 w ↦ inside-slash s (omega arith) (omega arith) (omega arith) (omega arith)
    ]

pub overflow_add-common : goal.overflow_add-common
overflow_add-common c = let s = shared c in omega (arith, s.next.few, s.next.left)

pub components-smaller : goal.components-smaller
components-smaller c =
    let s = shared c in
    omega (arith, s.passed, s.next.left, c.next_component-i.ensures.behind)

pub components-preserved : goal.components-preserved
components-preserved c = (shared c).next

pub returns-then-rank-2 : goal.returns-then-rank-2
returns-then-rank-2 c =
    answered (inside-less c.loop-i.invariant c.rank-2.ensures c.rank-3.ensures (omega arith)) (omega arith)

pub returns-else-rank-2 : goal.returns-else-rank-2
returns-else-rank-2 c =
    let s = c.loop-i.invariant in
    answered
    (inside-greater s c.rank-2.ensures c.rank-3.ensures
    (elim c.if-i-end.branch [
      | then-i-end+then-rank w ↦ omega arith
      | else-i-end+then-p-i w ↦ omega (arith, inside-differs s (omega arith) (omega arith) w.if-p-i.true)
    ]))
    (omega arith)
