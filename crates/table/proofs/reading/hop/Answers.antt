use Prim.Native.Nat.{◌+◌, ◌-◌, ◌≤◌, ◌<◌}
use mathlib.Core.Path.{◌≡◌, sym, ◌∙◌}
use native.Mathlib.Omega.{arith}
use lib.ListN.{length}
use Rattle.table.specs.Memory.{entry_head, next_at}
use Rattle.table.proofs.Within.{within-inside, within-next, offset_at-step, offset_at-none}
use Rattle.table.proofs.reading.hop.Goals as goal
use Rattle.table.proofs.reading.hop.Goals.{In-loop}

-- the entry at `at` lies within the memory
inside : (c : In-loop) → next_at c.args.mem.now c.loop.at ≤ length c.args.mem.now
inside c = within-inside _ _ (omega arith) _ c.loop.invariant.0

pub overflow_add-at : goal.overflow_add-at
overflow_add-at c = omega (arith, inside (goal.at.overflow_add-at c).In-loop)

pub word_at-requires : goal.word_at-requires
word_at-requires c = omega (arith, inside (goal.at.word_at-requires c).In-loop)

pub overflow_add-at-in-loop-2 : goal.overflow_add-at-in-loop-2
overflow_add-at-in-loop-2 c = omega (arith, inside (goal.at.overflow_add-at-in-loop-2 c).In-loop)

pub loop-preserved : goal.loop-preserved
loop-preserved c =
    let some : 0 < c.args.n - c.loop.counter = omega arith in
    let e : c.args.n - (c.loop.counter + 1) ≡ c.args.n - c.loop.counter - 1 = omega arith in
    let at : c.loop.at + (entry_head + c.word_at.result) ≡ next_at c.args.mem.now c.loop.at = omega arith in
    rw (e, at) (within-next _ _ some _ c.loop.invariant.0, c.loop.invariant.1 ∙ offset_at-step _ _ some _)

pub returns : goal.returns
returns c = sym (c.loop.invariant.1 ∙ offset_at-none _ _ _ (omega arith))
