use mathlib.Core.Path.{sym, ◌∙◌}
use native.Mathlib.Omega.{arith}
use Rattle.table.proofs.ProbeLaws.{probing-start, probing-done, probing-stays, probing-moves, half-within, half-inside}
use Rattle.table.proofs.placing.search.Goals as goal

pub loop-size-init : goal.loop-size-init
loop-size-init c = probing-start _ _ c.word_at-size.ensures.0

pub hop-middle-requires : goal.hop-middle-requires
hop-middle-requires c =
    half-within c.loop-size.invariant (omega arith) c.requires

pub compare_at-requires : goal.compare_at-requires
compare_at-requires c =
    half-inside c.loop-size.invariant (omega arith) c.hop-middle.ensures c.requires

pub loop-size-preserved-then-is_le : goal.loop-size-preserved-then-is_le
loop-size-preserved-then-is_le c =
    probing-moves c.loop-size.invariant (omega arith) c.hop-middle.ensures _ c.compare_at.ensures (sym c.is_le.ensures ∙ c.if-is_le.true)

pub loop-size-preserved : goal.loop-size-preserved
loop-size-preserved c =
    probing-stays c.loop-size.invariant (omega arith) c.hop-middle.ensures _ c.compare_at.ensures (sym c.is_le.ensures ∙ c.if-is_le.false)

pub returns : goal.returns
returns c = probing-done c.loop-size.invariant (omega arith)
