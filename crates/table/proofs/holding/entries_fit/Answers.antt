use mathlib.Core.Path.{sym, ◌∙◌}
use native.Mathlib.Omega.{arith}
use Rattle.table.specs.Memory.{entry_head}
use Rattle.table.proofs.ScanningLaws.{scans-bad, scans-next, scans-end, fits-parts, mark_of}
use Prim.Native.Nat.{◌+◌, ◌-◌}
use mathlib.Core.Path.{◌≡◌}
use Rattle.table.proofs.holding.entries_fit.Goals as goal

pub returns-then-not-entry_fits : goal.returns-then-not-entry_fits
returns-then-not-entry_fits c =
    scans-bad (omega arith) c.loop.invariant
    (sym c.entry_fits.ensures ∙ c.if-not-entry_fits.true)

pub overflow_sub-room : goal.overflow_sub-room
overflow_sub-room c = omega (arith, (fits-parts _ _ _ (sym c.entry_fits.ensures ∙ c.if-not-entry_fits.false)).roomy, c.word_at-len.ensures.0)

pub loop-preserved : goal.loop-preserved
loop-preserved c =
    let e : c.args.count - (c.loop.counter + 1) ≡ c.args.count - c.loop.counter - 1 = omega arith in
    let at : c.loop.at + (entry_head + c.word_at-len.result) ≡ c.loop.at + entry_head + c.word_at-len.result = omega arith in
    rw (e, at) (scans-next (omega arith) c.loop.invariant _ _ c.word_at-len.ensures.0
    (mark_of _ c.marked-seen.ensures c.kind_from.ensures) (sym c.entry_fits.ensures ∙ c.if-not-entry_fits.false))

pub returns : goal.returns
returns c = scans-end (omega arith) c.loop.invariant
