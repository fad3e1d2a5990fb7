use mathlib.Core.Path.{ap, ◌∙◌}
use mathlib.Core.List.{List}
use Prim.Native.Nat.{ℕ}
use native.Mathlib.Omega.{arith}
use lib.Seq.{take_all}
use Rattle.std.proofs.Common.{rules}
use Rattle.paths.specs.Copying.{overwrite}
use Rattle.records.specs.Steps.{word_bytes}
use Rattle.records.proofs.SpellingLaws.{bytes-more}
use Rattle.records.proofs.reading.take_bytes.Goals as goal

pub loop-k-init : goal.loop-k-init
unfolding overwrite word_bytes
loop-k-init c = search rules

pub loop-k-preserved : goal.loop-k-preserved
loop-k-preserved c =
    bytes-more c.args.work.now c.loop-k.work c.args.words.now _ c.loop-k.k _ c.loop-k.invariant c.loop-k-test.true c.requires (omega arith)
    (rw c.to_be_bytes.ensures at c.copy_from_slice.ensures.after)

pub returns : goal.returns
returns c =
    c.loop-k.invariant
    ∙ ap (λ (l : List ℕ). overwrite c.args.work.now 0 (word_bytes l)) (take_all c.loop-k.k c.args.words.now c.loop-k-test.false)
