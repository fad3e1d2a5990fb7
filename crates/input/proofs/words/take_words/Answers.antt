use native.Mathlib.Omega.{arith}
use mathlib.Core.Path.{◌≡◌, ◌∙◌}
use lib.ListN.{drop}
use lib.Seq.{paste-zero}
use Rattle.input.specs.Words.{words_of}
use Rattle.input.proofs.WordLaws.{words-after, word_after, word_more, takes-words}
use Rattle.input.proofs.words.take_words.Goals as goal

pub loop-k-init : goal.loop-k-init
loop-k-init c =
    let a = c.args in
    paste-zero a.words.now 0 (words_of (drop a.from a.bytes.now))

pub loop-k-preserved : goal.loop-k-preserved
loop-k-preserved c =
    let a = c.args in
    let n = words-after a.bytes.now a.from in
    let word = c.word_from.ensures ∙ word_after a.bytes.now a.from c.loop-k.k (omega arith) in
    rw c.loop-k.invariant (word_more _ _ c.loop-k.k _ (omega arith) (omega arith) word)

pub returns : goal.returns
returns c =
    let a = c.args in
    let n = words-after a.bytes.now a.from in
    let whole : c.loop-k.k ≡ c.min-count.result = omega arith in
    takes-words (words_of (drop a.from a.bytes.now)) a.words.now _ (omega arith) (rw whole at c.loop-k.invariant)
