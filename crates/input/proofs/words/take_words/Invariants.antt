-- `take_words` meets its contract. The loop's invariant: the first `k` words are taken.
use mathlib.Core.Path.{◌≡◌}
use lib.ListN.{drop}
use lib.Seq.{paste}
use Rattle.input.specs.Words.{words_of}
use Rattle.input.proofs.words.take_words.Given as goal

abbrev pub invariant-loop-k : goal.invariant-loop-k
invariant-loop-k l = l.words ≡ paste l.initial.words 0 (words_of (drop l.from l.bytes)) l.k
