-- `write_path_words` meets its contract. The loop's invariant: the words of the chunks that were taken are written.
use mathlib.Core.Path.{◌≡◌}
use lib.ListN.{length}
use lib.Seq.{paste}
use Rattle.records.specs.Records.{path_words}
use Rattle.records.proofs.writing.write_path_words.Given as goal

abbrev pub invariant-loop-k : goal.invariant-loop-k
invariant-loop-k l = l.words ≡ paste l.initial.words l.at (path_words l.p) (length l.yielded)
