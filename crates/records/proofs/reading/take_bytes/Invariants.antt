-- `take_bytes` meets its contract. The loop's invariant: the bytes of the first `k` words stand at the start of the work area.
use mathlib.Core.Path.{◌≡◌}
use lib.ListN.{take}
use Rattle.paths.specs.Copying.{overwrite}
use Rattle.records.specs.Steps.{word_bytes}
use Rattle.records.proofs.reading.take_bytes.Given as goal

abbrev pub invariant-loop-k : goal.invariant-loop-k
invariant-loop-k l = l.work ≡ overwrite l.initial.work 0 (word_bytes (take l.k l.words))
