-- `search` meets its contract. The loop's invariant: the search goes on from `base`, whose entry begins at `at`, among `size` places.
use Rattle.table.proofs.ProbeLaws.{Probing}
use Rattle.table.proofs.placing.search.Given as goal

abbrev pub invariant-loop-size : goal.invariant-loop-size
invariant-loop-size l = Probing l.mem (record { kind = l.kind; path = l.path }) l.base l.at l.size

abbrev pub decreases-loop-size : goal.decreases-loop-size
decreases-loop-size l = l.size
