-- `are_entries` meets its contract. The loop's invariant: what the test of all entries says, the test of those left says, with the path bytes and the marks met.
use Rattle.images.proofs.ReadingLaws.{Testing}
use Rattle.images.proofs.reading.are_entries.Given as goal

abbrev pub invariant-loop : goal.invariant-loop
invariant-loop l = Testing l.words l.from l.count l.marks l.at l.counter l.total l.seen
