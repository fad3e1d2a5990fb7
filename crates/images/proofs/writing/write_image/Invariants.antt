-- `write_image` meets its contract. The loop's invariant: whatever writing the entries that are left comes to, the image comes to that.
use Rattle.images.proofs.WritingLaws.{Writing}
use Rattle.images.proofs.writing.write_image.Given as goal

abbrev pub invariant-loop-entry : goal.invariant-loop-entry
invariant-loop-entry l = Writing l.table l.initial.words l.words l.at l.entry-iterator
