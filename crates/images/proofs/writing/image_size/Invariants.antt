-- `image_size` meets its contract. The loop's invariant: what was counted, and the words of the entries that are left, are the image's.
use Rattle.images.proofs.WritingLaws.{Counting}
use Rattle.images.proofs.writing.image_size.Given as goal

abbrev pub invariant-loop-entry : goal.invariant-loop-entry
invariant-loop-entry l = Counting l.table l.size l.entry-iterator
