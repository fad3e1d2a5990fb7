-- `load_table` meets its contract. The loop's invariant: whatever writing the entries that are left comes to, writing all of them comes to that.
use Rattle.images.specs.Images.{read_image}
use Rattle.images.specs.Steps.{IsRead}
use Rattle.images.proofs.LoadingLaws.{Loading, entries_of}
use Rattle.images.proofs.loading.load_table.Given as goal

-- what is still to do, whatever was read of the image
abbrev pub invariant-loop : goal.invariant-loop
invariant-loop l =
    (R : IsRead (read_image l.words) l.image) → Loading l.words (entries_of R) l.initial.mem l.mem l.from l.at l.image.count l.counter
