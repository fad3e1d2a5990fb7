-- `read_image` meets its contract, at each way out.
use mathlib.Core.Path.{sym, ◌∙◌}
use native.Mathlib.Omega.{arith}
use Rattle.std.proofs.lemmas.Bool.Decides.{nat_tests}
use Rattle.images.specs.Images.{is_number_word, is_table_word}
use Rattle.images.proofs.ReadingLaws.{without-run, no-number-word, no-table-word, fronted, words-other, image-many, image-refused, image-taken}
use Rattle.images.proofs.reading.read_image.Goals as goal
use Rattle.images.proofs.reading.read_image.Goals.{
  then-count-gt-MAX_ENTRIES-via-then-count-gt-MAX_ENTRIES,
  then-count-gt-MAX_ENTRIES-via-else-count-gt-MAX_ENTRIES+then-not-are_entries,
}

pub returns-in_err-run : goal.returns-in_err-run
returns-in_err-run c = rw c.from_residual.ensures (without-run _ c.read_front-front.ensures c.in_err-run.ensures)

pub returns-in_err-first : goal.returns-in_err-first
returns-in_err-first c =
    rw c.from_residual-in_err-first.ensures (no-number-word _ c.read_front-front.ensures c.in_ok-run.ensures c.in_err-first.was)

pub returns-in_err-second : goal.returns-in_err-second
returns-in_err-second c =
    rw c.from_residual-in_err-second.ensures
    (no-table-word _ c.read_front-front.ensures c.in_ok-run.ensures c.in_ok-first.was c.in_err-second.was)

pub returns-then-first : goal.returns-then-first
unfolding is_number_word is_table_word
returns-then-first c =
    words-other (fronted _ c.read_front-front.ensures c.in_ok-run.ensures c.in_ok-first.was c.in_ok-second.was) (grind (arith, nat_tests))

pub are_entries-requires : goal.are_entries-requires
are_entries-requires c =
    ((fronted _ c.read_front-front.ensures c.in_ok-run.ensures c.in_ok-first.was c.in_ok-second.was).inside, omega arith)

pub returns-then-count-gt-MAX_ENTRIES : goal.returns-then-count-gt-MAX_ENTRIES
unfolding is_number_word is_table_word
returns-then-count-gt-MAX_ENTRIES c =
    let F = fronted _ c.read_front-front.ensures c.in_ok-run.ensures c.in_ok-first.was c.in_ok-second.was in
    elim c.then-count-gt-MAX_ENTRIES.branch [
      | then-count-gt-MAX_ENTRIES-via-then-count-gt-MAX_ENTRIES w ↦ image-many F (grind (arith, nat_tests)) (omega arith)
      | then-count-gt-MAX_ENTRIES-via-else-count-gt-MAX_ENTRIES+then-not-are_entries w ↦
          image-refused F (grind (arith, nat_tests)) (omega arith) (sym w.are_entries.ensures ∙ w.if-not-are_entries.true)
    ]

pub returns : goal.returns
unfolding is_number_word is_table_word
returns c =
    let G = fronted _ c.read_front-front.ensures c.in_ok-run.ensures c.in_ok-first.was c.in_ok-second.was in
    rw c.from.ensures (image-taken G (grind (arith, nat_tests)) (omega arith) (sym c.if-not-are_entries.ensures))
