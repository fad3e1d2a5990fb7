-- `read_entry` meets its contract, at each way out.
use native.Mathlib.Omega.{arith}
use Rattle.std.proofs.lemmas.Bool.Decides.{nat_tests}
use Rattle.records.proofs.WordLaws.{read-stands}
use Rattle.images.specs.Images.{is_entry_word}
use Rattle.images.proofs.ReadingLaws.{entry-at-end, no-entry-word, entry-word}
use Rattle.images.proofs.reading.read_entry.Goals as goal

pub returns-in_err-word : goal.returns-in_err-word
returns-in_err-word c = rw c.from_residual.ensures (entry-at-end _ _ c.read_at-read.ensures c.in_err-word.was)

pub returns-then-word : goal.returns-then-word
unfolding is_entry_word
returns-then-word c =
    no-entry-word (read-stands _ _ c.read_at-read.ensures c.in_ok-word.was) (grind (arith, nat_tests))

pub returns-in_err-path : goal.returns-in_err-path
unfolding is_entry_word
returns-in_err-path c =
    rw c.from_residual-in_err-path.ensures
    (entry-word (read-stands _ _ c.read_at-read.ensures c.in_ok-word.was) (grind (arith, nat_tests)) c.in_err-path.ensures)

pub returns : goal.returns
unfolding is_entry_word
returns c =
    rw c.kind_from.ensures
    (entry-word (read-stands _ _ c.read_at-read.ensures c.in_ok-word.was) (grind (arith, nat_tests)) c.in_ok-path.ensures)
