use mathlib.Core.Path.{sym, ◌∙◌}
use native.Mathlib.Omega.{arith}
use Rattle.std.proofs.lemmas.Bool.Decides.{nat_tests}
use Rattle.images.proofs.ReadingLaws.{told, testing-start, testing-stops, testing-next, testing-over}
use Rattle.images.proofs.reading.are_entries.Goals as goal

pub loop-init : goal.loop-init
loop-init c = testing-start _ _ _ _ c.requires.0

pub returns-in_default : goal.returns-in_default
returns-in_default c = testing-stops c.loop.invariant c.loop-test.true (sym c.in_default.is ∙ c.read_entry.ensures.answer)

pub overflow_add-total : goal.overflow_add-total
overflow_add-total c = let E = told _ _ c.in-Some.ensures.answer in omega (arith, E.short, c.loop.invariant.few)

pub loop-preserved : goal.loop-preserved
loop-preserved c = testing-next c.loop.invariant c.loop-test.true (told _ _ c.in-Some.ensures.answer) c.marked-seen.ensures

pub returns-then-total-le-MAX_PATH_BYTES : goal.returns-then-total-le-MAX_PATH_BYTES
returns-then-total-le-MAX_PATH_BYTES c = let all = testing-over c.loop.invariant (omega arith) in grind (arith, nat_tests)

pub returns-else-total-le-MAX_PATH_BYTES : goal.returns-else-total-le-MAX_PATH_BYTES
returns-else-total-le-MAX_PATH_BYTES c = let all = testing-over c.loop.invariant (omega arith) in grind (arith, nat_tests)
