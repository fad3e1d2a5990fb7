-- `question` meets its contract: the first cause is found, or the question is written, if the call would ask.
use mathlib.Core.Path.{sym, ◌∙◌}
use native.Mathlib.Omega.{arith}
use Rattle.std.proofs.Common.{rules}
use lib.Seq.{length-take-le}
use Rattle.paths.proofs.GivingLaws.{gives-stands}
use Rattle.deciding.specs.Questions.{would_ask}
use Rattle.deciding.proofs.QuestionLaws.{text-room, question-no-table, question-no-space, question-refused, question-asked, question-none}
use Rattle.deciding.proofs.questioning.question.Goals as goal

pub returns-in_err-table : goal.returns-in_err-table
returns-in_err-table c = question-no-table (sym c.try_from.ensures ∙ c.in_err-table.was) (search rules)

pub returns-then-space-lt-TEXT_BYTES : goal.returns-then-space-lt-TEXT_BYTES
returns-then-space-lt-TEXT_BYTES c = question-no-space (sym c.try_from.ensures ∙ c.in_ok-table.was) (omega arith)

pub returns-in_err-n : goal.returns-in_err-n
returns-in_err-n c =
    question-refused (sym c.try_from.ensures ∙ c.in_ok-table.was) (omega arith) c.resolve_given.ensures c.in_err-n.was (search rules)

pub slice_bounds-resolved-end : goal.slice_bounds-resolved-end
slice_bounds-resolved-end c = (gives-stands c.resolve_given.ensures c.in_ok-n.was).room

pub slice_bounds-q-end : goal.slice_bounds-q-end
slice_bounds-q-end c = sym (length-take-le _ _ (gives-stands c.resolve_given.ensures c.in_ok-n.was).room)

pub write_text-requires : goal.write_text-requires
write_text-requires c = text-room (omega arith) (gives-stands c.resolve_given.ensures c.in_ok-n.was)

pub returns-then-decide : goal.returns-then-decide
unfolding would_ask
returns-then-decide c =
    question-asked (sym c.try_from.ensures ∙ c.in_ok-table.was) (omega arith) c.resolve_given.ensures c.in_ok-n.was
    (sym c.if-decide.true ∙ c.decide.ensures.asked) c.write_text.ensures

pub returns-else-decide : goal.returns-else-decide
unfolding would_ask
returns-else-decide c =
    question-none (sym c.try_from.ensures ∙ c.in_ok-table.was) (omega arith) c.resolve_given.ensures c.in_ok-n.was
    (sym c.if-decide.false ∙ c.decide.ensures.asked)
