-- `compare` meets its contract, by whether the two kinds grant; the turned-round question is negated.
use mathlib.Core.Path.{sym, ap, ◌∙◌}
use mathlib.Core.Bool.{true, false}
use lib.IntN.{neg_ℤ}
use Rattle.std.proofs.Common.{rules}
use Rattle.table.specs.Entries.{order_number}
use Rattle.table.proofs.ComparisonLaws.{order-turned, compare-by}
use Rattle.table.proofs.comparing.compare.Goals as goal
use Rattle.table.proofs.comparing.compare.Goals.{in_default-via-then-is_granted+then-is_granted-2, in_default-via-else-is_granted+else-this}

pub returns-in-true-false : goal.returns-in-true-false
returns-in-true-false c =
    c.compare_granted.ensures ∙ sym (compare-by _ _ (sym c.in-true-false.ensures) (sym c.in-true-false.ensures'))

pub returns-in-false-true : goal.returns-in-false-true
returns-in-false-true c =
    ap order_number c.reverse.ensures ∙ order-turned _ ∙ ap neg_ℤ c.compare_granted-in-false-true.ensures
    ∙ sym (compare-by _ _ (sym c.in-false-true.ensures) (sym c.in-false-true.ensures'))

pub returns-in_default : goal.returns-in_default
returns-in_default c =
    c.compare_alike.ensures
    ∙ elim c.in_default.branch [
      | in_default-via-then-is_granted+then-is_granted-2 w ↦ sym (compare-by _ _ {a = true} {b = true} (search rules) (search rules))
      | in_default-via-else-is_granted+else-this w ↦ sym (compare-by _ _ {a = false} {b = false} (search rules) (search rules))
    ]
