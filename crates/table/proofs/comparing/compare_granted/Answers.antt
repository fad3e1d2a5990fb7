-- `compare_granted` meets its contract: the order goes by whether `relate` finds an extension.
use mathlib.Core.Path.{sym, ap, ◌∙◌}
use mathlib.Core.Bool.{Bool, cond}
use Rattle.paths.specs.Relations.{less, greater}
use Rattle.table.proofs.ComparisonLaws.{granted-related}
use Rattle.table.proofs.comparing.compare_granted.Goals as goal

pub returns-then-eq : goal.returns-then-eq
returns-then-eq c = sym (granted-related _ _ c.relate.ensures ∙ ap (λ (b : Bool). cond b less greater) (sym c.eq.ensures ∙ c.if-eq.true))

pub returns-else-eq : goal.returns-else-eq
returns-else-eq c = sym (granted-related _ _ c.relate.ensures ∙ ap (λ (b : Bool). cond b less greater) (sym c.eq.ensures ∙ c.if-eq.false))
