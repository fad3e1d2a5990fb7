-- `compare_alike` meets its contract: each answer of `relate` gives the order, and equal paths go by the kinds' precedence.
use mathlib.Core.Logic.{inl, inr}
use mathlib.Core.Path.{ap₂, ◌∙◌}
use Rattle.paths.specs.Relations.{number_order}
use Rattle.table.proofs.ComparisonLaws.{alike-is, order-numbers}
use Rattle.table.proofs.comparing.compare_alike.Goals as goal

pub returns-in-Equal : goal.returns-in-Equal
returns-in-Equal c =
    order-numbers _ _ c.cmp.ensures ∙ ap₂ number_order c.kind_precedence.ensures c.kind_precedence-in-Equal.ensures
    ∙ alike-is _ _ c.relate.ensures c.in-Equal.is

pub returns-in-Extension : goal.returns-in-Extension
returns-in-Extension c = elim c.in-Extension.is [ inl e ↦ alike-is _ _ c.relate.ensures e | inr e ↦ alike-is _ _ c.relate.ensures e ]

pub returns-in-Prefix : goal.returns-in-Prefix
returns-in-Prefix c = elim c.in-Prefix.is [ inl e ↦ alike-is _ _ c.relate.ensures e | inr e ↦ alike-is _ _ c.relate.ensures e ]
