-- `place` meets its contract: none in an empty list, and else by how the entry compares at which the search ends.
use native.Mathlib.Omega.{arith}
use mathlib.Core.Path.{sym, ◌∙◌}
use Rattle.table.proofs.Within.{held}
use Rattle.table.specs.Placing.{place_by}
use Rattle.table.proofs.ProbeLaws.{place_none, base-below, base-inside, placed-by}
use Rattle.table.proofs.placing.place.Goals as goal

pub returns-then-word_at-eq0 : goal.returns-then-word_at-eq0
returns-then-word_at-eq0 c = sym (place_none _ _ (sym c.word_at.ensures.0 ∙ c.if-word_at-eq0.true))

pub compare_at-requires : goal.compare_at-requires
compare_at-requires c = base-inside c.search-found.ensures (omega arith) c.requires

pub returns-in-Less : goal.returns-in-Less
unfolding place_by
returns-in-Less c = sym (placed-by c.search-found.ensures (omega arith) _ c.compare_at.ensures ∙ rw c.in-Less.is)

pub overflow_add-result : goal.overflow_add-result
overflow_add-result c =
    omega (arith, base-below c.search-found.ensures (omega arith), (held _ c.requires).few)

pub returns-in-Equal : goal.returns-in-Equal
unfolding place_by
returns-in-Equal c = sym (placed-by c.search-found.ensures (omega arith) _ c.compare_at.ensures ∙ rw c.in-Equal.is)

pub returns-in-Greater : goal.returns-in-Greater
unfolding place_by
returns-in-Greater c = sym (placed-by c.search-found.ensures (omega arith) _ c.compare_at.ensures ∙ rw c.in-Greater.is)
