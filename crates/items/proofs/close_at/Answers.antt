-- `close_at` meets its contract: where the end positions do not fall they close at the last, and else nowhere.
use mathlib.Core.Path.{sym, ◌∙◌}
use Rattle.std.proofs.lemmas.List.Sorted.{non_decreasing_from_is_sorted}
use Rattle.std.proofs.lemmas.Option.{unwrap_or-slice_get}
use Rattle.items.proofs.ItemListLaws.{closes-sorted, closes-fallen}
use Rattle.items.proofs.close_at.Goals as goal

pub returns-then-is_sorted : goal.returns-then-is_sorted
returns-then-is_sorted c =
    rw (c.unwrap_or.ensures, c.copied.ensures, c.last.ensures.value, unwrap_or-slice_get)
    (closes-sorted _ _ (rw c.if-is_sorted.true at (non_decreasing_from_is_sorted _ _ c.is_sorted.ensures.cases)))

pub returns-else-is_sorted : goal.returns-else-is_sorted
returns-else-is_sorted c =
    let fall = rw c.if-is_sorted.false at (non_decreasing_from_is_sorted _ _ c.is_sorted.ensures.cases) in
    c.if-is_sorted.false ∙ sym (closes-fallen _ _ _ fall.0 fall.1 (fall.2 0))
