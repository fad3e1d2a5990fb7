-- `display_name` meets its contract: the given path's first byte decides.
use mathlib.Core.Path.{sym, ◌∙◌}
use Rattle.deciding.proofs.TextLaws.{shown-resolved, shown-given}
use Rattle.deciding.proofs.texts.display_name.Goals as goal

pub returns-then-starts_with : goal.returns-then-starts_with
returns-then-starts_with c = shown-resolved _ _ (sym c.starts_with.ensures.value ∙ c.if-starts_with.true)

pub returns-else-starts_with : goal.returns-else-starts_with
returns-else-starts_with c = shown-given _ _ (sym c.starts_with.ensures.value ∙ c.if-starts_with.false)
