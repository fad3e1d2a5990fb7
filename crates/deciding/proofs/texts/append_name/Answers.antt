-- In angle brackets the name alone is written, and else a quote, the name and a quote. Assumes nothing.
use mathlib.Core.Path.{sym, ◌∙◌}
use Rattle.deciding.proofs.TextLaws.{name-bare, name-quoted}
use Rattle.deciding.proofs.texts.append_name.Goals as goal

pub returns-then-is_in_angles : goal.returns-then-is_in_angles
returns-then-is_in_angles c =
    name-bare _ (sym c.is_in_angles.ensures ∙ c.if-is_in_angles.true) c.append.ensures

pub returns : goal.returns
returns c =
    name-quoted _ (sym c.is_in_angles.ensures ∙ c.if-is_in_angles.false) c.requires
    c.append-from.ensures c.append-end.ensures c.append-2.ensures
