-- `write_image` meets its contract, at each way out.
use mathlib.Core.Path.{sym, ap, ◌∙◌}
use native.Mathlib.Omega.{arith}
use Rattle.images.specs.Images.{image_size}
use Rattle.table.proofs.CallLaws.{no-table-told, table-told}
use Rattle.records.proofs.RecordLaws.{run-few}
use Rattle.link.proofs.ImagingLaws.{image-no-table, image-no-space, image-no-run, image-used-up, image-done}
use Rattle.link.proofs.imaging.write_image.Goals as goal

pub returns-in_default : goal.returns-in_default
returns-in_default c = image-no-table _ _ _ _ (no-table-told _ (sym c.try_from.ensures ∙ c.in_default.is)).0 c.refused.ensures

pub returns-then-words-size : goal.returns-then-words-size
returns-then-words-size c =
    let T = table-told _ (sym c.try_from.ensures ∙ c.in-Ok.is) in
    image-no-space _ _ _ _ T.0 (c.image_size-size.ensures.0 ∙ ap image_size (sym T.1)) (omega arith) c.refused-then-words-size.ensures

pub returns-then-not-is_run : goal.returns-then-not-is_run
returns-then-not-is_run c =
    let T = table-told _ (sym c.try_from.ensures ∙ c.in-Ok.is) in
    image-no-run _ _ _ _ T.0 (c.image_size-size.ensures.0 ∙ ap image_size (sym T.1)) (omega arith) (sym c.is_run.ensures ∙ c.if-not-is_run.true)
    c.refused-then-not-is_run.ensures

pub returns-then-number-gt-MAX_NUMBER : goal.returns-then-number-gt-MAX_NUMBER
returns-then-number-gt-MAX_NUMBER c =
    let T = table-told _ (sym c.try_from.ensures ∙ c.in-Ok.is) in
    image-used-up _ _ _ _ T.0 (c.image_size-size.ensures.0 ∙ ap image_size (sym T.1)) (omega arith) (sym c.is_run.ensures ∙ c.if-not-is_run.false)
    (omega arith) c.refused-then-number-gt-MAX_NUMBER.ensures

pub write_image-requires : goal.write_image-requires
write_image-requires c =
    (run-few _ (sym c.is_run.ensures ∙ c.if-not-is_run.false), omega arith, omega (arith, c.image_size-size.ensures.0))

pub returns : goal.returns
returns c =
    let T = table-told _ (sym c.try_from.ensures ∙ c.in-Ok.is) in
    image-done _ _ _ _ T.0 (c.image_size-size.ensures.0 ∙ ap image_size (sym T.1)) (omega arith) (sym c.is_run.ensures ∙ c.if-not-is_run.false)
    (omega arith) (rw T.1 c.write_image.ensures)
