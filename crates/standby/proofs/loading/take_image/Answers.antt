-- `take_image` meets its contract: the first cause is found, or the image that was read is taken or is a repeat.
use mathlib.Core.Path.{◌≡◌, sym, ◌∙◌}
use Rattle.std.proofs.lemmas.Result.{err_from_is_err_and}
use Rattle.refusals.specs.declared.Refusal.TheVariants.{MalformedImage}
use Rattle.table.proofs.Puts.{long_of}
use Rattle.images.proofs.ReadingLaws.{no-image-told, image-told}
use Rattle.standby.proofs.ArrivingLaws.{comes-refused}
use Rattle.standby.proofs.LoadingLaws.{loading-no-table, loading-conflict, loading-malformed, loads-repeat, loads-taken}
use Rattle.standby.proofs.loading.take_image.Goals as goal
use Rattle.standby.proofs.loading.take_image.Goals.{then-not-holds_table-via-then-not-holds_table, then-not-holds_table-via-else-not-holds_table+then-in_conflict}

pub returns-then-not-holds_table : goal.returns-then-not-holds_table
returns-then-not-holds_table c = comes-refused (elim c.then-not-holds_table.branch [
  | then-not-holds_table-via-then-not-holds_table w ↦ loading-no-table _ _ _ (sym w.if-not-holds_table.ensures)
  | then-not-holds_table-via-else-not-holds_table+then-in_conflict w ↦ loading-conflict _ _ _ (sym w.if-not-holds_table.ensures) (sym w.if-in_conflict.ensures)
])

pub returns-in_err-image : goal.returns-in_err-image
returns-in_err-image c =
    let p = err_from_is_err_and c.from_residual.result c.from_residual.ensures.1 in
    let none = c.in_err-image.ensures.ok_part in
    let malformed = no-image-told _ (sym none ∙ c.read_image.ensures) in
    let same = rw none at c.in_err-image.ensures.value in
    let cause : c.in_err-image.field-0.0 ≡ MalformedImage = cc in
    rw (p.1, p.2, cause)
    (comes-refused (loading-malformed _ _ _ (sym c.if-not-holds_table.ensures) (sym c.if-in_conflict.ensures) malformed))

pub returns-then-not-is_taken : goal.returns-then-not-is_taken
returns-then-not-is_taken c =
    let told = image-told _ (sym c.in_ok-image.ensures.ok_part ∙ c.read_image.ensures) in
    loads-repeat _ _ _ (sym c.if-not-holds_table.ensures) (sym c.if-in_conflict.ensures) told c.meet-after.ensures (sym c.if-not-is_taken.ensures)

pub load_table-requires : goal.load_table-requires
load_table-requires c =
    let told = image-told _ (sym c.in_ok-image.ensures.ok_part ∙ c.read_image.ensures) in
    record { read = told.read; table_bytes_in_bounds = long_of _ (sym c.if-not-holds_table.ensures) }

pub returns : goal.returns
returns c =
    let told = image-told _ (sym c.in_ok-image.ensures.ok_part ∙ c.read_image.ensures) in
    loads-taken _ _ _ (sym c.if-not-holds_table.ensures) (sym c.if-in_conflict.ensures) told c.meet-after.ensures (sym c.if-not-is_taken.ensures)
    c.load_table.ensures
