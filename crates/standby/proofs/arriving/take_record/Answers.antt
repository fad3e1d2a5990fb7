-- `take_record` meets its contract: the first cause is found, or the change that was read is taken.
use mathlib.Core.Path.{◌≡◌, sym}
use native.Mathlib.Omega.{arith}
use lib.Seq.{length-take-le}
use Rattle.std.proofs.lemmas.Result.{err_from_is_err_and}
use Rattle.refusals.specs.declared.Refusal.TheVariants.{MalformedRecord}
use Rattle.standby.proofs.ArrivingLaws.{arrival-no-table, arrival-conflict, arrival-malformed, reads_none, reads-change, reads_more, comes-refused, comes-taken}
use Rattle.standby.proofs.arriving.take_record.Goals as goal
use Rattle.standby.proofs.arriving.take_record.Goals.{then-not-holds_table-via-then-not-holds_table, then-not-holds_table-via-else-not-holds_table+then-in_conflict}

pub returns-then-not-holds_table : goal.returns-then-not-holds_table
returns-then-not-holds_table c = comes-refused (elim c.then-not-holds_table.branch [
  | then-not-holds_table-via-then-not-holds_table w ↦ arrival-no-table _ _ _ (sym w.if-not-holds_table.ensures)
  | then-not-holds_table-via-else-not-holds_table+then-in_conflict w ↦ arrival-conflict _ _ _ (sym w.if-not-holds_table.ensures) (sym w.if-in_conflict.ensures)
])

pub returns-in_err-record : goal.returns-in_err-record
returns-in_err-record c =
    let p = err_from_is_err_and c.from_residual.result c.from_residual.ensures.1 in
    let none = c.in_err-record.ensures.ok_part in
    let malformed = reads_none _ c.read_record.ensures none in
    let same = rw none at c.in_err-record.ensures.value in
    let cause : c.in_err-record.field-0.0 ≡ MalformedRecord = cc in
    rw (p.1, p.2, cause)
    (comes-refused (arrival-malformed _ _ _ (sym c.if-not-holds_table.ensures) (sym c.if-in_conflict.ensures) malformed))

pub returns-then-record-words : goal.returns-then-record-words
returns-then-record-words c =
    let more = reads_more _ c.read_record.ensures c.in_ok-record.ensures.ok_part (λ e. omega arith) in
    comes-refused (arrival-malformed _ _ _ (sym c.if-not-holds_table.ensures) (sym c.if-in_conflict.ensures) more)

pub slice_bounds-space-end : goal.slice_bounds-space-end
slice_bounds-space-end c = (reads-change _ c.read_record.ensures c.in_ok-record.ensures.ok_part (omega arith)).room

pub slice_bounds-take_change-end : goal.slice_bounds-take_change-end
slice_bounds-take_change-end c = sym (length-take-le _ _ (reads-change _ c.read_record.ensures c.in_ok-record.ensures.ok_part (omega arith)).room)

pub take_change-requires : goal.take_change-requires
take_change-requires c =
    (sym c.if-not-holds_table.ensures, (reads-change _ c.read_record.ensures c.in_ok-record.ensures.ok_part (omega arith)).fitting)

pub returns : goal.returns
returns c =
    let change = reads-change _ c.read_record.ensures c.in_ok-record.ensures.ok_part (omega arith) in
    comes-taken _ change c.take_change.ensures (sym c.if-not-holds_table.ensures) (sym c.if-in_conflict.ensures)
