-- `query` meets its contract: the first cause is found, or the walk answers.
use mathlib.Core.Path.{sym}
use Rattle.std.proofs.Common.{rules}
use lib.Seq.{length-take-le}
use Rattle.refusals.specs.Refusals.{and_then}
use Rattle.paths.proofs.GivingLaws.{gives-refused, gives-stands}
use Rattle.walk.specs.Calls.{query_call}
use Rattle.walk.proofs.querying.query.Goals as goal

pub returns-in_err-table : goal.returns-in_err-table
unfolding query_call and_then
returns-in_err-table c = rw (sym c.in_err-table.ensures) (search rules)

pub returns-in_err-known : goal.returns-in_err-known
unfolding query_call and_then
returns-in_err-known c = rw (sym c.in_ok-table.ensures, sym c.in_err-known.ensures) (search rules)

pub slice_bounds-space-end : goal.slice_bounds-space-end
slice_bounds-space-end c = (gives-stands c.resolve_given.ensures c.in_ok-n.was).room

pub slice_bounds-query_desc-end : goal.slice_bounds-query_desc-end
slice_bounds-query_desc-end c = sym (length-take-le _ _ (gives-stands c.resolve_given.ensures c.in_ok-n.was).room)

pub returns-in_err-n : goal.returns-in_err-n
unfolding query_call and_then
returns-in_err-n c =
    rw (
      sym c.in_ok-table.ensures,
      sym c.in_ok-known.ensures,
      gives-refused c.resolve_given.ensures c.in_err-n.was,
    )
    (search rules)

pub returns : goal.returns
unfolding query_call and_then
returns c =
    let t = sym c.in_ok-table.ensures in
    rw (t, sym c.in_ok-known.ensures, (gives-stands c.resolve_given.ensures c.in_ok-n.was).query, c.query_desc.ensures)
