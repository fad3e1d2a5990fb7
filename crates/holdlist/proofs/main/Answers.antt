-- `main` is safe and ends: what it prints is a table that memory holds.
use mathlib.Core.Path.{sym}
use native.Mathlib.Omega.{arith}
use lib.Seq.{length-take-le}
use Rattle.table.proofs.Overwrites.{starts-inside}
use Rattle.standby.proofs.ArrivingLaws.{no-conflict}
use Rattle.holdlist.proofs.KeepLaws.{input-kept}
use Rattle.holdlist.proofs.main.Goals as goal

pub of-requires : goal.of-requires
of-requires c = (input-kept (omega arith) c.make_fresh.ensures c.hold_input.ensures c.in-Ok.is).holding

pub write_listing-n-requires : goal.write_listing-n-requires
write_listing-n-requires c =
    let kept = input-kept (omega arith) c.make_fresh.ensures c.hold_input.ensures c.in-Ok.is in
    (no-conflict _ kept.agreeing, omega arith)

pub slice_bounds-space-end : goal.slice_bounds-space-end
slice_bounds-space-end c = starts-inside c.write_listing-n.ensures

pub slice_bounds-write_all-end : goal.slice_bounds-write_all-end
slice_bounds-write_all-end c = sym (length-take-le _ _ (starts-inside c.write_listing-n.ensures))
