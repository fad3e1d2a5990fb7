-- `copy_to` meets its contract: the bytes that it copies are the table.
use mathlib.Core.Path.{sym, ap, ◌∙◌}
use native.Mathlib.Omega.{arith}
use lib.Seq.{length-take-le}
use Rattle.table.specs.Listing.{used_bytes}
use Rattle.table.proofs.Puts.{long_of}
use Rattle.table.proofs.TableCopies.{copy-law}
use Rattle.table.proofs.held.Table.copy_to.Goals as goal

pub slice_bounds-copy_in-end : goal.slice_bounds-copy_in-end
slice_bounds-copy_in-end c = sym (length-take-le _ _ (omega (arith, long_of _ c.self.invariant.holding)))

pub returns : goal.returns
returns c =
    rw (← c.self.view_is)
    (copy-law _ c.self.invariant.bytes c.self.invariant.holding (c.used-end.ensures.0 ∙ ap used_bytes (sym c.self.view_is)) _ c.copy_in.ensures)
