-- `write_listing` meets its contract.
use native.Mathlib.Omega.{arith}
use Rattle.holdlist.proofs.LineLaws.{header-end, entries-room, entries-end, listing-whole, listing-stopped}
use Rattle.holdlist.proofs.printing.write_listing.Goals as goal

pub append_entries-end-requires : goal.append_entries-end-requires
append_entries-end-requires c =
    let room = entries-room c.args.table.now c.entries-entries.ensures.limits in
    rw c.entries-entries.ensures.list (omega (arith, c.requires.1, header-end _ _ c.write_header-from.ensures))

pub append_stopped-requires : goal.append_stopped-requires
append_stopped-requires c =
    let lines = rw c.entries-entries.ensures.list at c.append_entries-end.ensures in
    omega (arith, c.requires.1, header-end _ _ c.write_header-from.ensures, entries-end c.args.table.now c.entries-entries.ensures.limits lines)

pub returns-then-held : goal.returns-then-held
returns-then-held c =
    let lines = rw c.entries-entries.ensures.list at c.append_entries-end.ensures in
    let header_end = header-end _ _ c.write_header-from.ensures in
    let lines_end = entries-end c.args.table.now c.entries-entries.ensures.limits lines in
    rw c.if-held.true
    (listing-stopped _ _ _ (omega (arith, c.requires.1)) c.write_header-from.ensures lines (omega (arith, c.requires.1)) c.append_stopped.ensures)

pub returns-else-held : goal.returns-else-held
returns-else-held c =
    let lines = rw c.entries-entries.ensures.list at c.append_entries-end.ensures in
    rw c.if-held.false
    (listing-whole _ _ _ (omega (arith, c.requires.1, header-end _ _ c.write_header-from.ensures)) c.write_header-from.ensures lines)
