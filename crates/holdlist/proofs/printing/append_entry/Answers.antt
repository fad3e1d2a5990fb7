-- `append_entry` meets its contract.
use native.Mathlib.Omega.{arith}
use Rattle.table.specs.Held.{entry_of}
use Rattle.text.proofs.EscapeLaws.{escaped-long}
use Rattle.holdlist.proofs.LineLaws.{entry-written}
use Rattle.holdlist.proofs.printing.append_entry.Goals as goal

pub append-requires : goal.append-requires
append-requires c = omega (arith, escaped-long (entry_of c.args.entry).path, c.requires)

pub returns : goal.returns
returns c = entry-written (entry_of c.args.entry) _ c.kind_letter.ensures c.requires c.append-from.ensures c.escape-end.ensures c.append.ensures
