-- `write_entry` meets its contract: the kind, the length and the copied path are one run of bytes.
use mathlib.Core.Path.{◌∙◌}
use Rattle.table.proofs.Overwrites.{written}
use Rattle.table.proofs.writing.write_entry.Goals as goal

pub returns : goal.returns
returns c =
    c.copy_in.ensures
    ∙ rw c.write_word.ensures (written c.args.mem.now c.args.at (record { kind = c.args.kind; path = c.args.path.now }) _ c.requires.1 c.into.ensures)
