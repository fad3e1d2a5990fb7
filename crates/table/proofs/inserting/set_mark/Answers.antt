-- `set_mark` meets its contract: the one byte that it stores is the mark of the table with the mark set.
use Rattle.std.proofs.Common.{rules}
use Rattle.table.proofs.Inserts.{mark-law}
use Rattle.table.proofs.inserting.set_mark.Goals as goal

pub returns : goal.returns
returns c =
    λ p. mark-law c.args.mem.now (record { each = λ i. search rules }) c.requires (record { kind = c.args.kind; path = p }) _ c.marked.ensures
