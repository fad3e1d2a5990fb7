-- `entry_offset` meets its contract: the first entries of a table lie within the memory.
use Rattle.table.proofs.Within.{rest-start, rest-take}
use Rattle.table.proofs.reading.entry_offset.Goals as goal

pub hop-requires : goal.hop-requires
hop-requires c =
    let h = c.requires in
    (rest-take _ _ _ _ h.1 (rest-start _ h.0)).within
