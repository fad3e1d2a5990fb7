-- `set_switches_byte` meets its contract: the one byte that is written is the switches.
use Rattle.std.proofs.Common.{rules}
use Rattle.table.proofs.RevokeLaws.{switch-law}
use Rattle.table.proofs.revoking.set_switches_byte.Goals as goal

pub returns : goal.returns
returns c =
    switch-law c.args.mem.now _ _ (record { each = λ i. search rules }) c.requires.0 c.write_switches.ensures
