-- `holds_table` meets its contract: size, count and switches are tested first, and then the entries decide.
use Prim.Native.Nat.{◌≤◌}
use mathlib.Core.Path.{sym, ◌∙◌}
use native.Mathlib.Omega.{arith}
use lib.ListN.{get_or}
use Rattle.std.proofs.lemmas.Grind.{common_steps}
use Rattle.table.specs.Tables.{max_switches}
use Rattle.table.specs.Memory.{switches_at}
use Rattle.table.proofs.ScanningLaws.{holds-short, holds-over, holds_by}
use Rattle.table.proofs.holding.holds_table.Goals as goal
use Rattle.table.proofs.holding.holds_table.Goals.{then-count-le-MAX_ENTRIES, else-count-le-MAX_ENTRIES}

pub returns-then-mem-lt-TABLE_BYTES : goal.returns-then-mem-lt-TABLE_BYTES
returns-then-mem-lt-TABLE_BYTES c = sym (holds-short _ (omega arith))

pub returns-then-mem-le-MAX_SWITCHES : goal.returns-then-mem-le-MAX_SWITCHES
returns-then-mem-le-MAX_SWITCHES c =
    let low : get_or c.args.mem.now switches_at 0 ≤ max_switches = grind (arith, common_steps) in
    holds_by _ _ _ (omega arith) c.word_at-count.ensures.0 (grind (arith, common_steps)) low c.entries_fit.ensures

pub returns-else-mem-le-MAX_SWITCHES : goal.returns-else-mem-le-MAX_SWITCHES
returns-else-mem-le-MAX_SWITCHES c = c.if-mem-le-MAX_SWITCHES.false ∙ sym (holds-over _ (λ k l. grind (arith, common_steps)))
