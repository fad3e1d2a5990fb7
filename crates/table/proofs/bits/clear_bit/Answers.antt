-- `clear_bit` meets its contract.
use mathlib.Core.Path.{sym, ◌∙◌}
use Rattle.table.proofs.BitLaws.{bit-within}
use Rattle.table.proofs.bits.clear_bit.Goals as goal

pub overflow_sub-result : goal.overflow_sub-result
overflow_sub-result c = bit-within _ _ (sym c.has.ensures ∙ c.if-has.true)
