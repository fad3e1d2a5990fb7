-- `append_decimal` meets its contract.
use mathlib.Core.Path.{◌∙◌}
use native.Mathlib.Omega.{arith}
use Rattle.text.proofs.PieceLaws.{decimal-written}
use Rattle.text.proofs.decimals.append_decimal.Goals as goal

pub returns : goal.returns
returns c = decimal-written c.args.n (omega arith) (c.as_bytes.ensures.value ∙ c.format.ensures.text) c.append.ensures
