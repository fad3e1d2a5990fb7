-- `append_labelled` meets its contract.
use native.Mathlib.Omega.{arith}
use Rattle.text.proofs.PieceLaws.{then}
use Rattle.text.proofs.decimals.append_labelled.Goals as goal

pub returns : goal.returns
returns c =
    then (omega (arith, c.requires, c.append-from.ensures.end)) c.append-from.ensures c.append_decimal.ensures
