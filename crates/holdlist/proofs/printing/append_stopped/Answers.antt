-- `append_stopped` meets its contract.
use native.Mathlib.Omega.{arith}
use Rattle.text.proofs.DecimalLaws.{decimal-few}
use Rattle.holdlist.proofs.LineLaws.{stopped-written}
use Rattle.holdlist.proofs.printing.append_stopped.Goals as goal

pub append-requires : goal.append-requires
append-requires c = omega (arith, decimal-few c.args.words, c.requires)

pub returns : goal.returns
returns c =
    stopped-written c.args.words c.requires c.append_labelled-end.ensures c.append.ensures
