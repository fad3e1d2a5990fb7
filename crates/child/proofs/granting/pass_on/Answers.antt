-- `pass_on` meets its contract: 10 where the check fails, and else the grant is carried out.
use Rattle.std.proofs.Common.{arith}
use Rattle.std.proofs.lemmas.Grind.{common_steps}
use Rattle.table.specs.Carrying.{fits}
use Rattle.table.proofs.Puts.{valid-of}
use Rattle.deciding.proofs.FittingLaws.{grant-fits}
use Rattle.child.proofs.MakingLaws.{grants-carried, passes-not, passes_on, same-pass}
use Rattle.child.proofs.granting.pass_on.Goals as goal

pub returns-then-ne : goal.returns-then-ne
returns-then-ne c = passes-not _ _ (grind (arith, common_steps, same-pass c.args.state))

pub carry_out-requires-clause-q_value : goal.carry_out-requires-clause-q_value
unfolding fits
carry_out-requires-clause-q_value c =
    rw (c.grant_action-action.ensures c.args.q.now, c.of.ensures) (grant-fits _ (valid-of _ c.requires.child_value) _ c.requires.q_value)

pub returns : goal.returns
returns c =
    passes_on _ _ (grind (arith, common_steps, same-pass c.args.state))
    (grants-carried (rw (c.grant_action-action.ensures c.args.q.now, c.of.ensures) at c.carry_out.ensures))
