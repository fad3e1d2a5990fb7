-- `perform` meets its contract.
use native.Mathlib.Omega.{arith}
use Rattle.std.proofs.lemmas.Result.{err_from_is_err_and}
use Rattle.link.specs.Linking.{numbering}
use Rattle.link.proofs.SendingLaws.{plain-cause, records-plain, performs-refused, performs-done}
use Rattle.link.proofs.performing.perform.Goals as goal

pub returns-in_err-carry_out-in-Plain : goal.returns-in_err-carry_out-in-Plain
unfolding numbering
returns-in_err-carry_out-in-Plain c =
    let p = err_from_is_err_and c.from_residual.result c.from_residual.ensures.1 in
    rw (p.1, p.2, c.in-Plain.is) (performs-refused (plain-cause _ _) c.in_err-carry_out-in-Plain.ensures)

pub returns-in_ok-carry_out-in-Plain : goal.returns-in_ok-carry_out-in-Plain
unfolding numbering
returns-in_ok-carry_out-in-Plain c =
    rw c.in-Plain.is (performs-done (plain-cause _ _) c.in_ok-carry_out-in-Plain.ensures (records-plain _ _ _ _) (omega arith))
