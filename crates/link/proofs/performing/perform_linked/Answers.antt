-- `perform_linked` meets its contract.
use mathlib.Core.Path.{refl}
use native.Mathlib.Omega.{arith}
use Rattle.std.proofs.lemmas.Result.{err_from_is_err_and}
use Rattle.link.proofs.SendingLaws.{left-cause, performs-unnumbered, performs-nothing, performs-refused, performs-done}
use Rattle.link.specs.Linking.{numbering}
use Rattle.link.proofs.performing.perform_linked.Goals as goal

pub returns-in_err-without_number : goal.returns-in_err-without_number
returns-in_err-without_number c =
    let p = err_from_is_err_and c.from_residual.result c.from_residual.ensures.1 in
    rw (p.1, p.2) (performs-unnumbered refl (omega arith) (rw c.of.ensures at c.in_err-without_number.ensures))

pub returns-then-number-ge-MAX_NUMBER : goal.returns-then-number-ge-MAX_NUMBER
returns-then-number-ge-MAX_NUMBER c = performs-nothing refl (omega arith) (rw c.of.ensures at c.in_ok-without_number.ensures)

pub returns-in_err-carry_out : goal.returns-in_err-carry_out
unfolding numbering
returns-in_err-carry_out c =
    let p = err_from_is_err_and c.from_residual-in_err-carry_out.result c.from_residual-in_err-carry_out.ensures.1 in
    rw (p.1, p.2) (performs-refused (left-cause _ _ _ (omega arith)) c.in_err-carry_out.ensures)

-- The act is carried out,
-- and then it is recorded.
pub returns : goal.returns
unfolding numbering
returns c = performs-done (left-cause _ _ _ (omega arith)) c.in_ok-carry_out.ensures c.send_at.ensures.records c.send_at.ensures.few
