-- The working directory's components come first where the path is relative. Assumes nothing.
use Rattle.std.proofs.Common.{sym}
use native.Mathlib.Omega.{arith}
use Rattle.paths.proofs.Answering.{directory-short, Before, before-absolute, before-relative, joined}
use Rattle.paths.proofs.resolving.enter_joined.Goals as goal
use Rattle.paths.proofs.resolving.enter_joined.Goals.{then-is_absolute, else-is_absolute}

pub enter_all-len-requires : goal.enter_all-len-requires
enter_all-len-requires c = omega (arith, directory-short _ _ (sym c.if-is_absolute.ensures) c.requires.2)

pub enter_all-requires : goal.enter_all-requires
enter_all-requires c =
    let before : Before c.args.path.now c.args.cwd.now c.if-is_absolute.work c.if-is_absolute.len =
    elim c.if-is_absolute.branch [
      | then-is_absolute w ↦ before-absolute _ _ (sym w.if-is_absolute.ensures) w.len-is
      | else-is_absolute w ↦ rw (w.work-is, w.len-is) (before-relative _ _ (sym w.if-is_absolute.ensures) c.requires.2 w.enter_all-len.ensures)
    ]
    in
    omega (arith, before.few, c.requires.0, c.requires.1)

pub returns : goal.returns
returns c =
    let before : Before c.args.path.now c.args.cwd.now c.if-is_absolute.work c.if-is_absolute.len =
    elim c.if-is_absolute.branch [
      | then-is_absolute w ↦ before-absolute _ _ (sym w.if-is_absolute.ensures) w.len-is
      | else-is_absolute w ↦ rw (w.work-is, w.len-is) (before-relative _ _ (sym w.if-is_absolute.ensures) c.requires.2 w.enter_all-len.ensures)
    ]
    in
    joined _ _ before c.requires.1 c.enter_all.ensures
