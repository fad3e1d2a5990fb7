-- What is handed over is the root, or what is entered. Assumes nothing.
use native.Mathlib.Omega.{arith}
use Rattle.std.proofs.Common.{◌≡◌}
use Rattle.paths.specs.Entering.{rooted}
use Rattle.paths.proofs.Answering.{rooted_none, rooted_some, handed-long, handed-path}
use Rattle.paths.proofs.resolving.hand_over.Goals as goal
use Rattle.paths.proofs.resolving.hand_over.Goals.{then-is_empty, else-is_empty}

pub returns-then-resolved-gt-MAX_PATH : goal.returns-then-resolved-gt-MAX_PATH
returns-then-resolved-gt-MAX_PATH c =
    let root : c.if-is_empty.resolved.now ≡ rooted c.args.entered.now =
    elim c.if-is_empty.branch [
      | then-is_empty w ↦ rw (w.resolved-is, rooted_none _ w.if-is_empty.ensures)
      | else-is_empty w ↦ rw (w.resolved-is, rooted_some _ w.if-is_empty.ensures)
    ]
    in
    handed-long _ _ root (omega arith)

pub returns : goal.returns
returns c =
    let root : c.if-is_empty.resolved.now ≡ rooted c.args.entered.now =
    elim c.if-is_empty.branch [
      | then-is_empty w ↦ rw (w.resolved-is, rooted_none _ w.if-is_empty.ensures)
      | else-is_empty w ↦ rw (w.resolved-is, rooted_some _ w.if-is_empty.ensures)
    ]
    in
    handed-path _ _ root (omega arith) c.append.ensures
