-- `..` goes back to the last slash of the bytes entered so far. Assumes nothing.
use native.Mathlib.Omega.{arith}
use Rattle.paths.proofs.Entering.{entered-up, begins_within}
use Rattle.paths.proofs.resolving.enter.Goals as goal

pub returns-in-46 : goal.returns-in-46
returns-in-46 c =
    rw (entered-up _ c.args.c.now (omega arith) (omega arith) (omega arith)) (begins_within c.args.len _ (omega arith) c.last_slash.ensures)
