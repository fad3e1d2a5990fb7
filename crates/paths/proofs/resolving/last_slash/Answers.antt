-- What `rposition` finds is the last slash. Assumes nothing.
use Rattle.std.proofs.Common.{rules}
use Rattle.paths.proofs.Entering.{LastSlash, begins_last}
use Rattle.paths.proofs.resolving.last_slash.Goals as goal

pub returns : goal.returns
returns c =
    let found : LastSlash c.args.entered.now c.rposition.result = search rules in
    rw c.unwrap_or.ensures (begins_last _ _ found)
