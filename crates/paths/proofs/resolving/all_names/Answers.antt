-- Before the first byte there is no component yet. Assumes nothing.
use Rattle.paths.proofs.Scanning.{testing-start}
use Rattle.paths.proofs.resolving.all_names.Goals as goal

pub loop-i-init : goal.loop-i-init
loop-i-init c = testing-start _
