-- `hold` meets its contract. The loop's invariant: what the rest comes to, the whole comes to.
use lib.ListN.{length}
use Rattle.holdlist.specs.Holding.{held_from, standing}
use Rattle.holdlist.proofs.HoldingLaws.{Going, to_go}
use Rattle.holdlist.proofs.reading.hold.Given as goal

abbrev pub invariant-loop-held : goal.invariant-loop-held
invariant-loop-held l = Going (held_from l.keep (length l.bytes) (standing l.initial.mem l.initial.held) l.bytes) l.keep l.bytes l.initial.mem (standing l.mem l.held)

abbrev pub decreases-loop-held : goal.decreases-loop-held
decreases-loop-held l = to_go (standing l.mem l.held) l.bytes
