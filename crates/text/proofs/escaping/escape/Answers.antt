use native.Mathlib.Omega.{arith}
use Rattle.text.proofs.EscapeLaws.{escaping-start, escaping-more}
use Rattle.text.proofs.escaping.escape.Goals as goal

pub loop-byte-init : goal.loop-byte-init
loop-byte-init c = escaping-start _ _ _ c.requires

pub loop-byte-preserved : goal.loop-byte-preserved
loop-byte-preserved c =
    escaping-more c.loop-byte.invariant (omega arith) c.append_byte-end.ensures c.append_byte-end.auto.space
