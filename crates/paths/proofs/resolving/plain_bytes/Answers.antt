-- One pair more at each turn. Assumes nothing.
use Prim.Native.Nat.{◌+◌, ◌-◌}
use mathlib.Core.Path.{◌≡◌, sym, ◌∙◌}
use native.Mathlib.Omega.{arith}
use Rattle.paths.proofs.Scanning.{plain-none, plain_more}
use Rattle.paths.proofs.resolving.plain_bytes.Goals as goal

pub loop-k-init : goal.loop-k-init
loop-k-init c = plain-none _

pub loop-k-preserved : goal.loop-k-preserved
loop-k-preserved c =
    let e : c.loop-k.k - 1 + 1 ≡ c.loop-k.k = omega arith in
    let f : c.loop-k.k + 1 - 1 ≡ c.loop-k.k - 1 + 1 = omega arith in
    rw f (plain_more c.args.p.now (c.loop-k.k - 1) c.loop-k.invariant (rw e (sym c.plain_pair.ensures ∙ c.if-not-plain_pair.false)))

pub returns : goal.returns
returns c = λ _. record { pairs = λ j w. c.loop-k.invariant.pairs j (omega arith) }
