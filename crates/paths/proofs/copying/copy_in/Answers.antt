use native.Mathlib.Omega.{arith}
use mathlib.Core.Path.{◌≡◌, ◌∙◌}
use lib.ListN.{length}
use lib.Seq.{paste-zero}
use Rattle.paths.proofs.CopyLaws.{paste_more, paste-whole}
use Rattle.paths.proofs.copying.copy_in.Goals as goal

pub loop-i-init : goal.loop-i-init
loop-i-init c = paste-zero c.args.mem.now c.args.at c.args.src.now

pub loop-i-preserved : goal.loop-i-preserved
loop-i-preserved c =
    let a = c.args in
    rw c.loop-i.invariant (paste_more a.mem.now a.at a.src.now c.loop-i.i (omega arith) (omega arith))

pub returns : goal.returns
returns c =
    let z : c.loop-i.i ≡ length c.args.src.now = omega arith in
    let a = c.args in
    c.loop-i.invariant ∙ rw z (paste-whole a.mem.now a.at a.src.now)
