use native.Mathlib.Omega.{arith}
use mathlib.Core.Path.{◌≡◌, ◌∙◌}
use lib.ListN.{drop, length-drop}
use lib.Seq.{paste-zero}
use Rattle.table.proofs.Moves.{moved_down, paste-over}
use Rattle.table.proofs.writing.move_down.Goals as goal

pub loop-i-init : goal.loop-i-init
loop-i-init c = paste-zero c.args.mem.now c.args.to (drop c.args.from c.args.mem.now)

pub loop-i-preserved : goal.loop-i-preserved
loop-i-preserved c = moved_down _ _ _ _ _ c.requires.0 (omega (arith, c.requires.1)) c.loop-i.invariant

pub returns : goal.returns
returns c =
    let z : c.loop-i.i ≡ c.args.n = omega arith in
    let a = c.args in
    c.loop-i.invariant
    ∙ rw z (paste-over a.mem.now a.to (drop a.from a.mem.now) a.n (simp length-drop (omega (arith, c.requires.1))))
