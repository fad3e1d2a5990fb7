use native.Mathlib.Omega.{arith}
use Prim.Native.Nat.{◌+◌, ◌-◌}
use mathlib.Core.Path.{◌≡◌, ◌∙◌}
use native.Mathlib.Nat.{add-zero, sub-zero}
use lib.ListN.{drop, length-drop}
use lib.Seq.{paste-zero}
use Rattle.table.proofs.Moves.{moved_up, paste-over}
use Rattle.table.proofs.writing.move_up.Goals as goal

pub loop-i-init : goal.loop-i-init
loop-i-init c =
    let a = c.args in
    let e : a.n - a.n ≡ 0 = omega arith in
    rw e (paste-zero a.mem.now (a.to + a.n) (drop (a.from + a.n) a.mem.now))

pub loop-i-preserved : goal.loop-i-preserved
loop-i-preserved c = moved_up _ _ _ _ _ _ c.requires.0 c.requires.1 (omega arith) (omega arith) c.loop-i.invariant

pub returns : goal.returns
returns c =
    let z : c.loop-i.i ≡ 0 = omega arith in
    let a = c.args in
    c.loop-i.invariant
    ∙ rw (z, add-zero a.to, add-zero a.from, sub-zero)
    (paste-over a.mem.now a.to (drop a.from a.mem.now) a.n (simp length-drop (omega (arith, c.requires.0, c.requires.1))))
