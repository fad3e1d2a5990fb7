-- `keep_rest` meets its contract.
use Prim.Native.Nat.{◌-◌}
use mathlib.Core.Path.{refl, ◌∙◌}
use native.Mathlib.Omega.{arith}
use lib.ListN.{drop, length-drop}
use Rattle.table.proofs.Moves.{paste-over}
use Rattle.input.proofs.PartLaws.{moved}
use Rattle.input.proofs.parts.keep_rest.Goals as goal

pub returns : goal.returns
returns c =
    let a = c.args in
    let left = a.len - a.taken in
    let put = paste-over a.buffer.now 0 (drop a.taken a.buffer.now) left (omega (arith, length-drop a.taken a.buffer.now, c.requires.0, c.requires.1)) in
    record { count = refl; front = moved a.buffer.now a.len a.taken left c.requires.1 (omega (arith, c.requires.0)) (c.copy_within.ensures.after ∙ put) }
