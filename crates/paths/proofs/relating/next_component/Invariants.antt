-- `relating::next_component` passes slashes. The loop's invariant: what was passed held no component. Assumes nothing.
use mathlib.Core.Path.{◌≡◌}
use lib.ListN.{drop}
use Rattle.paths.specs.Components.{components}
use Rattle.paths.proofs.relating.next_component.Given as goal

abbrev pub invariant-loop-at : goal.invariant-loop-at
invariant-loop-at l = components (drop l.at l.p) ≡ components (drop l.i l.p)
