-- All of the input. Which bytes a read brings no contract says: what is held is what some input makes.
use Rattle.std.specs.Prelude.{List, ℕ, Result, Ok, Err}
use Rattle.holdlist.specs.declared.Held.{Held}
use Rattle.holdlist.specs.Holding.{unnumbered, held, Holds}

-- memory m becomes what some input makes of it; of input that cannot be read nothing is said
pub data HoldsInput {E : Type 0} (m m' : List ℕ) : Result Held E → Type 0 where
  unreadable : {e : E} → HoldsInput m m' (Err e)
  all : {r : Held} (input : List ℕ) → Holds (held m unnumbered input) m' r → HoldsInput m m' (Ok r)
