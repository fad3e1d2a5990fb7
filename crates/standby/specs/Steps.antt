-- Steps of an arrival: a change that was read.
use Rattle.std.specs.Prelude.{ℕ, ◌≡◌, List, Option, Some, Ok}
use Rattle.refusals.specs.Refusals.{Result}
use Rattle.table.specs.Acts.{Act}
use Rattle.table.specs.Memory.{table_of}
use Rattle.records.specs.Records.{Change}
use Rattle.standby.specs.declared.Numbers.{Numbers}
use Rattle.standby.specs.declared.Arrived.{Arrived}
use Rattle.standby.specs.Arriving.{met, moved, taken, Comes, numbers_in, arrival_in}

abbrev pub change_of : ℕ → ℕ → Act → Change
change_of run number act = record { run = run; number = number; act = act }

-- a change of a higher run, with its number and its act, which is there; s are the numbers once it is met
abbrev pub Moves : ℕ → ℕ → Option Act → List ℕ → Numbers → List ℕ → Arrived → Type 0
Moves run number act m s m' r = (a : Act) → act ≡ Some a → Comes (Ok (moved m s (change_of run number a))) m s m' r.numbers (Ok r.arrival)

-- a change of any run, on the table that the memory holds
abbrev pub Takes : ℕ → ℕ → Option Act → List ℕ → Numbers → List ℕ → Result Arrived → Type 0
Takes run number act m s m' r =
    (a : Act) → act ≡ Some a
    → Comes (taken (table_of m) m (met s run number) (change_of run number a)) m s m' (numbers_in s r) (arrival_in r)
