-- What the functions that change a table ensure of memory, step by step; `Carrying.antt` has what they come to.
use Rattle.std.specs.Prelude.{ℕ, ◌≡◌, List, Bool}
use Rattle.std.specs.Fn.{FnReturnsAt}
use denote.Param.Members.{Shared}
use denote.Ref.{Bor}
use Rattle.table.specs.Entries.{Entry}
use Rattle.table.specs.Placing.{search}
use Rattle.table.specs.Memory.{table_head, offset_at, table_of}

-- the search for e's place ends at `base`, and the entry there begins at `at`
pub record SearchEnds (m : List ℕ) (e : Entry) (base at : ℕ) : Type 0 where
  pub ends : base ≡ search (table_of m).entries e
  pub begins : at ≡ offset_at m base table_head

-- the closure f answers of each path whether it is selected
pub record Selects {F : Type 0} (g : Shared F (Bor (List ℕ) × Unit {0}) Bool) (f : F) (selected : List ℕ → Bool) : Type 0 where
  pub answers : (p : List ℕ) (r : Bool) → FnReturnsAt g f p r → r ≡ selected p
