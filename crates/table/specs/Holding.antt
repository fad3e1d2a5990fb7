-- What a table that is read stands on: memory that holds one, of bytes.
use Rattle.std.specs.Prelude.{ℕ, ◌≡◌, List, true}
use Rattle.paths.specs.Components.{Bytes}
use Rattle.table.specs.Memory.{holds}

pub record HoldsTable (m : List ℕ) : Type 0 where
  pub holding : holds m ≡ true
  pub bytes : Bytes m
