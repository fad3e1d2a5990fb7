-- Laws of the call query: when two calls answer the same.
use Prim.Native.Nat.{ℕ}
use mathlib.Core.Path.{◌≡◌, refl}
use mathlib.Core.List.{List}
use mathlib.Core.Bool.{true}
use Rattle.paths.specs.declared.Descriptor.{Descriptor}
use Rattle.paths.specs.declared.Descriptor.TheVariants.{NoPath}
use Rattle.paths.specs.Giving.{given}
use Rattle.table.specs.Memory.{table_of, holds}
use Rattle.table.proofs.CallLaws.{a-table}
use Rattle.walk.specs.Calls.{query_call}

-- with no path, what is lent for one does not matter
pub query-any-path : (m : List ℕ) (mode : ℕ) (p cwd p' cwd' : List ℕ) → query_call m mode NoPath p cwd ≡ query_call m mode NoPath p' cwd'
unfolding query_call given
query-any-path m mode p cwd p' cwd' = refl

-- memories that hold the same table answer every query the same
pub query-same : (m m' : List ℕ) → holds m ≡ true → holds m' ≡ true → table_of m ≡ table_of m' → (mode : ℕ) (d : Descriptor) (p cwd : List ℕ)
    → query_call m mode d p cwd ≡ query_call m' mode d p cwd
unfolding query_call
query-same m m' h h' e mode d p cwd = rw (a-table m h, a-table m' h', e)
