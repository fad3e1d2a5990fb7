-- Laws of reading an entry from C: there is no table, or what is told is the table's.
use Prim.Native.Nat.{ℕ}
use mathlib.Core.Path.{◌≡◌, refl}
use mathlib.Core.List.{List}
use mathlib.Core.Bool.{Bool, true, false}
use lib.IntN.{ℤ}
use Rattle.std.specs.Prelude.{None, Ok, Err}
use Rattle.refusals.specs.declared.Refusal.{Refusal}
use Rattle.table.specs.Tables.{Table}
use Rattle.table.specs.Memory.{holds}
use Rattle.table.specs.Listing.{listed}
use Rattle.table.specs.Calls.{table_in}
use Rattle.table.proofs.CallLaws.{no_table}
use Rattle.results.specs.Numbers.{refused_number}
use Rattle.results.specs.Exports.{TellsListed, listed_in, ExportedEntry}

-- a table that is read is one that memory holds
pub table-held : (m : List ℕ) {t : Table} → table_in m ≡ Ok t → holds m ≡ true
table-held m {t} e = by (holds m) refl
  where
    by : (b : Bool) → holds m ≡ b → holds m ≡ true
    by true h = h
    by false h = let f = no_table m h in cc

module _ (m : List ℕ) (place : ℕ) {kind at size : ℕ} where
  pub entry-none : {cause : Refusal} {r' r : ℤ} → table_in m ≡ Err cause → TellsListed None kind at size r' → r ≡ refused_number cause
      → ExportedEntry m place kind at size r
  unfolding listed_in
  entry-none e T f = record { number = rw e f; kind-is = rw e T.kind-is; start = rw e T.start; long = rw e T.long }

  pub entry-some : {t : Table} {r : ℤ} → table_in m ≡ Ok t → TellsListed (listed m place) kind at size r → ExportedEntry m place kind at size r
  unfolding listed_in
  entry-some e T = record { number = rw e T.number; kind-is = rw e T.kind-is; start = rw e T.start; long = rw e T.long }
