-- Laws of the steps of a checking order on a table, and of the call that makes a fresh one.
use Rattle.std.specs.Prelude.{Ok, Err}
use Prim.Native.Nat.{ℕ, ◌≤◌, ◌<◌}
use mathlib.Core.Path.{◌≡◌, refl, ◌∙◌}
use mathlib.Core.List.{List, [], ◌∷◌}
use mathlib.Core.Bool.{Bool, true, false, not}
use native.Mathlib.Omega.{arith}
use lib.ListN.{length}
use borrow.Author.Tests.{lt-ltb, le-ltb}
use Rattle.refusals.specs.declared.Refusal.{Refusal}
use Rattle.refusals.specs.declared.Refusal.TheVariants.{NoTable}
use Rattle.refusals.specs.Refusals.{when, first_cause, Result, and_then, unless, cause_of}
use Rattle.refusals.proofs.CauseLaws.{Hands}
use Rattle.paths.specs.Copying.{overwrite}
use Rattle.table.specs.Tables.{Table, fresh}
use Rattle.table.specs.Memory.{table_bytes, table_of, holds, encode, encode_all, head_bytes, put}
use Rattle.table.specs.Carrying.{outcome_of}
use Rattle.table.specs.Calls.{table_in, fresh_in, put_in, MakesFresh}

-- ---- steps of the checking order

module _ (m : List ℕ) where
  pub no_table : holds m ≡ false → table_in m ≡ Err NoTable
  unfolding table_in first_cause unless
  no_table h = rw h

  pub a-table : holds m ≡ true → table_in m ≡ Ok (table_of m)
  unfolding table_in first_cause unless
  a-table h = rw h

  -- what a checking order hands on whose first step this is
  pub hands-table : {A : Type 0} {P : A → Type 0} (f : Table → Result A) → holds m ≡ true → Hands P (f (table_of m)) → Hands P (and_then (table_in m) f)
  unfolding and_then
  hands-table f h H = rw (a-table h) H

  pub fresh-short : length m < table_bytes → fresh_in m ≡ Err NoTable
  unfolding fresh_in first_cause unless
  fresh-short h = rw (lt-ltb _ _ h)

  pub fresh-long : table_bytes ≤ length m → fresh_in m ≡ Ok fresh
  unfolding fresh_in first_cause unless
  fresh-long h = rw (le-ltb _ _ h)

-- what the first step tells, of memory and of what it hands on
none-by : (b : Bool) (t : Table) {cause : Refusal} → unless (first_cause (when (not b) NoTable ∷ [])) t ≡ Err cause → (b ≡ false) × (cause ≡ NoTable)
unfolding first_cause unless
none-by true t e = let z : ◌≡◌ {A = ℕ} 0 1 = cc in absurd (omega arith)
none-by false t e = (refl, cc)

held-by : (b : Bool) (t : Table) {u : Table} → unless (first_cause (when (not b) NoTable ∷ [])) t ≡ Ok u → (b ≡ true) × (t ≡ u)
unfolding first_cause unless
held-by true t e = (refl, cc)
held-by false t e = let z : ◌≡◌ {A = ℕ} 0 1 = cc in absurd (omega arith)

pub no-table-told : (m : List ℕ) {cause : Refusal} → table_in m ≡ Err cause → (holds m ≡ false) × (cause ≡ NoTable)
unfolding table_in
no-table-told m e = none-by (holds m) (table_of m) e

pub table-told : (m : List ℕ) {t : Table} → table_in m ≡ Ok t → (holds m ≡ true) × (table_of m ≡ t)
unfolding table_in
table-told m e = held-by (holds m) (table_of m) e

-- ---- a fresh table

module _ {m : List ℕ} where
  pub makes_none : length m < table_bytes → MakesFresh m m (Err NoTable)
  unfolding outcome_of cause_of put_in
  makes_none h = record { outcome = rw (fresh-short m h); memory = rw (fresh-short m h) }

  pub makes-fresh : {m' : List ℕ} → table_bytes ≤ length m → m' ≡ overwrite m 0 (head_bytes 0 0 0) → MakesFresh m m' (Ok tt)
  unfolding outcome_of cause_of put_in put encode encode_all overwrite
  makes-fresh h q = record { outcome = rw (fresh-long m h); memory = rw (fresh-long m h) q }

-- what the answer tells of memory that is large enough
pub made-fresh : {m m' : List ℕ} {r : Result Unit} → table_bytes ≤ length m → MakesFresh m m' r → m' ≡ put fresh m
unfolding put_in
made-fresh {m} h M = M.memory ∙ rw (fresh-long m h)
