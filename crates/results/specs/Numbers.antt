-- The numbers that the C program gets. Scope, "A call comes in": a refusal returns its number; states carry the Rust's numbers.
use Rattle.std.specs.Prelude.{ℕ, Bool, true, false, not, eqb, ℤ, pos, neg_ℤ, Option, None, Some, Ok, Err}
use Rattle.refusals.specs.declared.Refusal.{Refusal}
use Rattle.refusals.specs.Refusals.{refusal_number, Result}
use Rattle.paths.specs.declared.Relation.{Relation}
use Rattle.paths.specs.declared.Relation.TheVariants as relation
use Rattle.paths.specs.declared.Comparison.{Comparison}
use Rattle.table.specs.declared.Listed.{Listed}
use Rattle.table.specs.Entries.{kind_number}
use Rattle.walk.specs.declared.PermissionState.{PermissionState}
use Rattle.walk.specs.Walk.{state_number}
use Rattle.standby.specs.declared.Arrival.{Arrival}
use Rattle.standby.specs.declared.Arrival.TheVariants as arrival

-- ---- what an answer hands on, or why it is refused

-- refusal n is −n
abbrev pub refused_number : Refusal → ℤ
refused_number cause = neg_ℤ (pos (refusal_number cause))

-- the number of what is handed on, or a refusal
abbrev pub number_by : {A : Type 0} → (A → ℤ) → Result A → ℤ
number_by of (Ok a) = of a
number_by of (Err cause) = refused_number cause

-- a number beside it, or 0 where the call is refused
abbrev pub beside : {A : Type 0} → (A → ℕ) → Result A → ℕ
beside of (Ok a) = of a
beside of (Err cause) = 0

-- ---- the numbers of each call

-- 0, whatever is handed on, or a refusal
abbrev pub outcome_number : {A : Type 0} → Result A → ℤ
outcome_number r = number_by (λ done. pos 0) r

-- the state's number, or a refusal; a check that passes answers Granted, and no other does, so 0 means that it passes
abbrev pub answer_number : Result PermissionState → ℤ
answer_number r = number_by (λ state. pos (state_number state)) r

-- 1 if the operator was asked
abbrev pub asked_number : Bool → ℕ
asked_number true = 1
asked_number false = 0

-- 1 if the operator would be asked, 0 if not, or a refusal; and how many bytes the question has
abbrev pub asking : Option ℕ → ℤ
asking (Some n) = pos 1
asking None = pos 0

abbrev pub asking_size : Option ℕ → ℕ
asking_size (Some n) = n
asking_size None = 0

abbrev pub question_number : Result (Option ℕ) → ℤ
question_number r = number_by asking r

abbrev pub question_size : Result (Option ℕ) → ℕ
question_size r = beside asking_size r

-- how a path relates to another
abbrev pub relation_number : Relation → ℕ
relation_number relation.Equal = 0
relation_number relation.Prefix = 1
relation_number relation.Extension = 2
relation_number relation.Less = 3
relation_number relation.Greater = 4

-- that number, or a refusal; and how many leading components they share
abbrev pub compared_number : Result Comparison → ℤ
compared_number r = number_by (λ found. pos (relation_number found.relation)) r

abbrev pub compared_common : Result Comparison → ℕ
compared_common r = beside (λ found. found.common) r

-- a setting is on unless it is 0
abbrev pub is_on : ℕ → Bool
is_on n = not (eqb n 0)

-- what stands at a place of a list: 1 if an entry is there, else 0; its kind's number, where its path begins, and how many bytes the path has
abbrev pub listed_number : Option Listed → ℤ
listed_number (Some entry) = pos 1
listed_number None = pos 0

abbrev pub listed_kind : Option Listed → ℕ
listed_kind (Some entry) = kind_number entry.kind
listed_kind None = 0

abbrev pub listed_start : Option Listed → ℕ
listed_start (Some entry) = entry.at
listed_start None = 0

abbrev pub listed_size : Option Listed → ℕ
listed_size (Some entry) = entry.size
listed_size None = 0

-- an arrival: 0 applied, 1 a repeat, 2 early, 3 an image taken, or a refusal
abbrev pub arrived_number : Arrival → ℤ
arrived_number arrival.Applied = pos 0
arrived_number arrival.Repeat = pos 1
arrived_number arrival.Early = pos 2
arrived_number arrival.Taken = pos 3

abbrev pub arrival_number : Result Arrival → ℤ
arrival_number r = number_by arrived_number r

-- a report of what is owed: 0, or a refusal; and how much
abbrev pub owed_number : Result ℕ → ℤ
owed_number r = outcome_number r

abbrev pub owed_count : Result ℕ → ℕ
owed_count r = beside (λ k. k) r
