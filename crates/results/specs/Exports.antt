-- The calls as the C program makes them: each keeps the promise of its call, and the numbers that C gets are those of what it answers. Lent numbers are
-- always written. m and s are the lent memory and the lent text space, m' and s' the same after the call; r is the result.
use Rattle.std.specs.Prelude.{ℕ, ◌≡◌, List, ℤ, pos, length, Option, None, Ok, Err}
use Rattle.refusals.specs.Refusals.{Result}
use Rattle.paths.specs.declared.Descriptor.{Descriptor}
use Rattle.paths.specs.declared.Comparison.{Comparison}
use Rattle.paths.specs.Comparing.{compare_call}
use Rattle.table.specs.declared.Listed.{Listed}
use Rattle.table.specs.Tables.{Table}
use Rattle.table.specs.Listing.{used_bytes, listed}
use Rattle.table.specs.Calls.{table_in, MakesFresh}
use Rattle.walk.specs.declared.PermissionState.{PermissionState}
use Rattle.walk.specs.Calls.{query_call}
use Rattle.deciding.specs.declared.Call.{Call}
use Rattle.deciding.specs.Questions.{Questions}
use Rattle.calls.specs.declared.Asked.{Asked}
use Rattle.calls.specs.declared.Revoked.{Revoked}
use Rattle.calls.specs.Calls as calls
use Rattle.unit.specs.declared.Decided.{Decided}
use Rattle.unit.specs.Calls.{answer_in, asked_in, AsksUnit, RevokesUnit}
use Rattle.child.specs.declared.ChildSent.{ChildSent}
use Rattle.link.specs.Sending.{sent_words}
use Rattle.link.specs.declared.ImageSent.{ImageSent}
use Rattle.link.specs.Beginning.{BeginsRun}
use Rattle.link.specs.Imaging.{WritesImage}
use Rattle.standby.specs.declared.Arrival.{Arrival}
use Rattle.standby.specs.declared.Numbers.{Numbers}
use Rattle.standby.specs.Arriving.{Arrives}
use Rattle.standby.specs.Loading.{Loads}
use Rattle.standby.specs.Owing.{Owes}
use Rattle.results.specs.Numbers.{
  number_by,
  beside,
  outcome_number,
  answer_number,
  asked_number,
  is_on,
  question_number,
  question_size,
  compared_number,
  compared_common,
  listed_number,
  listed_kind,
  listed_start,
  listed_size,
  arrival_number,
  owed_number,
  owed_count,
}

-- ---- calls with one result

-- a call keeps its promise, and r is the number of what it answers
pub record Exported (A : Type 0) (number_of : A → ℤ) (Promise : A → Type 0) (r : ℤ) : Type 0 where
  pub answered : A
  pub promise : Promise answered
  pub number : r ≡ number_of answered

abbrev pub ExportedFresh : List ℕ → List ℕ → ℤ → Type 0
ExportedFresh m m' r = Exported (Result Unit) outcome_number (MakesFresh m m') r

abbrev pub ExportedQuery : List ℕ → ℕ → Descriptor → List ℕ → List ℕ → ℤ → Type 0
ExportedQuery m mode d p cwd r = Exported (Result PermissionState) answer_number (λ a. a ≡ query_call m mode d p cwd) r

-- ---- calls with more than one: k words hold records, none of them after a plain call

-- an insert, or switches set
pub record ExportedSent (Promise : Result ℕ → Type 0) (k : ℕ) (r : ℤ) : Type 0 where
  pub answered : Result ℕ
  pub promise : Promise answered
  pub number : r ≡ outcome_number answered
  pub words : k ≡ sent_words answered

-- whether the operator was asked, and the text's size
pub record ExportedAsk (Promise : Result Asked → Type 0) (told size k : ℕ) (r : ℤ) : Type 0 where
  pub answered : Result Asked
  pub promise : Promise answered
  pub number : r ≡ answer_number (calls.answered answered)
  pub asked : told ≡ asked_number (calls.told answered)
  pub text : size ≡ calls.text_size answered
  pub words : k ≡ calls.words_in answered

-- the state afterwards
pub record ExportedRevoke (Promise : Result Revoked → Type 0) (k : ℕ) (r : ℤ) : Type 0 where
  pub answered : Result Revoked
  pub promise : Promise answered
  pub number : r ≡ answer_number (calls.revoked_answer answered)
  pub words : k ≡ calls.revoked_words answered

-- how often the operator was asked
pub record ExportedChild (Promise : ChildSent → Type 0) (told k : ℕ) (r : ℤ) : Type 0 where
  pub answered : ChildSent
  pub promise : Promise answered
  pub number : r ≡ outcome_number answered.made.outcome
  pub asked : told ≡ answered.made.asked
  pub words : k ≡ answered.words

-- the size of the question
pub record ExportedQuestion (call : Call) (m s : List ℕ) (d : Descriptor) (p cwd s' : List ℕ) (size : ℕ) (r : ℤ) : Type 0 where
  pub answered : Result (Option ℕ)
  pub promise : Questions call m s d p cwd s' answered
  pub number : r ≡ question_number answered
  pub text : size ≡ question_size answered

-- how many leading components two paths share
pub record ExportedComparison (p q cwd : List ℕ) (common : ℕ) (r : ℤ) : Type 0 where
  pub answered : Result Comparison
  pub promise : answered ≡ compare_call p q cwd
  pub number : r ≡ compared_number answered
  pub shared : common ≡ compared_common answered

-- ---- a permission without a path: s and s' are the number of its state before and after the call

-- whether the operator was asked
pub record ExportedUnit (call : Call) (s prompt response s' told : ℕ) (r : ℤ) : Type 0 where
  pub answered : Result Decided
  pub promise : AsksUnit call s (is_on prompt) response s' answered
  pub number : r ≡ answer_number (answer_in answered)
  pub asked : told ≡ asked_number (asked_in answered)

abbrev pub ExportedUnitRevoke : ℕ → ℕ → ℤ → Type 0
ExportedUnitRevoke s s' r = Exported (Result PermissionState) answer_number (RevokesUnit s s') r

-- ---- reading a table: 1, and then what it has

-- the bytes that it takes
abbrev pub used_in : Result Table → ℤ
used_in r = number_by (λ t. pos (used_bytes t)) r

abbrev pub ExportedUsed : List ℕ → ℤ → Type 0
ExportedUsed m r = r ≡ used_in (table_in m)

-- a number of the table, or 0 where there is none
abbrev pub number_in : (Table → ℕ) → Result Table → ℕ
number_in of r = beside of r

abbrev pub read_in : Result Table → ℤ
read_in r = outcome_number r

pub record ExportedHead (m : List ℕ) (count switches marks : ℕ) (r : ℤ) : Type 0 where
  pub number : r ≡ read_in (table_in m)
  pub entries : count ≡ number_in (λ t. length t.entries) (table_in m)
  pub set : switches ≡ number_in (λ t. t.switches) (table_in m)
  pub marked : marks ≡ number_in (λ t. t.marks) (table_in m)

-- what stands at a place of the list
pub record TellsListed (p : Option Listed) (kind at size : ℕ) (r : ℤ) : Type 0 where
  pub number : r ≡ listed_number p
  pub kind-is : kind ≡ listed_kind p
  pub start : at ≡ listed_start p
  pub long : size ≡ listed_size p

unfoldable pub listed_in : Result Table → Option Listed → Option Listed
listed_in (Err cause) p = None
listed_in (Ok t) p = p

abbrev pub listed_number_in : Result Table → Option Listed → ℤ
listed_number_in r p = number_by (λ t. listed_number p) r

pub record ExportedEntry (m : List ℕ) (place kind at size : ℕ) (r : ℤ) : Type 0 where
  pub number : r ≡ listed_number_in (table_in m) (listed m place)
  pub kind-is : kind ≡ listed_kind (listed_in (table_in m) (listed m place))
  pub start : at ≡ listed_start (listed_in (table_in m) (listed m place))
  pub long : size ≡ listed_size (listed_in (table_in m) (listed m place))

-- ---- the main: n and w are its number and the record space, n' and w' the same after the call

-- a run begins
abbrev pub ExportedBegin : List ℕ → ℕ → ℕ → List ℕ → ℕ → ℤ → Type 0
ExportedBegin m run n m' n' r = Exported (Result Unit) outcome_number (BeginsRun m run n m' n') r

-- the image: memory and number stay, and k words are what it takes
pub record ExportedImage (m : List ℕ) (run n : ℕ) (w w' : List ℕ) (k : ℕ) (r : ℤ) : Type 0 where
  pub answered : ImageSent
  pub promise : WritesImage m run n w w' answered
  pub number : r ≡ outcome_number answered.outcome
  pub words : k ≡ answered.words

-- ---- the standby: s and s' are its numbers before and after the arrival

-- the numbers as C lends them, one by one
abbrev pub numbers_of : ℕ → ℕ → ℕ → ℕ → Numbers
numbers_of n h run highest = record { n = n; h = h; run = run; highest = highest }

abbrev pub ExportedArrive : List ℕ → List ℕ → Numbers → List ℕ → Numbers → ℤ → Type 0
ExportedArrive m words s m' s' r = Exported (Result Arrival) arrival_number (Arrives m words s m' s') r

abbrev pub ExportedArriveImage : List ℕ → List ℕ → Numbers → List ℕ → Numbers → ℤ → Type 0
ExportedArriveImage m words s m' s' r = Exported (Result Arrival) arrival_number (Loads m words s m' s') r

-- how much is owed
pub record ExportedOwed (s : Numbers) (k : ℕ) (r : ℤ) : Type 0 where
  pub answered : Result ℕ
  pub promise : Owes s answered
  pub number : r ≡ owed_number answered
  pub count : k ≡ owed_count answered
