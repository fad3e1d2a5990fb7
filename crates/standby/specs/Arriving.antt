-- The arrival of a record at the standby: its checking order, its answer, and every lent byte and number after it. Scope, "Handover, at the top", "A call comes
-- in" (for a record 11 comes after 1, and 8 last, only at number n + 1), and "A main that starts over".
use Rattle.std.specs.Prelude.{ℕ, ◌+◌, ◌≡◌, List, [], ◌∷◌, Bool, ◌&&◌, ◌||◌, not, cond, leb, ltb, eqb, Option, None, Some, Ok, Err}
use Rattle.refusals.specs.declared.Refusal.TheVariants.{NoTable, MalformedRecord}
use Rattle.refusals.specs.Refusals.{when, first_cause, Result, and_then, unless}
use Rattle.table.specs.Tables.{Table, fresh}
use Rattle.table.specs.Acts.{Act}
use Rattle.table.specs.Memory.{table_of, holds, put, do_act}
use Rattle.table.specs.Calls.{with_room}
use Rattle.records.specs.Records.{Change, read_change}
use Rattle.standby.specs.declared.Numbers.{Numbers}
use Rattle.standby.specs.declared.Arrival.{Arrival}
use Rattle.standby.specs.declared.Arrival.TheVariants.{Applied, Repeat, Early}
use Rattle.standby.specs.declared.Arrived.{Arrived}

-- ---- the checking order

-- numbers that no standby has: a run above the highest run met, or n above h while the standby is in that highest run
unfoldable pub conflict : Numbers → Bool
conflict s = ltb s.highest s.run || (eqb s.run s.highest && ltb s.h s.n)

-- 1: the table that the lent memory holds
unfoldable pub standby_in : List ℕ → Numbers → Result Table
standby_in m s = unless (first_cause (when (not (holds m)) NoTable ∷ when (conflict s) NoTable ∷ [])) (table_of m)

-- 11: the change that the lent words are
unfoldable pub well_formed : Option Change → Result Change
well_formed None = Err MalformedRecord
well_formed (Some c) = Ok c

-- ---- what was met: it follows every record and image that is not refused

unfoldable pub higher : ℕ → ℕ → ℕ
higher h number = cond (ltb h number) number h

-- number k of run q: h is the highest number met in the highest run met, and starts anew with a higher run
unfoldable pub met : Numbers → ℕ → ℕ → Numbers
met s q k =
    cond (ltb s.highest q) (record { n = s.n; h = k; run = s.run; highest = q })
    (cond (eqb s.highest q) (record { n = s.n; h = higher s.h k; run = s.run; highest = s.highest }) s)

-- ---- what an arrival leaves

-- its answer, and the memory and the numbers afterwards
pub record Left : Type 0 where
  pub answer : Result Arrival
  pub memory : List ℕ
  pub numbers : Numbers

-- no entry is touched
abbrev pub stays : Arrival → List ℕ → Numbers → Left
stays arrival m s = record { answer = Ok arrival; memory = m; numbers = s }

-- the act is done, as the change after n
abbrev pub applies : List ℕ → Numbers → Act → Left
applies m s act = record { answer = Ok Applied; memory = do_act m act; numbers = record { n = s.n + 1; h = s.h; run = s.run; highest = s.highest } }

-- number n + 1 of the standby's run is applied, unless its act has no room (8)
unfoldable pub applied : Table → List ℕ → Numbers → Change → Result Left
applied t m s c = and_then (with_room t c.act) (λ act. Ok (applies m s act))

-- a change of the standby's run: n or below answers Repeat, above n + 1 Early
unfoldable pub in_run : Table → List ℕ → Numbers → Change → Result Left
in_run t m s c =
    cond (leb c.number s.n) (Ok (stays Repeat m s))
    (cond (eqb c.number (s.n + 1)) (applied t m s c) (Ok (stays Early m s)))

-- the standby moves to the run of a change 1, first clearing its table and n. A fresh table has room for every act, so there is no 8: `fresh-room`
abbrev pub moves : List ℕ → Numbers → Change → Left
moves m s c = record { answer = Ok Applied; memory = do_act (put fresh m) c.act; numbers = record { n = 1; h = s.h; run = c.run; highest = s.highest } }

-- a change of a higher run: change 1 moves the standby, and any other answers Early
unfoldable pub moved : List ℕ → Numbers → Change → Left
moved m s c = cond (eqb c.number 1) (moves m s c) (stays Early m s)

-- t is the table in memory m, and s are the numbers once the change is met; a change of a lower run answers Repeat
unfoldable pub taken : Table → List ℕ → Numbers → Change → Result Left
taken t m s c =
    cond (ltb c.run s.run) (Ok (stays Repeat m s))
    (cond (ltb s.run c.run) (Ok (moved m s c)) (in_run t m s c))

-- ---- the arrival

-- m is the standby's memory, s its numbers
unfoldable pub arrival : List ℕ → List ℕ → Numbers → Result Left
arrival m words s = and_then (standby_in m s) (λ t. and_then (well_formed (read_change words)) (λ c. taken t m (met s c.run c.number) c))

-- a refused arrival leaves memory m and the numbers s
unfoldable pub left_by : Result Left → List ℕ → Numbers → Left
left_by (Err cause) m s = record { answer = Err cause; memory = m; numbers = s }
left_by (Ok r) m s = r

-- memory m and the numbers s become m' and s'
pub record Comes (call : Result Left) (m : List ℕ) (s : Numbers) (m' : List ℕ) (s' : Numbers) (r : Result Arrival) : Type 0 where
  pub answer : r ≡ (left_by call m s).answer
  pub memory : m' ≡ (left_by call m s).memory
  pub numbers : s' ≡ (left_by call m s).numbers

abbrev pub Arrives : List ℕ → List ℕ → Numbers → List ℕ → Numbers → Result Arrival → Type 0
Arrives m words s m' s' r = Comes (arrival m words s) m s m' s' r

-- ---- an answer that has the numbers beside it: they stay where it is refused

abbrev pub numbers_in : Numbers → Result Arrived → Numbers
numbers_in before (Ok a) = a.numbers
numbers_in before (Err cause) = before

abbrev pub arrival_in : Result Arrived → Result Arrival
arrival_in (Ok a) = Ok a.arrival
arrival_in (Err cause) = Err cause
