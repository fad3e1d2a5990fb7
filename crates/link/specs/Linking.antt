-- The link in a call's checking order: the record space (2) and the run number (3) of a linked call, the numbers that its acts take, and causes 8 and 9.
-- A plain call passes 2, 3 and 9. Scope, "A call comes in".
use Rattle.std.specs.Prelude.{ℕ, zero, suc, ◌+◌, ◌*◌, List, [], ◌∷◌, Bool, false, not, length, leb, ltb, Option, None, Some, Ok, Err}
use Rattle.refusals.specs.declared.Refusal.{Refusal}
use Rattle.refusals.specs.declared.Refusal.TheVariants.{NoSpace, Unknown, TableFull, NumbersUsedUp}
use Rattle.refusals.specs.Refusals.{when, first_cause, Result, unless}
use Rattle.table.specs.Tables.{Table}
use Rattle.table.specs.Acts.{Act, act_overflows}
use Rattle.records.specs.Numbers.{is_run, max_number, record_space}
use Rattle.link.specs.declared.Link.{Link}
use Rattle.link.specs.declared.Link.TheVariants.{Plain, Linked}

unfoldable pub at_least_one : ℕ → ℕ
at_least_one zero = 1
at_least_one (suc k) = suc k

-- a linked call has too few words: a record's space for each of its k items, and for one at least
unfoldable pub lacks_room : ℕ → Link → List ℕ → Bool
lacks_room k Plain w = false
lacks_room k (Linked run) w = ltb (length w) (record_space * at_least_one k)

-- 2: the record space w
unfoldable pub room_in : ℕ → Link → List ℕ → Result (List ℕ)
room_in k link w = unless (first_cause (when (lacks_room k link w) NoSpace ∷ [])) w

-- how acts are numbered: a plain call's are not, and a linked one's go on from the number lent
pub data Numbering : Type 0 where
  unnumbered : Numbering
  after : ℕ → Numbering

unfoldable pub numbering : Link → ℕ → Numbering
numbering Plain n = unnumbered
numbering (Linked run) n = after n

-- a linked call is handed a number that is no run's
unfoldable pub lacks_run : Link → Bool
lacks_run Plain = false
lacks_run (Linked run) = not (is_run run)

-- 3: the run number; what is handed on is how acts are numbered, with the number n lent
unfoldable pub run_in : Link → ℕ → Result Numbering
run_in link n = unless (first_cause (when (lacks_run link) Unknown ∷ [])) (numbering link n)

-- 2 and 3 in their order, of a call of k items
unfoldable pub admit : ℕ → Link → List ℕ → Result Unit
admit k link w = unless (first_cause (when (lacks_room k link w) NoSpace ∷ when (lacks_run link) Unknown ∷ [])) tt

-- a recorded act needs a number above the greatest
unfoldable pub used_up : Numbering → Bool
used_up unnumbered = false
used_up (after n) = leb max_number n

-- the numbering after acts
unfoldable pub past : Numbering → List Act → Numbering
past unnumbered acts = unnumbered
past (after n) acts = after (n + length acts)

-- 8 and 9: why an act on the table t is refused, if it is; with no act there is no cause
unfoldable pub carry_cause : Numbering → Table → Option Act → Option Refusal
carry_cause numbers t None = None
carry_cause numbers t (Some act) = first_cause (when (act_overflows t act) TableFull ∷ when (used_up numbers) NumbersUsedUp ∷ [])

-- the act, unless it is refused
unfoldable pub carried : Numbering → Table → Act → Result Act
carried numbers t act = unless (carry_cause numbers t (Some act)) act

-- the acts of a call that makes one unless it is refused
unfoldable pub single_act : Result Act → List Act
single_act (Err cause) = []
single_act (Ok act) = act ∷ []
