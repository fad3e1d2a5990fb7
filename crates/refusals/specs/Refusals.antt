-- The causes of a refusal with their numbers, and the checking order. Scope, "A call comes in".
use Rattle.std.specs.Prelude.{ℕ, List, [], ◌∷◌, Bool, cond, Option, None, Some, Ok, Err}
use Rattle.std.specs.declared.result.Result as result
use Rattle.refusals.specs.declared.Refusal.{Refusal}
use Rattle.refusals.specs.declared.Refusal.TheVariants.{
  NoTable,
  NoSpace,
  UnknownState,
  Unknown,
  EmptyPath,
  PathTooLong,
  BadDirectory,
  ResolvedTooLong,
  TableFull,
  NumbersUsedUp,
  Escalation,
  MalformedRecord,
  MalformedImage,
}

-- in the checking order, in which 12 stands between 2 and 3, and 13 in the place of 11
abbrev pub refusal_number : Refusal → ℕ
refusal_number NoTable = 1
refusal_number NoSpace = 2
refusal_number UnknownState = 12
refusal_number Unknown = 3
refusal_number EmptyPath = 4
refusal_number PathTooLong = 5
refusal_number BadDirectory = 6
refusal_number ResolvedTooLong = 7
refusal_number TableFull = 8
refusal_number NumbersUsedUp = 9
refusal_number Escalation = 10
refusal_number MalformedRecord = 11
refusal_number MalformedImage = 13

-- a condition, and the cause that it is of
pub data Condition : Type 0 where
  when : Bool → Refusal → Condition

-- ---- the checking order: each cause comes in exactly its condition, when the earlier ones don't hold

-- the first condition that holds
unfoldable pub first_cause : List Condition → Option Refusal
first_cause [] = None
first_cause (when holds cause ∷ conditions) = cond holds (Some cause) (first_cause conditions)

-- what a step of a call comes to, and what a call answers: it hands something on, or it is refused
abbrev pub Result : Type 0 → Type 0
Result A = result.Result A Refusal

-- the next step, with what this one hands on; a call that is refused goes no further
unfoldable pub and_then : {A B : Type 0} → Result A → (A → Result B) → Result B
and_then (Err cause) next = Err cause
and_then (Ok a) next = next a

-- a is handed on unless there is a cause
unfoldable pub unless : {A : Type 0} → Option Refusal → A → Result A
unless None a = Ok a
unless (Some cause) a = Err cause

-- why it is refused, if it is
unfoldable pub cause_of : {A : Type 0} → Result A → Option Refusal
cause_of (Err cause) = Some cause
cause_of (Ok a) = None
