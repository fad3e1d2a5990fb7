-- The calls on a permission without a path: for each its checking order, its answer, and the lent number of the state after it. Scope, "Permissions
-- without a path".
use Rattle.std.specs.Prelude.{ℕ, ◌≡◌, Bool, false, Ok, Err}
use Rattle.refusals.specs.Refusals.{Result, and_then}
use Rattle.walk.specs.declared.PermissionState.{PermissionState}
use Rattle.walk.specs.Walk.{state_number, state_of, known_state}
use Rattle.deciding.specs.declared.Call.{Call}
use Rattle.deciding.specs.Decisions.{response_of, known_response}
use Rattle.unit.specs.declared.Decided.{Decided}
use Rattle.unit.specs.Unit.{decide, revoke}

-- ---- what a call comes to, on the state of number s

-- check and request: 12, then 3, which comes also where nobody would be asked
unfoldable pub unit_call : Call → ℕ → Bool → ℕ → Result Decided
unit_call call s prompt response =
    and_then (known_state (state_of s)) (λ state.
    and_then (known_response (response_of response)) (λ known.
    Ok (decide call state prompt known)))

-- revoke: 12; nobody is asked
unfoldable pub revoke_unit_call : ℕ → Result Decided
revoke_unit_call s =
    and_then (known_state (state_of s)) (λ state.
    Ok (record { state = revoke state; asked = false }))

-- ---- what it answers, and the number s' of the state after it; a refused call leaves the number as it was

unfoldable pub answer_in : Result Decided → Result PermissionState
answer_in (Err cause) = Err cause
answer_in (Ok decided) = Ok decided.state

unfoldable pub asked_in : Result Decided → Bool
asked_in (Err cause) = false
asked_in (Ok decided) = decided.asked

unfoldable pub state_after : Result Decided → ℕ → ℕ
state_after (Err cause) s = s
state_after (Ok decided) s = state_number decided.state

pub record AsksUnit (call : Call) (s : ℕ) (prompt : Bool) (response s' : ℕ) (r : Result Decided) : Type 0 where
  pub answer : r ≡ unit_call call s prompt response
  pub state : s' ≡ state_after (unit_call call s prompt response) s

pub record RevokesUnit (s s' : ℕ) (r : Result PermissionState) : Type 0 where
  pub answer : r ≡ answer_in (revoke_unit_call s)
  pub state : s' ≡ state_after (revoke_unit_call s) s
