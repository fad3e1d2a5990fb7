-- The claims about permissions without a path, proved: a request never answers Prompt, and what a check passes stays passed until a revoke.
use Rattle.std.specs.Prelude.{Some, Ok, Err}
use Prim.Native.Nat.{ℕ}
use mathlib.Core.Path.{◌≡◌, refl, sym, ap, ◌∙◌}
use mathlib.Core.Bool.{Bool, false}
use Rattle.refusals.specs.Refusals.{Result, and_then}
use Rattle.walk.specs.declared.PermissionState.{PermissionState}
use Rattle.walk.specs.declared.PermissionState.TheVariants.{
  Granted,
  GrantedPartial,
  Prompt,
  Denied,
  DeniedPartial,
  Ignored,
}
use Rattle.walk.specs.Walk.{state_number, state_of, known_state}
use Rattle.deciding.specs.declared.PromptResponse.{PromptResponse}
use Rattle.deciding.specs.declared.PromptResponse.TheVariants.{Deny, Allow, AllowAll}
use Rattle.deciding.specs.declared.Call.{Call}
use Rattle.deciding.specs.declared.Call.TheVariants.{Check, Request}
use Rattle.deciding.specs.Decisions.{response_of, known_response}
use Rattle.unit.specs.declared.Decided.{Decided}
use Rattle.unit.specs.Unit.{request, decide}
use Rattle.unit.specs.Calls.{unit_call, answer_in, asked_in, state_after, AsksUnit}
use Rattle.unit.specs.Claims.{NeverPrompt, Unrevoked, start, next, StaysPassed}

-- ---- a request never answers Prompt

request-settles : (state : PermissionState) (prompt : Bool) (response : PromptResponse) → (request state prompt response).state ≡ Prompt → ⊥
request-settles Granted prompt response e = cc
request-settles GrantedPartial prompt response e = cc
request-settles Prompt prompt Deny e = cc
request-settles Prompt prompt Allow e = cc
request-settles Prompt prompt AllowAll e = cc
request-settles Denied prompt response e = cc
request-settles DeniedPartial prompt response e = cc
request-settles Ignored prompt response e = cc

settles : (found : Result PermissionState) (known : Result PromptResponse) (prompt : Bool)
    → answer_in (and_then found (λ state. and_then known (λ response. Ok (decide Request state prompt response)))) ≡ Ok Prompt → ⊥
unfolding answer_in and_then
settles (Err cause) known prompt e = cc
settles (Ok state) (Err cause) prompt e = cc
settles (Ok state) (Ok response) prompt e = request-settles state prompt response cc

pub never-prompt : NeverPrompt
unfolding unit_call
never-prompt s prompt response s' r A e = settles (known_state (state_of s)) (known_response (response_of response)) prompt (ap answer_in (sym A.answer) ∙ e)

-- ---- what a check passes stays passed

-- a call answers the state that it leaves
pub answer-left : (c : Result Decided) (s : ℕ) {state : PermissionState} → answer_in c ≡ Ok state → state_after c s ≡ state_number state
unfolding answer_in state_after
answer-left (Err cause) s e = cc
answer-left (Ok decided) s {state} e = let left : decided.state ≡ state = cc in ap state_number left

-- no check and no request leaves Granted for another state
still-granted : (call : Call) (prompt : Bool) (known : Result PromptResponse)
    → state_after (and_then known (λ response. Ok (decide call Granted prompt response))) 0 ≡ 0
unfolding state_after and_then
still-granted call prompt (Err cause) = refl
still-granted Check prompt (Ok response) = refl
still-granted Request prompt (Ok response) = refl

stays-granted : {call : Call} {s : ℕ} {prompt : Bool} {response s' : ℕ} {r : Result Decided} → AsksUnit call s prompt response s' r → s ≡ 0 → s' ≡ 0
unfolding unit_call and_then known_state state_of
stays-granted {call} {s} {prompt} {response} A e = let B = rw e at A in B.state ∙ still-granted call prompt (known_response (response_of response))

unrevoked-granted : {s later : ℕ} → Unrevoked s later → s ≡ 0 → later ≡ 0
unrevoked-granted start e = e
unrevoked-granted (next before call prompt response r A) e = stays-granted A (unrevoked-granted before e)

passes-granted : (prompt : Bool) (response : ℕ) {known : PromptResponse} → response_of response ≡ Some known
    → unit_call Check 0 prompt response ≡ Ok (record { state = Granted; asked = false })
unfolding unit_call and_then known_state state_of known_response
passes-granted prompt response k = rw k

pub stays-passed : StaysPassed
unfolding answer_in asked_in
stays-passed s prompt response s' r A passed later calls prompt₂ response₂ s'' r₂ B known k =
    let granted = A.state ∙ answer-left _ s (ap answer_in (sym A.answer) ∙ passed) in
    let C = rw (unrevoked-granted calls granted) at B in
    let c = C.answer ∙ passes-granted prompt₂ response₂ k in
    (ap answer_in c, ap asked_in c)
