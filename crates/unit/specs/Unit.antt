-- A permission without a path, the Rust's `UnitPermission`: what request, check and revoke make of its state and its prompt setting. Scope, "Permissions
-- without a path". Every call answers the state that it leaves; a check passes where that is Granted, and else fails with it.
use Rattle.std.specs.Prelude.{Bool, true, false}
use Rattle.walk.specs.declared.PermissionState.{PermissionState}
use Rattle.walk.specs.declared.PermissionState.TheVariants.{
  Granted,
  GrantedPartial,
  Prompt,
  Denied,
  DeniedPartial,
  Ignored,
}
use Rattle.deciding.specs.declared.PromptResponse.{PromptResponse}
use Rattle.deciding.specs.declared.PromptResponse.TheVariants.{Deny, Allow, AllowAll}
use Rattle.deciding.specs.declared.Call.{Call}
use Rattle.deciding.specs.declared.Call.TheVariants.{Check, Request}
use Rattle.deciding.specs.Decisions.{state_by}
use Rattle.unit.specs.declared.Decided.{Decided}

-- where a call asks, the answer settles the state; else it stays
abbrev pub settle : Bool → PermissionState → PermissionState → Decided
settle true answered state = record { state = answered; asked = true }
settle false answered state = record { state = state; asked = false }

-- ---- request

-- it asks at Prompt, whatever the setting
abbrev pub request_asks : PermissionState → Bool → Bool
request_asks Granted prompt = false
request_asks GrantedPartial prompt = false
request_asks Prompt prompt = true
request_asks Denied prompt = false
request_asks DeniedPartial prompt = false
request_asks Ignored prompt = false

-- Allow is a yes; AllowAll counts as Deny
abbrev pub request_state_by : PromptResponse → PermissionState
request_state_by Allow = Granted
request_state_by AllowAll = Denied
request_state_by Deny = Denied

-- it returns the state that it leaves: where it does not ask, the one that it found
abbrev pub request : PermissionState → Bool → PromptResponse → Decided
request state prompt response = settle (request_asks state prompt) (request_state_by response) state

-- ---- check

-- it asks at Prompt with the setting
abbrev pub check_asks : PermissionState → Bool → Bool
check_asks Granted prompt = false
check_asks GrantedPartial prompt = false
check_asks Prompt prompt = prompt
check_asks Denied prompt = false
check_asks DeniedPartial prompt = false
check_asks Ignored prompt = false

-- either yes passes (`state_by`); where it does not ask, Granted passes, and it fails with any other state
abbrev pub check : PermissionState → Bool → PromptResponse → Decided
check state prompt response = settle (check_asks state prompt) (state_by response) state

-- ---- either

abbrev pub decide : Call → PermissionState → Bool → PromptResponse → Decided
decide Check state prompt response = check state prompt response
decide Request state prompt response = request state prompt response

-- ---- revoke

-- Granted becomes Prompt; any other state stays
abbrev pub revoke : PermissionState → PermissionState
revoke Granted = Prompt
revoke GrantedPartial = GrantedPartial
revoke Prompt = Prompt
revoke Denied = Denied
revoke DeniedPartial = DeniedPartial
revoke Ignored = Ignored
