-- What check, request and revoke decide, from the table, what is asked about and the operator's answer. Scope, "A call comes in".
-- A decision changes nothing: the act in it, if there is one, is still to be carried out.
use Rattle.std.specs.Prelude.{ℕ, zero, suc, Bool, true, false, cond, Option, None, Some, Ok, Err}
use Rattle.refusals.specs.declared.Refusal.TheVariants as refusal
use Rattle.refusals.specs.Refusals.{Result}
use Rattle.paths.specs.Giving.{Query, no_path, path}
use Rattle.table.specs.declared.Kind.TheVariants.{G, P}
use Rattle.table.specs.Tables.{Table, has, set_bit, granted, prompt_denied, prompt}
use Rattle.table.specs.Acts.{Act, insert, set_switches, revoke, revoke_all, apply_act}
use Rattle.walk.specs.declared.PermissionState.{PermissionState}
use Rattle.walk.specs.declared.PermissionState.TheVariants.{
  Granted,
  GrantedPartial,
  Prompt,
  Denied,
  DeniedPartial,
  Ignored,
}
use Rattle.walk.specs.declared.AllowPartial.{AllowPartial}
use Rattle.walk.specs.declared.AllowPartial.TheVariants.{TreatAsDenied, TreatAsPartialGranted, TreatAsGranted}
use Rattle.walk.specs.Walk.{query_desc, is_allow_all}
use Rattle.deciding.specs.declared.PromptResponse.{PromptResponse}
use Rattle.deciding.specs.declared.PromptResponse.TheVariants.{Deny, Allow, AllowAll}
use Rattle.deciding.specs.declared.Call.{Call}
use Rattle.deciding.specs.declared.Call.TheVariants.{Check, Request}

-- ---- the operator's answer: 0 Deny, 1 Allow, 2 AllowAll

abbrev pub response_number : PromptResponse → ℕ
response_number Deny = 0
response_number Allow = 1
response_number AllowAll = 2

-- the answer that a number names; none has a number above 2
unfoldable pub response_of : ℕ → Option PromptResponse
response_of zero = Some Deny
response_of (suc zero) = Some Allow
response_of (suc (suc zero)) = Some AllowAll
response_of (suc (suc (suc n))) = None

-- 3 where it names none
unfoldable pub known_response : Option PromptResponse → Result PromptResponse
known_response (Some response) = Ok response
known_response None = Err refusal.Unknown

-- ---- acts

-- the switch is set, and the others stay
unfoldable pub switch_on : Table → ℕ → Act
switch_on t bit = set_switches (set_bit t.switches bit)

-- a yes inserts G; with no path it sets switch 1
unfoldable pub grant_act : Table → Query → Act
grant_act t no_path = switch_on t granted
grant_act t (path q) = insert (record { kind = G; path = q })

-- a no inserts P; with no path it sets switch 8
unfoldable pub deny_act : Table → Query → Act
deny_act t no_path = switch_on t prompt_denied
deny_act t (path q) = insert (record { kind = P; path = q })

-- Allow is a yes, AllowAll sets switch 1, Deny is a no
unfoldable pub answer_act : Table → Query → PromptResponse → Act
answer_act t q Allow = grant_act t q
answer_act t q AllowAll = switch_on t granted
answer_act t q Deny = deny_act t q

-- ---- decisions

-- the state that a call comes to, Granted where a check passes and else what it fails with; whether the operator was asked; whether a text is
-- due; and the act
pub record Decision : Type 0 where
  pub state : PermissionState
  pub asked : Bool
  pub writes : Bool
  pub act : Option Act

-- a check passes where it comes to Granted
unfoldable pub passes : PermissionState → Bool
passes Granted = true
passes GrantedPartial = false
passes Prompt = false
passes Denied = false
passes DeniedPartial = false
passes Ignored = false

-- nobody is asked, and nothing is done
unfoldable pub unasked : PermissionState → Bool → Decision
unasked state writes = record { state = state; asked = false; writes = writes; act = None }

-- either yes passes; Deny fails with Denied
unfoldable pub state_by : PromptResponse → PermissionState
state_by Allow = Granted
state_by AllowAll = Granted
state_by Deny = Denied

-- the operator is asked, and a text is written
unfoldable pub asks : Table → Query → PromptResponse → Decision
asks t q response = record { state = state_by response; asked = true; writes = true; act = Some (answer_act t q response) }

-- ---- check

-- with a path the mode is denied, with none (`check_all_api`) granted
unfoldable pub check_mode : Query → AllowPartial
check_mode no_path = TreatAsGranted
check_mode (path q) = TreatAsDenied

-- Granted passes; Prompt with switch 16 asks; else it fails with the state, and a text is written
unfoldable pub check_by : Table → Query → PromptResponse → PermissionState → Decision
check_by t q response Granted = unasked Granted false
check_by t q response GrantedPartial = unasked GrantedPartial true
check_by t q response Prompt = cond (has t.switches prompt) (asks t q response) (unasked Prompt true)
check_by t q response Denied = unasked Denied true
check_by t q response DeniedPartial = unasked DeniedPartial true
check_by t q response Ignored = unasked Ignored true

-- a check passes without a walk where every query is granted
unfoldable pub check_desc : Table → Query → PromptResponse → Decision
check_desc t q response = cond (is_allow_all t) (unasked Granted false) (check_by t q response (query_desc t (check_mode q) q))

-- ---- request

-- Granted inserts G; Prompt without switch 16 returns Denied, and with it asks; any other state is returned as it is
unfoldable pub request_by : Table → Query → PromptResponse → PermissionState → Decision
request_by t q response Granted = record { state = Granted; asked = false; writes = false; act = Some (grant_act t q) }
request_by t q response GrantedPartial = unasked GrantedPartial false
request_by t q response Prompt = cond (has t.switches prompt) (asks t q response) (unasked Denied false)
request_by t q response Denied = unasked Denied false
request_by t q response DeniedPartial = unasked DeniedPartial false
request_by t q response Ignored = unasked Ignored false

-- a request queries in mode partial
unfoldable pub request_desc : Table → Query → PromptResponse → Decision
request_desc t q response = request_by t q response (query_desc t TreatAsPartialGranted q)

-- ---- either

unfoldable pub decide : Call → Table → Query → PromptResponse → Decision
decide Check t q response = check_desc t q response
decide Request t q response = request_desc t q response

-- ---- revoke

-- the act of a revoke: of a path, or of all
unfoldable pub revoke_act : Query → Act
revoke_act no_path = revoke_all
revoke_act (path q) = revoke q

-- it comes to the query in mode partial after the act
unfoldable pub revoke_desc : Table → Query → Decision
revoke_desc t q = record {
  state = query_desc (apply_act t (revoke_act q)) TreatAsPartialGranted q;
  asked = false;
  writes = false;
  act = Some (revoke_act q);
}
