-- The act that a call decides on has the resolved path, so that its action with that path beside it is the act.
use Rattle.std.specs.Prelude.{Option, None, Some}
use Prim.Native.Nat.{ℕ}
use mathlib.Core.Path.{◌≡◌, refl}
use mathlib.Core.List.{List}
use mathlib.Core.Bool.{Bool, true, false, cond}
use Rattle.paths.specs.declared.Descriptor.{Descriptor}
use Rattle.paths.specs.declared.Descriptor.TheVariants.{NoPath, Path}
use Rattle.paths.specs.Giving.{query_of}
use Rattle.table.specs.Tables.{Table, has, prompt}
use Rattle.table.specs.Acts.{Act}
use Rattle.table.specs.Carrying.{act_of, action_of}
use Rattle.walk.specs.declared.PermissionState.{PermissionState}
use Rattle.walk.specs.declared.PermissionState.TheVariants as state
use Rattle.walk.specs.declared.AllowPartial.TheVariants.{TreatAsPartialGranted}
use Rattle.walk.specs.Walk.{query_desc, is_allow_all}
use Rattle.deciding.specs.declared.PromptResponse.{PromptResponse}
use Rattle.deciding.specs.declared.PromptResponse.TheVariants.{Deny, Allow, AllowAll}
use Rattle.deciding.specs.declared.Call.{Call}
use Rattle.deciding.specs.declared.Call.TheVariants.{Check, Request}
use Rattle.deciding.specs.Decisions.{
  switch_on,
  grant_act,
  deny_act,
  answer_act,
  Decision,
  unasked,
  asks,
  check_mode,
  check_by,
  check_desc,
  request_by,
  request_desc,
  decide,
}
use Rattle.deciding.specs.Decisions.{revoke_act}

-- the act, if there is one, is its action with the path q
abbrev OfPath : List ℕ → Option Act → Type 0
OfPath q act = act_of (action_of act) q ≡ act

module _ (t : Table) (q : List ℕ) where
  grant-of : (d : Descriptor) → OfPath q (Some (grant_act t (query_of d q)))
  unfolding grant_act query_of switch_on act_of action_of
  grant-of NoPath = refl
  grant-of Path = refl

  deny-of : (d : Descriptor) → OfPath q (Some (deny_act t (query_of d q)))
  unfolding deny_act query_of switch_on act_of action_of
  deny-of NoPath = refl
  deny-of Path = refl

  answer-of : (d : Descriptor) (response : PromptResponse) → OfPath q (Some (answer_act t (query_of d q) response))
  unfolding answer_act switch_on act_of action_of
  answer-of d Deny = deny-of d
  answer-of d Allow = grant-of d
  answer-of d AllowAll = refl

  cond_of : (b : Bool) (x y : Decision) → OfPath q x.act → OfPath q y.act → OfPath q (cond b x y).act
  cond_of true x y f g = f
  cond_of false x y f g = g

  none_of : OfPath q None
  unfolding act_of action_of
  none_of = refl

  prompt-of : (b : Bool) (d : Descriptor) (response : PromptResponse) (s : PermissionState) (writes : Bool)
      → OfPath q (cond b (asks t (query_of d q) response) (unasked s writes)).act
  unfolding asks unasked
  prompt-of b d response s writes = cond_of b _ _ (answer-of d response) none_of

  check-of : (d : Descriptor) (response : PromptResponse) (s : PermissionState) → OfPath q (check_by t (query_of d q) response s).act
  unfolding check_by unasked
  check-of d response state.Granted = none_of
  check-of d response state.GrantedPartial = none_of
  check-of d response state.Prompt = prompt-of (has t.switches prompt) d response _ _
  check-of d response state.Denied = none_of
  check-of d response state.DeniedPartial = none_of
  check-of d response state.Ignored = none_of

  request-of : (d : Descriptor) (response : PromptResponse) (s : PermissionState) → OfPath q (request_by t (query_of d q) response s).act
  unfolding request_by unasked
  request-of d response state.Granted = grant-of d
  request-of d response state.GrantedPartial = none_of
  request-of d response state.Prompt = prompt-of (has t.switches prompt) d response _ _
  request-of d response state.Denied = none_of
  request-of d response state.DeniedPartial = none_of
  request-of d response state.Ignored = none_of

  pub decided-of : (call : Call) (d : Descriptor) (response : PromptResponse) → OfPath q (decide call t (query_of d q) response).act
  unfolding decide check_desc request_desc unasked
  decided-of Check d response = cond_of (is_allow_all t) _ _ none_of (check-of d response (query_desc t (check_mode (query_of d q)) (query_of d q)))
  decided-of Request d response = request-of d response (query_desc t TreatAsPartialGranted (query_of d q))

pub revoke-of : (q : List ℕ) (d : Descriptor) → OfPath q (Some (revoke_act (query_of d q)))
unfolding revoke_act query_of act_of action_of
revoke-of q NoPath = refl
revoke-of q Path = refl
