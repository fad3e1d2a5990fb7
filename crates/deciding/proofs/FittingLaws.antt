-- What check, request and revoke decide on can be carried out and recorded, where a path that is asked about is in resolved form and within its limit.
use mathlib.Core.Path.{◌≡◌, refl}
use mathlib.Core.Bool.{true}
use native.Mathlib.Omega.{arith}
use borrow.Author.Tests.{le-leb}
use Rattle.paths.specs.Giving.{Query, no_path, path, is_query}
use Rattle.paths.proofs.ComponentLaws.{either}
use Rattle.table.specs.Tables.{Table, has, granted, prompt_denied, prompt, is_entry, is_table}
use Rattle.table.specs.Acts.{is_act}
use Rattle.table.specs.Carrying.{fits}
use Rattle.table.proofs.BitLaws.{set-limit}
use Rattle.table.proofs.TableLaws.{valid-parts}
use Rattle.walk.specs.declared.PermissionState.{PermissionState}
use Rattle.walk.specs.declared.PermissionState.TheVariants.{
  Granted,
  GrantedPartial,
  Prompt,
  Denied,
  DeniedPartial,
  Ignored,
}
use Rattle.walk.specs.Walk.{is_allow_all}
use Rattle.deciding.specs.declared.PromptResponse.{PromptResponse}
use Rattle.deciding.specs.declared.PromptResponse.TheVariants.{Deny, Allow, AllowAll}
use Rattle.deciding.specs.declared.Call.{Call}
use Rattle.deciding.specs.declared.Call.TheVariants.{Check, Request}
use Rattle.deciding.specs.Decisions.{
  switch_on,
  grant_act,
  deny_act,
  answer_act,
  Decision,
  unasked,
  asks,
  check_by,
  check_desc,
  request_by,
  request_desc,
  decide,
}
use Rattle.deciding.specs.Decisions.{revoke_act}

-- ---- each act

module _ (t : Table) (v : is_table t ≡ true) where
  granted-fits : is_act (switch_on t granted) ≡ true
  unfolding is_act switch_on
  granted-fits = le-leb _ _ (set-limit t.switches granted _ (valid-parts t v).switches (λ k. let h = (valid-parts t v).switches in omega arith))

  prompt-denied-fits : is_act (switch_on t prompt_denied) ≡ true
  unfolding is_act switch_on
  prompt-denied-fits = le-leb _ _ (set-limit t.switches prompt_denied _ (valid-parts t v).switches (λ k. let h = (valid-parts t v).switches in omega arith))

  pub grant-fits : (q : Query) → is_query q ≡ true → is_act (grant_act t q) ≡ true
  unfolding is_query
  grant-fits no_path e = unfold grant_act in granted-fits
  grant-fits (path q) e = unfold grant_act is_act is_entry in e

  deny-fits : (q : Query) → is_query q ≡ true → is_act (deny_act t q) ≡ true
  unfolding is_query
  deny-fits no_path e = unfold deny_act in prompt-denied-fits
  deny-fits (path q) e = unfold deny_act is_act is_entry in e

  answer-fits : (q : Query) → is_query q ≡ true → (response : PromptResponse) → is_act (answer_act t q response) ≡ true
  unfolding answer_act
  answer-fits q e Allow = grant-fits q e
  answer-fits q e AllowAll = granted-fits
  answer-fits q e Deny = deny-fits q e

pub revoke-fits : (q : Query) → is_query q ≡ true → is_act (revoke_act q) ≡ true
unfolding is_query revoke_act is_act
revoke-fits no_path e = refl
revoke-fits (path q) e = e

-- ---- each decision

abbrev Fits : Decision → Type 0
Fits decision = fits decision.act ≡ true

module _ (t : Table) (v : is_table t ≡ true) (q : Query) (e : is_query q ≡ true) (response : PromptResponse) where
  asks-fits : fits (asks t q response).act ≡ true
  unfolding asks fits
  asks-fits = answer-fits t v q e response

  checked-fits : (state : PermissionState) → fits (check_by t q response state).act ≡ true
  unfolding check_by unasked fits
  checked-fits Granted = refl
  checked-fits GrantedPartial = refl
  checked-fits Prompt = either Fits (has t.switches prompt) _ _ asks-fits refl
  checked-fits Denied = refl
  checked-fits DeniedPartial = refl
  checked-fits Ignored = refl

  requested-fits : (state : PermissionState) → fits (request_by t q response state).act ≡ true
  unfolding request_by unasked fits
  requested-fits Granted = grant-fits t v q e
  requested-fits GrantedPartial = refl
  requested-fits Prompt = either Fits (has t.switches prompt) _ _ asks-fits refl
  requested-fits Denied = refl
  requested-fits DeniedPartial = refl
  requested-fits Ignored = refl

  pub decided-fits : (call : Call) → fits (decide call t q response).act ≡ true
  unfolding decide check_desc request_desc unasked fits
  decided-fits Check = either Fits (is_allow_all t) _ _ refl (checked-fits _)
  decided-fits Request = requested-fits _
