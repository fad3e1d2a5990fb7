-- Laws of what check and request decide: the operator's answer, and that a pass without a walk cannot be seen.
use Prim.Native.Nat.{ℕ, zero, suc, ◌<◌}
use Rattle.std.specs.Prelude.{None, Some}
use mathlib.Core.Path.{◌≡◌, refl}
use mathlib.Core.List.{List}
use mathlib.Core.Bool.{true, false≢true}
use native.Mathlib.Omega.{arith}
use Rattle.paths.specs.Giving.{Query}
use Rattle.table.specs.Tables.{Table, is_table}
use Rattle.walk.specs.declared.PermissionState.{PermissionState}
use Rattle.walk.specs.declared.PermissionState.TheVariants.{
  Granted,
  GrantedPartial,
  Prompt,
  Denied,
  DeniedPartial,
  Ignored,
}
use Rattle.walk.specs.Walk.{query_desc, is_allow_all}
use Rattle.walk.proofs.WalkLaws.{allow-all-granted}
use Rattle.deciding.specs.declared.PromptResponse.{PromptResponse}
use Rattle.deciding.specs.declared.PromptResponse.TheVariants.{Deny, Allow, AllowAll}
use Rattle.deciding.specs.declared.Decided.{Decided}
use Rattle.deciding.specs.Decisions.{response_number, response_of, passes, Decision, check_mode, check_by, check_desc}
use Rattle.deciding.specs.Steps.{Decides}

-- ---- the operator's answer

-- each answer is the one that its number names
pub response-numbered : (response : PromptResponse) → response_of (response_number response) ≡ Some response
unfolding response_of
response-numbered Deny = refl
response-numbered Allow = refl
response-numbered AllowAll = refl

pub response-unknown : (n : ℕ) → 2 < n → response_of n ≡ None
unfolding response_of
response-unknown zero h = absurd (omega arith)
response-unknown (suc zero) h = absurd (omega arith)
response-unknown (suc (suc zero)) h = absurd (omega arith)
response-unknown (suc (suc (suc n))) h = refl

-- ---- a check passes where it comes to Granted, and nowhere else

pub passes-granted : (state : PermissionState) → passes state ≡ true → state ≡ Granted
unfolding passes
passes-granted Granted e = refl
passes-granted GrantedPartial e = absurd (false≢true e)
passes-granted Prompt e = absurd (false≢true e)
passes-granted Denied e = absurd (false≢true e)
passes-granted DeniedPartial e = absurd (false≢true e)
passes-granted Ignored e = absurd (false≢true e)

-- ---- a decision of the code

pub decides-same : {decision other : Decision} {q : List ℕ} {r : Decided} → decision ≡ other → Decides decision q r → Decides other q r
decides-same e D = rw e at D

-- ---- a pass without a walk cannot be seen

pub check-without-walk : (t : Table) (q : Query) (response : PromptResponse) → is_allow_all t ≡ true → is_table t ≡ true
    → check_desc t q response ≡ check_by t q response (query_desc t (check_mode q) q)
unfolding check_desc check_by
check-without-walk t q response a v = rw (a, allow-all-granted t a v (check_mode q) q)
