-- What holds of calls on a permission without a path, whatever the setting and the answers, refused calls included. Scope, "Permissions without a path".
use Rattle.std.specs.Prelude.{ℕ, ◌≡◌, Bool, false, Some, Ok}
use Rattle.refusals.specs.Refusals.{Result}
use Rattle.walk.specs.declared.PermissionState.TheVariants.{Granted, Prompt}
use Rattle.deciding.specs.declared.PromptResponse.{PromptResponse}
use Rattle.deciding.specs.declared.Call.{Call}
use Rattle.deciding.specs.declared.Call.TheVariants.{Check, Request}
use Rattle.deciding.specs.Decisions.{response_of}
use Rattle.unit.specs.declared.Decided.{Decided}
use Rattle.unit.specs.Calls.{answer_in, asked_in, AsksUnit}

-- a request never answers Prompt
abbrev pub NeverPrompt : Type 0
NeverPrompt = (s : ℕ) (prompt : Bool) (response s' : ℕ) (r : Result Decided) → AsksUnit Request s prompt response s' r → answer_in r ≡ Ok Prompt → ⊥

-- checks and requests one behind the other, and no revoke: the state's number goes from s to s'
pub data Unrevoked (s : ℕ) : ℕ → Type 0 where
  start : Unrevoked s s
  next : {before after : ℕ} → Unrevoked s before → (call : Call) (prompt : Bool) (response : ℕ) (r : Result Decided)
      → AsksUnit call before prompt response after r → Unrevoked s after

-- what a check passes stays passed until a revoke: behind a check that passed and any calls without a revoke, a check with any known answer passes, and
-- nobody is asked
abbrev pub StaysPassed : Type 0
StaysPassed =
    (s : ℕ) (prompt : Bool) (response s' : ℕ) (r : Result Decided) → AsksUnit Check s prompt response s' r → answer_in r ≡ Ok Granted
    → (later : ℕ) → Unrevoked s' later
    → (prompt₂ : Bool) (response₂ s'' : ℕ) (r₂ : Result Decided) → AsksUnit Check later prompt₂ response₂ s'' r₂
    → (known : PromptResponse) → response_of response₂ ≡ Some known
    → (answer_in r₂ ≡ Ok Granted) × (asked_in r₂ ≡ false)
