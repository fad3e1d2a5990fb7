-- Laws of a permission without a path: each state is the one that its number names, and a number above 5 names none.
use Rattle.std.specs.Prelude.{None, Some}
use Prim.Native.Nat.{ℕ, zero, suc, ◌<◌}
use mathlib.Core.Path.{◌≡◌, refl}
use native.Mathlib.Omega.{arith}
use Rattle.walk.specs.declared.PermissionState.{PermissionState}
use Rattle.walk.specs.declared.PermissionState.TheVariants.{
  Granted,
  GrantedPartial,
  Prompt,
  Denied,
  DeniedPartial,
  Ignored,
}
use Rattle.walk.specs.Walk.{state_number, state_of}

pub state-numbered : (state : PermissionState) → state_of (state_number state) ≡ Some state
unfolding state_of
state-numbered Granted = refl
state-numbered GrantedPartial = refl
state-numbered Prompt = refl
state-numbered Denied = refl
state-numbered DeniedPartial = refl
state-numbered Ignored = refl

pub state-unknown : (n : ℕ) → 5 < n → state_of n ≡ None
unfolding state_of
state-unknown zero h = absurd (omega arith)
state-unknown (suc zero) h = absurd (omega arith)
state-unknown (suc (suc zero)) h = absurd (omega arith)
state-unknown (suc (suc (suc zero))) h = absurd (omega arith)
state-unknown (suc (suc (suc (suc zero)))) h = absurd (omega arith)
state-unknown (suc (suc (suc (suc (suc zero))))) h = absurd (omega arith)
state-unknown (suc (suc (suc (suc (suc (suc n)))))) h = refl
