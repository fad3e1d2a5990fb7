-- Laws of the checking order: the first condition that holds, and what is handed on where none does.
use Rattle.std.specs.Prelude.{Option, None, Some, Ok, Err}
use mathlib.Core.Path.{◌≡◌, refl}
use mathlib.Core.List.{List, ◌∷◌}
use mathlib.Core.Bool.{Bool, true, false, cond}
use Prim.Native.Nat.{ℕ}
use native.Mathlib.Omega.{arith}
use Rattle.refusals.specs.declared.Refusal.{Refusal}
use Rattle.refusals.specs.Refusals.{Condition, when, first_cause, Result, and_then, unless}

pub Some-injective : {A : Type 0} (x y : A) → Some x ≡ Some y → x ≡ y
Some-injective x y e = cc

pub cause-holds : {b : Bool} (cause : Refusal) (rest : List Condition) → b ≡ true → first_cause (when b cause ∷ rest) ≡ Some cause
unfolding first_cause
cause-holds cause rest e = rw e

pub cause-passes : {b : Bool} (cause : Refusal) (rest : List Condition) → b ≡ false → first_cause (when b cause ∷ rest) ≡ first_cause rest
unfolding first_cause
cause-passes cause rest e = rw e

-- where there is no cause, no condition holds
none-head : (b : Bool) (cause : Refusal) (rest : Option Refusal) → cond b (Some cause) rest ≡ None → b ≡ false
none-head true cause rest e = let z : ◌≡◌ {A = ℕ} 0 1 = cc in absurd (omega arith)
none-head false cause rest e = refl

none_tail : (b : Bool) (cause : Refusal) (rest : Option Refusal) → cond b (Some cause) rest ≡ None → rest ≡ None
none_tail true cause rest e = let z : ◌≡◌ {A = ℕ} 0 1 = cc in absurd (omega arith)
none_tail false cause rest e = e

pub no-cause-head : (b : Bool) (cause : Refusal) (rest : List Condition) → first_cause (when b cause ∷ rest) ≡ None → b ≡ false
unfolding first_cause
no-cause-head b cause rest e = none-head b cause (first_cause rest) e

pub no-cause-tail : (b : Bool) (cause : Refusal) (rest : List Condition) → first_cause (when b cause ∷ rest) ≡ None → first_cause rest ≡ None
unfolding first_cause
no-cause-tail b cause rest e = none_tail b cause (first_cause rest) e

-- what is handed on where there is no cause
pub unless-ok : {A : Type 0} (cause : Option Refusal) (a : A) {x : A} → unless cause a ≡ Ok x → (cause ≡ None) × (a ≡ x)
unfolding unless
unless-ok None a e = (refl, cc)
unless-ok (Some cause) a e = let z : ◌≡◌ {A = ℕ} 0 1 = cc in absurd (omega arith)

-- what refuses is the cause
pub unless-refused : {A : Type 0} (cause : Option Refusal) (a : A) {c : Refusal} → unless cause a ≡ Err c → cause ≡ Some c
unfolding unless
unless-refused None a e = cc
unless-refused (Some cause) a e = cc

-- ---- what a checking order hands on, if anything, has P

pub data Hands {A : Type 0} (P : A → Type 0) : Result A → Type 0 where
  stops : {cause : Refusal} → Hands P (Err cause)
  hands : {x : A} → P x → Hands P (Ok x)

-- a step of which only the equation matters
pub hands_itself : {A : Type 0} (a : Result A) → Hands (λ x. a ≡ Ok x) a
hands_itself (Err cause) = stops
hands_itself (Ok x) = hands refl

-- one step and the next
pub hands_then : {A B : Type 0} {P : A → Type 0} {Q : B → Type 0} {a : Result A} {f : A → Result B} → Hands P a → ((x : A) → P x → Hands Q (f x))
    → Hands Q (and_then a f)
unfolding and_then
hands_then stops h = stops
hands_then (hands {x = x} p) h = h x p

pub hands-unless : {A : Type 0} {P : A → Type 0} (cause : Option Refusal) (x : A) → (cause ≡ None → P x) → Hands P (unless cause x)
unfolding unless
hands-unless None x h = hands (h refl)
hands-unless (Some cause) x h = stops
