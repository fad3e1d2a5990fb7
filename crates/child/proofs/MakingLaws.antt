-- Laws of the steps of a child call: one after the other in memory, what the child is granted, one item, and the items in turn.
use Rattle.std.specs.Prelude.{Option, None, Some, Ok, Err}
use Prim.Native.Nat.{ℕ, ◌+◌}
use mathlib.Core.Path.{◌≡◌, refl, sym, ap, subst, ◌∙◌}
use mathlib.Core.List.{List, [], ◌∷◌, ◌++◌, append-nil}
use mathlib.Core.Bool.{Bool, true, false, cond}
use native.Mathlib.Omega.{arith}
use Rattle.refusals.specs.declared.Refusal.{Refusal}
use Rattle.refusals.specs.declared.Refusal.TheVariants.{TableFull, NumbersUsedUp, Escalation}
use Rattle.refusals.specs.Refusals.{when, first_cause, Result}
use Rattle.paths.specs.Giving.{Query, is_query}
use Rattle.table.specs.Tables.{Table}
use Rattle.table.specs.Acts.{Act, is_act, act_overflows, apply_act, apply_acts}
use Rattle.table.specs.Memory.{table_of, holds, do_acts}
use Rattle.table.specs.Carrying.{room_cause, acts_of, outcome_of, CarriesOut}
use Rattle.table.proofs.Puts.{valid-of}
use Rattle.table.proofs.ActLaws.{acts-append, Acted, acted-none, acted-one, outcome-done, outcome-refused}
use Rattle.walk.specs.declared.PermissionState.{PermissionState}
use Rattle.walk.specs.declared.PermissionState.TheVariants.{
  Granted,
  GrantedPartial,
  Prompt,
  Denied,
  DeniedPartial,
  Ignored,
}
use Rattle.walk.specs.contracts.PermissionState.{the_type}
use denote.Enum.Bare.{sameb}
use Rattle.deciding.specs.Decisions.{Decision, grant_act, passes}
use Rattle.calls.specs.Calls.{decided_acts}
use Rattle.deciding.proofs.FittingLaws.{grant-fits}
use Rattle.child.specs.Making.{Made, refused_by, onward, then, granted_by, granting, passed_on, checked, item_by}
use Rattle.child.specs.Steps.{MakesChild}

-- ---- one step after the other

pub then-stops : (a b : Made) {cause : Refusal} → a.refused ≡ Some cause → then a b ≡ a
unfolding onward
then-stops a b e = ap (λ (o : Option Refusal). onward o a b) e

pub then-goes : (a b : Made) → a.refused ≡ None
    → then a b ≡ record { acts = a.acts ++ b.acts; grants = a.grants ++ b.grants; asked = a.asked + b.asked; refused = b.refused }
unfolding onward
then-goes a b e = ap (λ (o : Option Refusal). onward o a b) e

module _ {a : Made} {c c₁ : List ℕ} {r : Result Unit} (A : MakesChild a c c₁ r) where
  pub makes-stop : (b : Made) {cause : Refusal} → r ≡ Err cause → MakesChild (then a b) c c₁ r
  makes-stop b e = subst (λ (x : Made). MakesChild x c c₁ r) (sym (then-stops a b (outcome-refused a.refused (sym A.outcome ∙ e)))) A

  pub makes-then : {b : Made} {c₂ : List ℕ} {r₂ : Result Unit} → r ≡ Ok tt → MakesChild b c₁ c₂ r₂ → MakesChild (then a b) c c₂ r₂
  makes-then {b} {c₂} {r₂} e B =
      let goes = then-goes a b (outcome-done a.refused (sym A.outcome ∙ e)) in
      subst (λ (x : Made). MakesChild x c c₂ r₂) (sym goes)
      (record { outcome = B.outcome; child = B.child ∙ ap (λ (l : List ℕ). do_acts l b.grants) A.child ∙ sym (acts-append c a.grants b.grants) })

-- ---- what the child is granted

granted-by : (over : Bool) (act : Act) {c c' : List ℕ} {r : Result Unit}
    → r ≡ outcome_of (first_cause (when over TableFull ∷ when false NumbersUsedUp ∷ []))
    → c' ≡ do_acts c (acts_of (first_cause (when over TableFull ∷ when false NumbersUsedUp ∷ [])) (Some act))
    → MakesChild (cond over (refused_by TableFull) (record { acts = []; grants = act ∷ []; asked = 0; refused = None })) c c' r
unfolding first_cause acts_of
granted-by true act o q = record { outcome = o; child = q }
granted-by false act o q = record { outcome = o; child = q }

pub grants-carried : {act : Act} {c c' : List ℕ} {r : Result Unit} → CarriesOut (Some act) c c' r → MakesChild (granted_by act (table_of c)) c c' r
unfolding granted_by room_cause first_cause
grants-carried {act} {c} C = granted-by (act_overflows (table_of c) act) act C.outcome C.memory

granted-acted : (over : Bool) (act : Act) {c : List ℕ} → holds c ≡ true → is_act act ≡ true → act_overflows (table_of c) act ≡ over
    → Acted c (cond over (refused_by TableFull) (record { acts = []; grants = act ∷ []; asked = 0; refused = None })).grants
granted-acted true act {c} h f e = acted-none c h
granted-acted false act {c} h f e = acted-one c act h f e

pub grant-acted : (act : Act) (c : List ℕ) → holds c ≡ true → is_act act ≡ true → Acted c (granted_by act (table_of c)).grants
unfolding granted_by
grant-acted act c h f = granted-acted (act_overflows (table_of c) act) act h f refl

granted-one : (over : Bool) (act : Act) → (cond over (refused_by TableFull) (record { acts = []; grants = act ∷ []; asked = 0; refused = None })).refused ≡ None
    → (cond over (refused_by TableFull) (record { acts = []; grants = act ∷ []; asked = 0; refused = None })).grants ≡ act ∷ []
granted-one true act e = let z : ◌≡◌ {A = ℕ} 0 1 = cc in absurd (omega arith)
granted-one false act e = refl

pub grant-one : (act : Act) (u : Table) → (granted_by act u).refused ≡ None → (granted_by act u).grants ≡ act ∷ []
unfolding granted_by
grant-one act u e = granted-one (act_overflows u act) act e

-- what memory has that an act on the child left
module _ (act : Act) {c c' : List ℕ} {r : Result Unit} (h : holds c ≡ true) (f : is_act act ≡ true) (M : MakesChild (granted_by act (table_of c)) c c' r) where
  pub granted-held : holds c' ≡ true
  granted-held = rw M.child (grant-acted act c h f).holding

  pub granted-table : r ≡ Ok tt → table_of c' ≡ apply_act (table_of c) act
  unfolding apply_acts
  granted-table e =
      let one = grant-one act (table_of c) (outcome-done _ (sym M.outcome ∙ e)) in
      ap table_of M.child ∙ (grant-acted act c h f).table ∙ ap (apply_acts (table_of c)) one

-- ---- what passes

-- what `==` says of a state that passes
pub same-pass : (state : PermissionState) → sameb the_type state Granted ≡ passes state
unfolding passes
same-pass Granted = refl
same-pass GrantedPartial = refl
same-pass Prompt = refl
same-pass Denied = refl
same-pass DeniedPartial = refl
same-pass Ignored = refl

passed_none : (over passed : Bool) (act : Act)
    → ((cond passed (cond over (refused_by TableFull) (record { acts = []; grants = act ∷ []; asked = 0; refused = None })) (refused_by Escalation)).acts ≡ [])
    × ((cond passed (cond over (refused_by TableFull) (record { acts = []; grants = act ∷ []; asked = 0; refused = None })) (refused_by Escalation)).asked ≡ 0)
passed_none true true act = (refl, refl)
passed_none true false act = (refl, refl)
passed_none false true act = (refl, refl)
passed_none false false act = (refl, refl)

-- it makes no act on the parent, and nobody is asked
module _ (state : PermissionState) (q : Query) (u : Table) where
  pub passed-acts : (passed_on state q u).acts ≡ []
  unfolding passed_on granted_by
  passed-acts = (passed_none (act_overflows u (grant_act u q)) (passes state) (grant_act u q)).0

  pub passed-asked : (passed_on state q u).asked ≡ 0
  unfolding passed_on granted_by
  passed-asked = (passed_none (act_overflows u (grant_act u q)) (passes state) (grant_act u q)).1

module _ (state : PermissionState) (q : Query) {c : List ℕ} where
  pub passes-not : passes state ≡ false → MakesChild (passed_on state q (table_of c)) c c (Err Escalation)
  unfolding passed_on outcome_of do_acts
  passes-not e = rw e (record { outcome = refl; child = refl })

  pub passes_on : {c' : List ℕ} {r : Result Unit} → passes state ≡ true → MakesChild (granted_by (grant_act (table_of c) q) (table_of c)) c c' r
      → MakesChild (passed_on state q (table_of c)) c c' r
  unfolding passed_on
  passes_on e M = rw e M

passed-acted : (passed : Bool) (q : Query) (c : List ℕ) → holds c ≡ true → is_query q ≡ true
    → Acted c (cond passed (granted_by (grant_act (table_of c) q) (table_of c)) (refused_by Escalation)).grants
passed-acted true q c h f = grant-acted (grant_act (table_of c) q) c h (grant-fits (table_of c) (valid-of c h) q f)
passed-acted false q c h f = acted-none c h

pub pass-acted : (state : PermissionState) (q : Query) (c : List ℕ) → holds c ≡ true → is_query q ≡ true → Acted c (passed_on state q (table_of c)).grants
unfolding passed_on
pass-acted state q c h f = passed-acted (passes state) q c h f

-- ---- one item

-- its acts on the parent are those of the parent's check
pub item-acts : (r : Result Decision) (q : Query) (u : Table) → (item_by r q u).acts ≡ decided_acts r
unfolding item_by decided_acts checked onward
item-acts (Err cause) q u = refl
item-acts (Ok decision) q u = rw (passed-acts decision.state q u) (append-nil (acts_of None decision.act))

pub item-grants : (r : Result Decision) (q : Query) (u : Table) {decision : Decision} → r ≡ Ok decision → (item_by r q u).grants ≡ (passed_on decision.state q u).grants
unfolding item_by checked onward
item-grants r q u e = rw e

-- ---- acts on the child ask nobody

granted-none : (over : Bool) (act : Act) → (cond over (refused_by TableFull) (record { acts = []; grants = act ∷ []; asked = 0; refused = None })).asked ≡ 0
granted-none true act = refl
granted-none false act = refl

then-asked : (a b : Made) (o : Option Refusal) → a.refused ≡ o → a.asked ≡ 0 → b.asked ≡ 0 → (then a b).asked ≡ 0
then-asked a b None e f g = ap (λ (x : Made). x.asked) (then-goes a b e) ∙ rw (f, g) (omega arith)
then-asked a b (Some cause) e f g = ap (λ (x : Made). x.asked) (then-stops a b e) ∙ f

pub granting-asked : (acts : List Act) (u : Table) → (granting acts u).asked ≡ 0
unfolding granting
granting-asked [] u = refl
granting-asked (act ∷ acts) u =
    then-asked (granted_by act u) (granting acts (apply_act u act)) (granted_by act u).refused refl
    (unfold granted_by in granted-none (act_overflows u act) act) (granting-asked acts (apply_act u act))

-- nor do they make acts on the parent
granted-parent : (over : Bool) (act : Act) → (cond over (refused_by TableFull) (record { acts = []; grants = act ∷ []; asked = 0; refused = None })).acts ≡ []
granted-parent true act = refl
granted-parent false act = refl

then-acts : (a b : Made) (o : Option Refusal) → a.refused ≡ o → a.acts ≡ [] → b.acts ≡ [] → (then a b).acts ≡ []
then-acts a b None e f g = ap (λ (x : Made). x.acts) (then-goes a b e) ∙ rw (f, g)
then-acts a b (Some cause) e f g = ap (λ (x : Made). x.acts) (then-stops a b e) ∙ f

pub granting-acts : (acts : List Act) (u : Table) → (granting acts u).acts ≡ []
unfolding granting
granting-acts [] u = refl
granting-acts (act ∷ acts) u =
    then-acts (granted_by act u) (granting acts (apply_act u act)) (granted_by act u).refused refl
    (unfold granted_by in granted-parent (act_overflows u act) act) (granting-acts acts (apply_act u act))
