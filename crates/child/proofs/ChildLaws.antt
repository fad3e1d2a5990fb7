-- Laws that bear the child call out: what it keeps, that it is the same wherever the parent's table stands, that an Inherit child has its parent's
-- switches, and that a list child never has switch 1.
use Rattle.std.specs.Prelude.{Option, None, Some, Ok, Err}
use Prim.Native.Nat.{ℕ, ◌+◌, ◌-◌, ◌/◌, ◌%◌}
use mathlib.Core.Path.{◌≡◌, refl, sym, ap, ◌∙◌}
use mathlib.Core.List.{List, [], ◌∷◌}
use mathlib.Core.Bool.{Bool, true, false, cond}
use native.Mathlib.Omega.{arith}
use lib.Dec.{eqb}
use borrow.Author.Tests.{eqb-true, ne_eqb}
use Rattle.refusals.specs.declared.Refusal.{Refusal}
use Rattle.refusals.specs.declared.Refusal.TheVariants.{TableFull, Escalation}
use Rattle.refusals.specs.Refusals.{Result}
use Rattle.paths.specs.declared.Descriptor.TheVariants.{Path}
use Rattle.paths.specs.Giving.{query_of}
use Rattle.link.specs.Linking.{Numbering}
use Rattle.table.specs.declared.Kind.TheVariants.{G}
use Rattle.table.specs.Entries.{Entry, is_granted}
use Rattle.table.specs.Tables.{Table, fresh, has, set_bit, clear_bit, granted}
use Rattle.table.specs.Acts.{Act, insert, set_switches, inserted_by, inserted, without, act_overflows, apply_act, apply_acts}
use Rattle.table.specs.Memory.{table_of, holds}
use Rattle.table.proofs.ActLaws.{applied-append}
use Rattle.table.proofs.KeepLaws.{same-table}
use Rattle.walk.specs.declared.PermissionState.{PermissionState}
use Rattle.deciding.specs.declared.PromptResponse.{PromptResponse}
use Rattle.deciding.specs.Decisions.{Decision, grant_act, passes}
use Rattle.child.specs.declared.ChildUnaryPermissionArg.TheVariants.{Inherit, GrantedList}
use Rattle.items.specs.Items.{ItemList, list_items}
use Rattle.child.specs.Making.{
  Made,
  refused_by,
  onward,
  then,
  granted_by,
  granting,
  checked,
  passed_on,
  item_by,
  item_step,
  all_items,
  child_switches,
  inserts,
  reinserts,
  take_over_acts,
  take_over,
  first_child,
  completed,
  create_child,
}
use Rattle.link.specs.declared.Link.{Link}
use Rattle.link.specs.Sending.{lent}
use Rattle.child.specs.Calls.{child_call}
use Rattle.child.proofs.MakingLaws.{then-stops, then-goes}

-- ---- wherever the parent's table stands

pub same-child : (m n : List ℕ) → holds m ≡ true → holds n ≡ true → table_of m ≡ table_of n → (link : Link) (number : ℕ) (w c : List ℕ) (code : ℕ) (list : ItemList) (cwd : List ℕ)
    → child_call link (lent m number w) c code list cwd ≡ child_call link (lent n number w) c code list cwd
unfolding child_call
same-child m n h k e link number w c code list cwd = rw (same-table m n h k e)

-- ---- switches of the child's table u, step by step

-- the table that steps make of u
abbrev after : Table → Made → Table
after u made = apply_acts u made.grants

after_then : (u : Table) (a b : Made) → a.refused ≡ None → after u (then a b) ≡ after (after u a) b
after_then u a b e = ap (after u) (then-goes a b e) ∙ applied-append u a.grants b.grants

-- a step that leaves the switches as they are, and one after it that does
then_keeps : (u : Table) (a b : Made) (o : Option Refusal) → a.refused ≡ o → (after u a).switches ≡ u.switches
    → (a.refused ≡ None → (after (after u a) b).switches ≡ (after u a).switches) → (after u (then a b)).switches ≡ u.switches
then_keeps u a b None e f g = ap (λ (t : Table). t.switches) (after_then u a b e) ∙ g e ∙ f
then_keeps u a b (Some cause) e f g = ap (λ (x : Made). (after u x).switches) (then-stops a b e) ∙ f

insert-by : (over : Bool) (e : Entry) (u : Table)
    → (after u (cond over (refused_by TableFull) (record { acts = []; grants = insert e ∷ []; asked = 0; refused = None }))).switches ≡ u.switches
unfolding apply_acts apply_act inserted inserted_by
insert-by true e u = refl
insert-by false e u = refl

insert-keeps : (e : Entry) (u : Table) → (after u (granted_by (insert e) u)).switches ≡ u.switches
unfolding granted_by
insert-keeps e u = insert-by (act_overflows u (insert e)) e u

granted-is : (over : Bool) (act : Act) (u : Table) → (cond over (refused_by TableFull) (record { acts = []; grants = act ∷ []; asked = 0; refused = None })).refused ≡ None
    → after u (cond over (refused_by TableFull) (record { acts = []; grants = act ∷ []; asked = 0; refused = None })) ≡ apply_act u act
unfolding apply_acts
granted-is true act u e = let z : ◌≡◌ {A = ℕ} 0 1 = cc in absurd (omega arith)
granted-is false act u e = refl

-- what an act on the child leaves, where it has room
granted-after : (act : Act) (u : Table) → (granted_by act u).refused ≡ None → after u (granted_by act u) ≡ apply_act u act
unfolding granted_by
granted-after act u e = granted-is (act_overflows u act) act u e

inserts-keep : (es : List Entry) (u : Table) → (after u (granting (inserts es) u)).switches ≡ u.switches
unfolding granting inserts
inserts-keep [] u = unfold apply_acts in refl
inserts-keep (e ∷ es) u =
    then_keeps u (granted_by (insert e) u) _ _ refl (insert-keeps e u)
    (λ o. rw (granted-after (insert e) u o) (inserts-keep es (apply_act u (insert e))))

-- what the child takes over sets its switches once
takes-switches : (t u : Table) → (take_over t u).refused ≡ None → (after u (take_over t u)).switches ≡ child_switches t.switches u.switches
unfolding take_over take_over_acts granting reinserts apply_act
takes-switches t u e = by (granted_by act u).refused refl e
  where
    act : Act
    act = set_switches (child_switches t.switches u.switches)

    rest : Made
    rest = granting (inserts (without (λ e. is_granted e.kind) t.entries)) (apply_act u act)

    by : (o : Option Refusal) → (granted_by act u).refused ≡ o → (then (granted_by act u) rest).refused ≡ None
        → (after u (then (granted_by act u) rest)).switches ≡ child_switches t.switches u.switches
    by None f g =
        ap (λ (x : Table). x.switches) (after_then u (granted_by act u) rest f)
        ∙ rw (granted-after act u f) (inserts-keep (without (λ e. is_granted e.kind) t.entries) (apply_act u act))
    by (Some cause) f g = let z : ◌≡◌ {A = ℕ} 0 1 = cc (ap (λ (x : Made). x.refused) (then-stops (granted_by act u) rest f)) in absurd (omega arith)

-- ---- an Inherit child

same-switches : (s : ℕ) → child_switches s s ≡ s
unfolding child_switches set_bit clear_bit
same-switches s = by (has s granted) refl
  where
    by : (b : Bool) → has s granted ≡ b
        → cond (has s granted) (cond (has s granted) s (s + granted)) (cond (has s granted) (s - granted) s) ≡ s
    by true e = rw e
    by false e = rw e

-- it has its parent's switches
pub inherit-switches : (numbers : Numbering) (t : Table) (cwd : List ℕ) → (create_child numbers t (record { arg = Inherit; items = [] }) cwd).refused ≡ None
    → (apply_acts (first_child Inherit t) (create_child numbers t (record { arg = Inherit; items = [] }) cwd).grants).switches ≡ t.switches
unfolding create_child completed all_items first_child onward apply_acts
inherit-switches numbers t cwd e = takes-switches t t e ∙ same-switches t.switches

-- ---- a list child

-- without switch 1
cleared : (n : ℕ) → has (clear_bit n granted) granted ≡ false
unfolding clear_bit has
cleared n = by (eqb (n / granted % 2) 1) refl
  where
    by : (b : Bool) → eqb (n / granted % 2) 1 ≡ b → eqb (cond (eqb (n / granted % 2) 1) (n - granted) n / granted % 2) 1 ≡ false
    by true e = rw e (ne_eqb ((n - granted) / granted % 2) 1 (λ h. omega (arith, eqb-true (n / granted % 2) 1 e)))
    by false e = rw e e

own-none : (p : ℕ) → has (child_switches p 0) granted ≡ false
unfolding child_switches
own-none p = unfold has in cleared p

passed-by : (passed : Bool) (e : Entry) (u : Table) → (after u (cond passed (granted_by (insert e) u) (refused_by Escalation))).switches ≡ u.switches
passed-by true e u = insert-keeps e u
passed-by false e u = unfold apply_acts in refl

passed-keeps : (state : PermissionState) (q : List ℕ) (u : Table) → (after u (passed_on state (query_of Path q) u)).switches ≡ u.switches
unfolding passed_on grant_act query_of
passed-keeps state q u = passed-by (passes state) (record { kind = G; path = q }) u

item-keeps : (r : Result Decision) (q : List ℕ) (u : Table) → (after u (item_by r (query_of Path q) u)).switches ≡ u.switches
unfolding item_by
item-keeps (Err cause) q u = unfold apply_acts in refl
item-keeps (Ok decision) q u =
    then_keeps u (checked decision) _ _ refl (unfold checked apply_acts in refl)
    (λ o. unfold checked apply_acts in passed-keeps decision.state q u)

list-keeps : (cwd bytes : List ℕ) (from : ℕ) (ends : List ℕ) (responses : List PromptResponse) (numbers : Numbering) (t u : Table)
    → (after u (all_items numbers cwd (list_items bytes from ends responses) t u)).switches ≡ u.switches
unfolding all_items list_items item_step
list-keeps cwd bytes from [] responses numbers t u = unfold apply_acts in refl
list-keeps cwd bytes from (end ∷ ends) [] numbers t u = unfold apply_acts in refl
list-keeps cwd bytes from (end ∷ ends) (response ∷ responses) numbers t u =
    then_keeps u _ _ _ refl (item-keeps _ _ u) (λ o. list-keeps cwd bytes end ends responses _ _ _)

-- it never has switch 1, whatever its parent was asked on the way
pub list-without-one : (numbers : Numbering) (t : Table) (bytes ends : List ℕ) (responses : List PromptResponse) (cwd : List ℕ)
    → (create_child numbers t (record { arg = GrantedList; items = list_items bytes 0 ends responses }) cwd).refused ≡ None
    → has (apply_acts fresh (create_child numbers t (record { arg = GrantedList; items = list_items bytes 0 ends responses }) cwd).grants).switches granted ≡ false
unfolding create_child completed first_child
list-without-one numbers t bytes ends responses cwd e = by items.refused refl
  where
    items : Made
    items = all_items numbers cwd (list_items bytes 0 ends responses) t fresh

    over : Made
    over = take_over (apply_acts t items.acts) (apply_acts fresh items.grants)

    by : (o : Option Refusal) → items.refused ≡ o → has (after fresh (then items over)).switches granted ≡ false
    by None f =
        ap (λ (x : Table). has x.switches granted) (after_then fresh items over f)
        ∙ ap (λ (n : ℕ). has n granted) (takes-switches _ _ (sym (ap (λ (x : Made). x.refused) (then-goes items over f)) ∙ e))
        ∙ ap (λ (n : ℕ). has (child_switches (apply_acts t items.acts).switches n) granted) (list-keeps cwd bytes 0 ends responses numbers t fresh)
        ∙ own-none (apply_acts t items.acts).switches
    by (Some cause) f = let z : ◌≡◌ {A = ℕ} 0 1 = cc (ap (λ (x : Made). x.refused) (then-stops items over f)) in absurd (omega arith)
