-- Laws of carrying an act out, step by step: the act of each action, what doing it leaves, and cause 8.
use Rattle.std.specs.Prelude.{Option, None, Some, Ok, Err}
use Prim.Native.Nat.{ℕ, ◌≤◌}
use mathlib.Core.Path.{◌≡◌, sym, ap, ◌∙◌}
use mathlib.Core.List.{List}
use mathlib.Core.Bool.{Bool, true, false, cond}
use borrow.Author.Tests.{leb-true}
use Rattle.refusals.specs.declared.Refusal.{Refusal}
use Rattle.refusals.specs.declared.Refusal.TheVariants.{TableFull}
use Rattle.refusals.specs.Refusals.{first_cause}
use Rattle.table.specs.declared.Kind.{Kind}
use Rattle.table.specs.declared.Action.{Action}
use Rattle.table.specs.declared.Action.TheVariants.{Nothing, Insert, SetSwitches, Revoke, RevokeAll}
use Rattle.table.specs.Entries.{Entry}
use Rattle.table.specs.Tables.{Table, max_switches, is_entry}
use Rattle.table.specs.Acts.{Act, insert, set_switches, revoke, revoke_all, is_act, act_overflows}
use Rattle.table.specs.Memory.{table_of, do_act, do_acts}
use Rattle.table.specs.Carrying.{room_cause, acts_of, outcome_of, act_of, fits, CarriesOut}

-- ---- the act of each action

module _ {action : Action} (q : List ℕ) where
  pub act-none : action ≡ Nothing → act_of action q ≡ None
  unfolding act_of
  act-none e = rw e

  pub act-insert : {k : Kind} → action ≡ Insert k → act_of action q ≡ Some (insert (record { kind = k; path = q }))
  unfolding act_of
  act-insert e = rw e

  pub act-switches : {v : ℕ} → action ≡ SetSwitches v → act_of action q ≡ Some (set_switches v)
  unfolding act_of
  act-switches e = rw e

  pub act-revoke : action ≡ Revoke → act_of action q ≡ Some (revoke q)
  unfolding act_of
  act-revoke e = rw e

  pub act-revoke-all : action ≡ RevokeAll → act_of action q ≡ Some revoke_all
  unfolding act_of
  act-revoke-all e = rw e

-- ---- what fits

pub insert-fits : {a : Option Act} {e : Entry} → fits a ≡ true → a ≡ Some (insert e) → is_entry e ≡ true
unfolding fits is_act
insert-fits f e = rw e at f

pub switches-fit : {a : Option Act} {v : ℕ} → fits a ≡ true → a ≡ Some (set_switches v) → v ≤ max_switches
unfolding fits is_act
switches-fit f e = leb-true _ _ (rw e at f)

-- ---- carrying it out

-- cause 8 of an act
room-by : (t : Table) (act : Act) {b : Bool} → act_overflows t act ≡ b → room_cause t (Some act) ≡ cond b (Some TableFull) None
unfolding room_cause first_cause
room-by t act o = rw o

module _ {a : Option Act} {m : List ℕ} where
  pub carries-none : a ≡ None → CarriesOut a m m (Ok tt)
  unfolding room_cause outcome_of acts_of do_acts
  carries-none e = record { outcome = rw e; memory = rw e }

  pub carries-act : {act : Act} {m' : List ℕ} → a ≡ Some act → act_overflows (table_of m) act ≡ false → m' ≡ do_act m act → CarriesOut a m m' (Ok tt)
  unfolding outcome_of acts_of do_acts
  carries-act {act = act} e o q =
      let none = room-by (table_of m) act o in
      rw e (record {
        outcome = sym (ap outcome_of none);
        memory = q ∙ sym (ap (λ (cause : Option Refusal). do_acts m (acts_of cause (Some act))) none);
      })

-- an act that finds no room changes nothing
pub carries-full : {m : List ℕ} {act : Act} → act_overflows (table_of m) act ≡ true → CarriesOut (Some act) m m (Err TableFull)
unfolding outcome_of acts_of do_acts
carries-full {m} {act} o =
    let full = room-by (table_of m) act o in
    record {
      outcome = sym (ap outcome_of full);
      memory = sym (ap (λ (cause : Option Refusal). do_acts m (acts_of cause (Some act))) full);
    }
