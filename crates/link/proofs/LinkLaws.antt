-- Laws of the link in a checking order: its record space and run, and what is known where they are passed.
use Rattle.std.specs.Prelude.{Option, None, Some, Ok, Err}
use Prim.Native.Nat.{ℕ, zero, suc, max, ◌+◌, ◌*◌, ◌≤◌}
use mathlib.Core.Path.{◌≡◌, refl}
use mathlib.Core.List.{List}
use mathlib.Core.Bool.{true, false}
use native.Mathlib.Omega.{arith}
use lib.ListN.{length}
use Rattle.std.proofs.lemmas.Grind.{common_steps}
use borrow.Author.Tests.{ltb-false, not-false}
use Rattle.refusals.specs.declared.Refusal.{Refusal}
use Rattle.refusals.specs.declared.Refusal.TheVariants.{NoSpace, Unknown, TableFull}
use Rattle.refusals.specs.Refusals.{first_cause, Result, and_then, unless}
use Rattle.refusals.proofs.CauseLaws.{no-cause-head}
use Rattle.table.specs.Tables.{Table}
use Rattle.table.specs.Acts.{Act, act_overflows}
use Rattle.table.specs.Memory.{table_of, holds}
use Rattle.table.specs.Carrying.{acts_of, fits}
use Rattle.table.proofs.ActLaws.{Acted, acted-none, acted-one}
use Rattle.records.specs.Numbers.{record_space}
use Rattle.link.specs.declared.Link.{Link}
use Rattle.link.specs.declared.Link.TheVariants.{Plain, Linked}
use Rattle.link.specs.Linking.{at_least_one, lacks_room, room_in, Numbering, numbering, lacks_run, run_in, admit, carry_cause}
use Rattle.link.specs.Steps.{Admits, Ready}

-- ---- the record space of k items

pub least-one : (k : ℕ) → 1 ≤ at_least_one k
unfolding at_least_one
least-one zero = omega arith
least-one (suc k) = omega arith

pub least-many : (k : ℕ) → k ≤ at_least_one k
unfolding at_least_one
least-many zero = omega arith
least-many (suc k) = omega arith

-- so the code says it
pub least_max : (k : ℕ) → at_least_one k ≡ max k 1
unfolding at_least_one
least_max zero = omega arith
least_max (suc k) = omega arith

-- ---- the two tests, as steps of a checking order

module _ (k : ℕ) (link : Link) (w : List ℕ) where
  pub room-short : lacks_room k link w ≡ true → room_in k link w ≡ Err NoSpace
  unfolding room_in first_cause unless
  room-short e = rw e

  pub room-long : lacks_room k link w ≡ false → room_in k link w ≡ Ok w
  unfolding room_in first_cause unless
  room-long e = rw e

module _ (link : Link) (n : ℕ) where
  pub run-unknown : lacks_run link ≡ true → run_in link n ≡ Err Unknown
  unfolding run_in first_cause unless
  run-unknown e = rw e

  pub run-known : lacks_run link ≡ false → run_in link n ≡ Ok (numbering link n)
  unfolding run_in first_cause unless
  run-known e = rw e

-- ---- both tests at once

module _ (k : ℕ) (link : Link) (w : List ℕ) where
  pub admitted : {u : Unit} → Ok u ≡ admit k link w → Admits k link w
  unfolding admit first_cause unless
  admitted e = record { roomy = grind (arith, common_steps, e); run = grind (arith, common_steps, e) }

  -- whatever the next step is, the call goes no further
  pub not_admitted : {cause : Refusal} (n : ℕ) {A : Type 0} (next : Numbering → Result A) → Err cause ≡ admit k link w
      → and_then (room_in k link w) (λ room. and_then (run_in link n) next) ≡ Err cause
  unfolding admit room_in run_in and_then first_cause unless
  not_admitted n next e = grind (arith, common_steps, e)

-- a plain call passes both
pub plain-admits : (k : ℕ) (w : List ℕ) → Admits k Plain w
unfolding lacks_room lacks_run
plain-admits k w = record { roomy = refl; run = refl }

-- the tests read no more of the record space than its length
pub admits-same : {k : ℕ} {link : Link} {w w' : List ℕ} → length w' ≡ length w → Admits k link w → Admits k link w'
unfolding lacks_room
admits-same {k} {link} {w} {w'} e A = record { roomy = by link A.roomy; run = A.run }
  where
    by : (link : Link) → lacks_room k link w ≡ false → lacks_room k link w' ≡ false
    by Plain f = f
    by (Linked run) f = rw e f

-- room for k records: there is room for one more after j records where j < k
pub ready_by : (k : ℕ) (link : Link) (w : List ℕ) (at : ℕ) → Admits k link w → at + record_space ≤ record_space * at_least_one k → Ready link w at
unfolding lacks_room lacks_run
ready_by k Plain w at A l = record {
  known = λ run f. let z : ◌≡◌ {A = ℕ} 0 1 = cc in absurd (omega arith);
  room = λ run f. let z : ◌≡◌ {A = ℕ} 0 1 = cc in absurd (omega arith);
}
ready_by k (Linked own) w at A l = record {
  known = λ run f. let same : own ≡ run = cc in rw (← same) (not-false _ A.run);
  room = λ run f. omega (arith, ltb-false (length w) (record_space * at_least_one k) A.roomy, l);
}

pub link-ready : {link : Link} {w : List ℕ} → Admits 1 link w → Ready link w 0
unfolding at_least_one
link-ready {link} {w} A = ready_by 1 link w 0 A (omega arith)

-- ---- causes 8 and 9

pub no-cause-room : (numbers : Numbering) (t : Table) (a : Act) → carry_cause numbers t (Some a) ≡ None → act_overflows t a ≡ false
unfolding carry_cause
no-cause-room numbers t a e = no-cause-head (act_overflows t a) TableFull _ e

pub acted-carried : (numbers : Numbering) (m : List ℕ) (act : Option Act) → holds m ≡ true → fits act ≡ true
    → Acted m (acts_of (carry_cause numbers (table_of m) act) act)
unfolding acts_of fits
acted-carried numbers m act h f = go (carry_cause numbers (table_of m) act) act refl f
  where
    go : (cause : Option Refusal) (act : Option Act) → carry_cause numbers (table_of m) act ≡ cause → fits act ≡ true → Acted m (acts_of cause act)
    go (Some cause) act e f = acted-none m h
    go None None e f = acted-none m h
    go None (Some a) e f = acted-one m a h f (no-cause-room numbers (table_of m) a e)
