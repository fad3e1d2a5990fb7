-- What acts keep: memory that held a table holds one, no mark is cleared, and acts leave the same table wherever it stands.
use Rattle.std.specs.Prelude.{Ok, Err}
use Prim.Native.Nat.{ℕ}
use mathlib.Core.Path.{◌≡◌, refl, sym, ap, ◌∙◌}
use mathlib.Core.List.{List, [], ◌∷◌}
use mathlib.Core.Bool.{Bool, true, false, or-true}
use lib.Dec.{eqb}
use Rattle.refusals.specs.declared.Refusal.{Refusal}
use Rattle.refusals.specs.Refusals.{Result, and_then}
use Rattle.table.specs.declared.Kind.{Kind}
use Rattle.table.specs.declared.Kind.TheVariants.{D, P, I}
use Rattle.table.specs.declared.Place.{Place}
use Rattle.table.specs.declared.Place.TheVariants.{Found, At}
use Rattle.table.specs.Entries.{Entry, kind_number, is_granted}
use Rattle.table.specs.Placing.{place, placed_at}
use Rattle.table.specs.Tables.{Table, has, has_flag_denied, has_prompt_denied, has_flag_ignored, present, marks_of, is_table}
use Rattle.table.specs.Acts.{Act, insert, set_switches, revoke, revoke_all, starts_of, every_path, inserted, inserted_by, apply_act, apply_acts}
use Rattle.table.specs.Memory.{table_of, holds, do_acts}
use Rattle.table.specs.Calls.{table_in}
use Rattle.table.proofs.TableLaws.{any-more, marks_by, valid-parts}
use Rattle.table.proofs.Puts.{valid-of}
use Rattle.table.proofs.ActLaws.{present-without, dropped-grants, Acted, acted-none}
use Rattle.table.proofs.CallLaws.{a-table}

-- ---- no act clears a mark: the marks are those of the kinds present, and no act drops an entry but a G

placed-present : (place : Place) (k : Kind) (es : List Entry) (e : Entry) → present k es ≡ true → present k (placed_at place es e) ≡ true
unfolding placed_at present
placed-present Found k es e h = h
placed-present (At j) k es e h = rw (any-more _ j es e, h) (or-true (eqb (kind_number e.kind) (kind_number k)))

act-present : (k : Kind) → is_granted k ≡ false → (t : Table) (a : Act) → present k t.entries ≡ true → present k (apply_act t a).entries ≡ true
unfolding apply_act inserted inserted_by
act-present k g t (insert e) h = placed-present (place t.entries e) k t.entries e h
act-present k g t (set_switches v) h = h
act-present k g t (revoke q) h = present-without _ (dropped-grants (starts_of q)) k g t.entries ∙ h
act-present k g t revoke_all h = present-without _ (dropped-grants every_path) k g t.entries ∙ h

acts-present : (k : Kind) → is_granted k ≡ false → (t : Table) (acts : List Act) → present k t.entries ≡ true → present k (apply_acts t acts).entries ≡ true
unfolding apply_acts
acts-present k g t [] h = h
acts-present k g t (a ∷ acts) h = acts-present k g (apply_act t a) acts (act-present k g t a h)

-- each mark is set exactly if an entry of its kind is present
marks-has : (d p i : Bool) → (has (marks_by d p i) has_flag_denied ≡ d) × (has (marks_by d p i) has_prompt_denied ≡ p) × (has (marks_by d p i) has_flag_ignored ≡ i)
unfolding has
marks-has true true true = (refl, refl, refl)
marks-has true true false = (refl, refl, refl)
marks-has true false true = (refl, refl, refl)
marks-has true false false = (refl, refl, refl)
marks-has false true true = (refl, refl, refl)
marks-has false true false = (refl, refl, refl)
marks-has false false true = (refl, refl, refl)
marks-has false false false = (refl, refl, refl)

pub valid-marks : (t : Table) → is_table t ≡ true
    → (has t.marks has_flag_denied ≡ present D t.entries) × (has t.marks has_prompt_denied ≡ present P t.entries) × (has t.marks has_flag_ignored ≡ present I t.entries)
unfolding marks_of
valid-marks t v = rw (valid-parts t v).marks (marks-has (present D t.entries) (present P t.entries) (present I t.entries))

-- the marks that are set in n are set in m
pub record Keeps (n m : ℕ) : Type 0 where
  pub denied : has n has_flag_denied ≡ true → has m has_flag_denied ≡ true
  pub prompted : has n has_prompt_denied ≡ true → has m has_prompt_denied ≡ true
  pub ignored : has n has_flag_ignored ≡ true → has m has_flag_ignored ≡ true

-- memory after acts that were done in turn
pub acted-keeps : {m : List ℕ} {acts : List Act} → holds m ≡ true → Acted m acts → Keeps (table_of m).marks (table_of (do_acts m acts)).marks
acted-keeps {m} {acts} h A =
    let old = valid-marks (table_of m) (valid-of m h) in
    let new = valid-marks (table_of (do_acts m acts)) (valid-of (do_acts m acts) A.holding) in
    record {
      denied = λ e. new.0 ∙ rw A.table (acts-present D refl (table_of m) acts (sym old.0 ∙ e));
      prompted = λ e. new.1 ∙ rw A.table (acts-present P refl (table_of m) acts (sym old.1 ∙ e));
      ignored = λ e. new.2 ∙ rw A.table (acts-present I refl (table_of m) acts (sym old.2 ∙ e));
    }

-- ---- what a checking order makes can be carried out

-- a step of the checking order that is refused makes no act
pub step-acted : {A B : Type 0} (acts : Result B → List Act) → ((cause : Refusal) → acts (Err cause) ≡ []) → (m : List ℕ) (a : Result A) (f : A → Result B)
    → holds m ≡ true → ((x : A) → a ≡ Ok x → Acted m (acts (f x))) → Acted m (acts (and_then a f))
unfolding and_then
step-acted acts n m (Err cause) f h k = rw (n cause) (acted-none m h)
step-acted acts n m (Ok x) f h k = k x refl

-- ---- wherever the table stands: memory of another length, or with other bytes behind it

module _ (m n : List ℕ) (h : holds m ≡ true) (k : holds n ≡ true) (e : table_of m ≡ table_of n) where
  pub same-table : table_in m ≡ table_in n
  same-table = a-table m h ∙ ap Ok e ∙ sym (a-table n k)

  -- and the same acts leave the same table
  pub same_after : (acts : List Act) → Acted m acts → Acted n acts → table_of (do_acts m acts) ≡ table_of (do_acts n acts)
  same_after acts A B = A.table ∙ ap (λ (t : Table). apply_acts t acts) e ∙ sym B.table
