-- Laws of acts: a table stays one, what memory has that acts left, and what the answer of carrying one out tells. Crates above cite these.
use Rattle.std.specs.Prelude.{Option, None, Some, Ok, Err}
use Prim.Native.Nat.{ℕ, suc, ◌+◌, ◌≤◌}
use mathlib.Core.Path.{◌≡◌, refl, sym, ap, ◌∙◌}
use mathlib.Core.List.{List, [], ◌∷◌, ◌++◌}
use mathlib.Core.Bool.{Bool, true, false, ◌||◌, false≢true}
use native.Mathlib.Omega.{arith}
use lib.ListN.{length}
use lib.Dec.{eqb}
use borrow.Author.Tests.{leb-true}
use Rattle.refusals.specs.declared.Refusal.{Refusal}
use Rattle.refusals.specs.declared.Refusal.TheVariants.{TableFull}
use Rattle.refusals.specs.Refusals.{Result}
use Rattle.refusals.proofs.CauseLaws.{no-cause-head}
use Rattle.paths.proofs.ComponentLaws.{and_left, and_right}
use Rattle.table.specs.declared.Kind.{Kind}
use Rattle.table.specs.declared.Kind.TheVariants.{G, D, P, I}
use Rattle.table.specs.Entries.{Entry, kind_number, is_granted}
use Rattle.table.specs.Tables.{Table, granted, max_switches, path_bytes, is_entry, every, any, present, marks_of, is_table}
use Rattle.table.specs.Acts.{
  Act,
  insert,
  set_switches,
  revoke,
  revoke_all,
  kept_unless,
  without,
  dropped_by,
  starts_of,
  every_path,
  dropping,
  is_act,
  act_overflows,
  apply_act,
  apply_acts,
}
use Rattle.table.specs.Memory.{table_of, holds, do_act, do_acts}
use Rattle.table.specs.Carrying.{room_cause, outcome_of, CarriesOut}
use Rattle.table.proofs.BitLaws.{clear-less}
use Rattle.table.proofs.TableLaws.{valid-parts, parts-valid}
use Rattle.table.proofs.FoundLaws.{table-placed}
use Rattle.table.proofs.Puts.{Left, left-put, long_of, valid-of}

-- ---- what is left is within the limits

-- with the first entry, where it is kept
length-kept : (b : Bool) (e : Entry) (es : List Entry) → length (kept_unless b e es) ≤ suc (length es)
unfolding kept_unless
length-kept true e es = omega arith
length-kept false e es = omega arith

path-kept : (b : Bool) (e : Entry) (es : List Entry) → path_bytes (kept_unless b e es) ≤ length e.path + path_bytes es
unfolding kept_unless path_bytes
path-kept true e es = omega arith
path-kept false e es = omega arith

every-kept : (f : Entry → Bool) (b : Bool) (e : Entry) (es : List Entry) → f e ≡ true → every f es ≡ true
    → every f (kept_unless b e es) ≡ true
unfolding kept_unless every
every-kept f true e es p q = q
every-kept f false e es p q = rw p q

any-kept : (f : Entry → Bool) (b : Bool) (e : Entry) (es : List Entry) → (b ≡ true → f e ≡ false)
    → any f (kept_unless b e es) ≡ f e || any f es
unfolding kept_unless any
any-kept f true e es h = rw (h refl)
any-kept f false e es h = refl

module _ (dropped : Entry → Bool) where
  pub length_without : (es : List Entry) → length (without dropped es) ≤ length es
  unfolding without
  length_without [] = omega arith
  length_without (e ∷ es) = omega (arith, length-kept (dropped e) e (without dropped es), length_without es)

  pub path-without : (es : List Entry) → path_bytes (without dropped es) ≤ path_bytes es
  unfolding without path_bytes
  path-without [] = omega arith
  path-without (e ∷ es) = omega (arith, path-kept (dropped e) e (without dropped es), path-without es)

  pub every-without : (f : Entry → Bool) (es : List Entry) → every f es ≡ true → every f (without dropped es) ≡ true
  unfolding without every
  every-without f [] p = refl
  every-without f (e ∷ es) p =
      every-kept f (dropped e) e (without dropped es) (and_left (f e) _ p) (every-without f es (and_right (f e) _ p))

  -- where f holds of no entry that is dropped
  pub any-without : (f : Entry → Bool) → ((e : Entry) → dropped e ≡ true → f e ≡ false) → (es : List Entry)
      → any f (without dropped es) ≡ any f es
  unfolding without any
  any-without f h [] = refl
  any-without f h (e ∷ es) = any-kept f (dropped e) e (without dropped es) (h e) ∙ ap (◌||◌ (f e)) (any-without f h es)

grant-unlike : (k j : Kind) → is_granted k ≡ true → is_granted j ≡ false → eqb (kind_number k) (kind_number j) ≡ false
grant-unlike G G g n = n
grant-unlike G D g n = refl
grant-unlike G P g n = refl
grant-unlike G I g n = refl
grant-unlike D j g n = absurd (false≢true g)
grant-unlike P j g n = absurd (false≢true g)
grant-unlike I j g n = absurd (false≢true g)

-- where only grants are dropped, the other kinds that are present stay so, and with them the marks
module _ (dropped : Entry → Bool) (grants : (e : Entry) → dropped e ≡ true → is_granted e.kind ≡ true) where
  pub present-without : (k : Kind) → is_granted k ≡ false → (es : List Entry) → present k (without dropped es) ≡ present k es
  unfolding present
  present-without k n es = any-without dropped _ (λ e d. grant-unlike e.kind k (grants e d) n) es

  pub marks-without : (es : List Entry) → marks_of (without dropped es) ≡ marks_of es
  unfolding marks_of
  marks-without es = rw (present-without D refl es, present-without P refl es, present-without I refl es)

  pub table-dropping : (t : Table) → is_table t ≡ true → is_table (dropping dropped t) ≡ true
  table-dropping t v =
      let old = valid-parts t v in
      parts-valid (dropping dropped t) (record {
        few = omega (arith, length_without dropped t.entries, old.few);
        bytes = omega (arith, path-without dropped t.entries, old.bytes);
        each = every-without dropped is_entry t.entries old.each;
        switches = old.switches;
        marks = old.marks ∙ sym (marks-without t.entries);
      })

-- each act keeps a table within its limits
table-switched : (t : Table) (v : ℕ) → v ≤ max_switches → is_table t ≡ true → is_table (apply_act t (set_switches v)) ≡ true
unfolding apply_act
table-switched t v h e =
    let old = valid-parts t e in
    parts-valid _ (record { few = old.few; bytes = old.bytes; each = old.each; switches = h; marks = old.marks })

-- only grants are dropped
pub dropped-grants : (selected : List ℕ → Bool) (e : Entry) → dropped_by selected e ≡ true → is_granted e.kind ≡ true
unfolding dropped_by
dropped-grants selected e d = and_left (is_granted e.kind) _ d

table-dropped : (selected : List ℕ → Bool) (t : Table) → is_table t ≡ true → is_table (dropping (dropped_by selected) t) ≡ true
table-dropped selected = table-dropping (dropped_by selected) (dropped-grants selected)

table-revoked : (t : Table) (q : List ℕ) → is_table t ≡ true → is_table (apply_act t (revoke q)) ≡ true
unfolding apply_act
table-revoked t q v = table-dropped (starts_of q) t v

table-revoked-all : (t : Table) → is_table t ≡ true → is_table (apply_act t revoke_all) ≡ true
unfolding apply_act
table-revoked-all t v =
    table-switched (dropping (dropped_by every_path) t) _ (omega (arith, clear-less t.switches granted, (valid-parts t v).switches))
    (table-dropped every_path t v)

-- whatever the act
pub table-acted : (t : Table) (a : Act) → is_table t ≡ true → is_act a ≡ true → act_overflows t a ≡ false → is_table (apply_act t a) ≡ true
unfolding is_act act_overflows
table-acted t (insert e) v f o = unfold apply_act in table-placed t e v f o
table-acted t (set_switches n) v f o = table-switched t n (leb-true _ _ f) v
table-acted t (revoke q) v f o = table-revoked t q v
table-acted t revoke_all v f o = table-revoked-all t v

-- ---- what memory has that acts left

pub left-act : (m : List ℕ) (a : Act) → holds m ≡ true → is_act a ≡ true → act_overflows (table_of m) a ≡ false
    → Left m (do_act m a) (apply_act (table_of m) a)
unfolding do_act
left-act m a h f o = left-put m _ _ (table-acted (table_of m) a (valid-of m h) f o) (long_of m h) refl

pub acts-append : (m : List ℕ) (a b : List Act) → do_acts m (a ++ b) ≡ do_acts (do_acts m a) b
unfolding do_acts
acts-append m [] b = refl
acts-append m (x ∷ a) b = acts-append (do_act m x) a b

pub applied-append : (t : Table) (a b : List Act) → apply_acts t (a ++ b) ≡ apply_acts (apply_acts t a) b
unfolding apply_acts
applied-append t [] b = refl
applied-append t (x ∷ a) b = applied-append (apply_act t x) a b

-- acts that were done in turn: memory still holds a table, and it is the one that the acts make
pub record Acted (m : List ℕ) (acts : List Act) : Type 0 where
  pub holding : holds (do_acts m acts) ≡ true
  pub table : table_of (do_acts m acts) ≡ apply_acts (table_of m) acts
  pub same : length (do_acts m acts) ≡ length m

pub acted-none : (m : List ℕ) → holds m ≡ true → Acted m []
unfolding do_acts apply_acts
acted-none m h = record { holding = h; table = refl; same = refl }

pub acted-one : (m : List ℕ) (a : Act) → holds m ≡ true → is_act a ≡ true → act_overflows (table_of m) a ≡ false → Acted m (a ∷ [])
unfolding do_acts apply_acts
acted-one m a h f o =
    let L = left-act m a h f o in
    record { holding = L.holding; table = L.table; same = L.same }

pub acted-append : {m : List ℕ} (a b : List Act) → Acted m a → Acted (do_acts m a) b → Acted m (a ++ b)
acted-append {m} a b A B = record {
  holding = rw (acts-append m a b) B.holding;
  table = rw (acts-append m a b, applied-append (table_of m) a b) (B.table ∙ ap (λ (t : Table). apply_acts t b) A.table);
  same = rw (acts-append m a b) (B.same ∙ A.same);
}

-- ---- what the answer of carrying an act out tells

-- where there is no cause, the act has room
pub no-cause-room : (t : Table) (a : Act) → room_cause t (Some a) ≡ None → act_overflows t a ≡ false
unfolding room_cause
no-cause-room t a e = no-cause-head (act_overflows t a) TableFull _ e

pub outcome-done : (cause : Option Refusal) → outcome_of cause ≡ Ok tt → cause ≡ None
unfolding outcome_of
outcome-done None e = refl
outcome-done (Some cause) e = let z : ◌≡◌ {A = ℕ} 0 1 = cc in absurd (omega arith)

pub outcome-refused : (cause : Option Refusal) {by : Refusal} → outcome_of cause ≡ Err by → cause ≡ Some by
unfolding outcome_of
outcome-refused None e = let z : ◌≡◌ {A = ℕ} 0 1 = cc in absurd (omega arith)
outcome-refused (Some cause) e = cc

module _ {act : Option Act} {m m' : List ℕ} {r : Result Unit} (C : CarriesOut act m m' r) where
  pub carried-done : r ≡ Ok tt → room_cause (table_of m) act ≡ None
  carried-done e = outcome-done _ (sym C.outcome ∙ e)

  pub carried-refused : {by : Refusal} → r ≡ Err by → room_cause (table_of m) act ≡ Some by
  carried-refused e = outcome-refused _ (sym C.outcome ∙ e)
