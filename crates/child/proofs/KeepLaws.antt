-- What a child call keeps: the parent's memory holds a table and loses no mark, and unless the call is refused before any item the child's memory
-- holds a table too.
use Rattle.std.specs.Prelude.{Option, None, Some, Ok, Err}
use Prim.Native.Nat.{ℕ, ◌≤◌}
use mathlib.Core.Path.{◌≡◌, refl, sym, subst, ◌∙◌}
use mathlib.Core.List.{List, [], ◌∷◌}
use mathlib.Core.Bool.{Bool, true, false}
use native.Mathlib.Omega.{arith}
use lib.ListN.{length}
use borrow.Author.Tests.{ltb-false}
use Rattle.refusals.specs.declared.Refusal.{Refusal}
use Rattle.refusals.specs.declared.Refusal.TheVariants.{NoTable}
use Rattle.refusals.specs.Refusals.{Result, and_then}
use Rattle.refusals.proofs.CauseLaws.{no-cause-head, unless-ok}
use Rattle.paths.proofs.ComponentLaws.{and_left, and_right}
use Rattle.table.specs.Entries.{Entry, is_granted}
use Rattle.table.specs.Tables.{Table, fresh, is_entry, every, is_table}
use Rattle.table.specs.Acts.{Act, insert, kept_unless, without, is_act, apply_act, apply_acts}
use Rattle.table.specs.Memory.{table_bytes, table_of, holds, put, do_acts}
use Rattle.link.specs.declared.Link.{Link}
use Rattle.link.specs.Linking.{room_in, Numbering, run_in}
use Rattle.link.specs.Sending.{Lent}
use Rattle.items.specs.Items.{ItemList}
use Rattle.table.specs.Calls.{table_in, fresh_in}
use Rattle.table.proofs.TableLaws.{valid-parts, fresh-table}
use Rattle.table.proofs.Puts.{valid-of, long_of, table_of-put, holds-put}
use Rattle.table.proofs.ActLaws.{Acted, acted-none, acted-append}
use Rattle.table.proofs.CallLaws.{a-table}
use Rattle.table.proofs.KeepLaws.{Keeps, acted-keeps, step-acted}
use Rattle.child.specs.declared.ChildSent.{ChildSent}
use Rattle.child.specs.Arguments.{Arguments, arguments_of}
use Rattle.child.specs.Making.{Made, then, granted_by, granting, all_items, inserts, reinserts, take_over_acts, take_over, first_child, completed, create_child}
use Rattle.child.specs.Calls.{Creation, creation, child_call, child_acts, child_left, child_after, CreatesChild}
use Rattle.child.proofs.MakingLaws.{then-stops, then-goes, grant-acted, grant-one}
use Rattle.child.proofs.TakeOverLaws.{switches-fit}
use Rattle.child.proofs.CreatingLaws.{Left, left-then, items_left, over-acts, first-table}

-- ---- acts on the child that can be carried out

data AllActs : List Act → Type 0 where
  none_left : AllActs []
  one_more : {act : Act} {acts : List Act} → is_act act ≡ true → AllActs acts → AllActs (act ∷ acts)

granting-more : (act : Act) (acts : List Act) (c : List ℕ) → holds c ≡ true → is_act act ≡ true → (o : Option Refusal) → (granted_by act (table_of c)).refused ≡ o
    → ((c₁ : List ℕ) → holds c₁ ≡ true → Acted c₁ (granting acts (table_of c₁)).grants)
    → Acted c (then (granted_by act (table_of c)) (granting acts (apply_act (table_of c) act))).grants
granting-more act acts c h f (Some cause) e k =
    subst (λ (x : Made). Acted c x.grants) (sym (then-stops (granted_by act (table_of c)) _ e)) (grant-acted act c h f)
granting-more act acts c h f None e k =
    let first = granted_by act (table_of c) in
    let A = grant-acted act c h f in
    let table : table_of (do_acts c first.grants) ≡ apply_act (table_of c) act = A.table ∙ one-act (grant-one act (table_of c) e) in
    let rest : Acted (do_acts c first.grants) (granting acts (apply_act (table_of c) act)).grants =
    subst (λ (u : Table). Acted (do_acts c first.grants) (granting acts u).grants) table (k (do_acts c first.grants) A.holding) in
    subst (λ (x : Made). Acted c x.grants) (sym (then-goes first (granting acts (apply_act (table_of c) act)) e))
    (acted-append first.grants (granting acts (apply_act (table_of c) act)).grants A rest)
  where
    one-act : {acts : List Act} → acts ≡ act ∷ [] → apply_acts (table_of c) acts ≡ apply_act (table_of c) act
    one-act q = rw q (unfold apply_acts in refl)

granting-acted : (acts : List Act) (c : List ℕ) → holds c ≡ true → AllActs acts → Acted c (granting acts (table_of c)).grants
unfolding granting
granting-acted [] c h none_left = acted-none c h
granting-acted (act ∷ acts) c h (one_more f fs) =
    granting-more act acts c h f (granted_by act (table_of c)).refused refl (λ c₁ k. granting-acted acts c₁ k fs)

-- the parent's entries again
kept-fits : (b : Bool) (e : Entry) (es : List Entry) → is_entry e ≡ true → AllActs (inserts es) → AllActs (inserts (kept_unless b e es))
unfolding kept_unless inserts is_act
kept-fits true e es f fs = fs
kept-fits false e es f fs = one_more {act = insert e} f fs

reinserts-fit : (es : List Entry) → every is_entry es ≡ true → AllActs (reinserts es)
unfolding reinserts without every inserts
reinserts-fit [] f = none_left
reinserts-fit (e ∷ es) f = kept-fits (is_granted e.kind) e _ (and_left (is_entry e) _ f) (reinserts-fit es (and_right (is_entry e) _ f))

over-fits : (t u : Table) → is_table t ≡ true → AllActs (take_over_acts t u)
unfolding take_over_acts
over-fits t u v =
    let parts = valid-parts t v in
    one_more (switches-fit t.switches u.switches parts.switches) (reinserts-fit t.entries parts.each)

-- ---- both memories, where the call comes to its items

over-acted : (m c : List ℕ) → holds m ≡ true → holds c ≡ true → Left (take_over (table_of m) (table_of c)) m c
unfolding take_over
over-acted m c h k = record {
  parent = subst (Acted m) (sym (over_none (table_of m) (table_of c))) (acted-none m h);
  child = granting-acted (take_over_acts (table_of m) (table_of c)) c k (over-fits (table_of m) (table_of c) (valid-of m h));
}
  where
    over_none : (t u : Table) → (granting (take_over_acts t u) u).acts ≡ []
    over_none t u = over-acts t u

created : (numbers : Numbering) (m c cwd : List ℕ) (args : Arguments) → holds m ≡ true → holds c ≡ true
    → Left (completed (all_items numbers cwd args.items (table_of m) (table_of c)) (table_of m) (table_of c)) m c
unfolding completed
created numbers m c cwd args h k =
    let items = all_items numbers cwd args.items (table_of m) (table_of c) in
    let L = items_left numbers cwd args.items m c h k in
    let rest = over-acted (do_acts m items.acts) (do_acts c items.grants) L.parent.holding L.child.holding in
    left-then items _ items.refused refl L (rw (L.parent.table, L.child.table) at rest)

long-by : (c : List ℕ) {t : Table} → fresh_in c ≡ Ok t → table_bytes ≤ length c
unfolding fresh_in
long-by c e = ltb-false _ _ (no-cause-head _ NoTable [] (unless-ok _ fresh e).0)

-- a call that comes to its items, over the child's first memory
module _ (numbers : Numbering) (m c cwd : List ℕ) (args : Arguments) (h : holds m ≡ true) (long : table_bytes ≤ length c) where
  abbrev first : List ℕ
  first = put (first_child args.arg (table_of m)) c

  first_holds : holds first ≡ true
  first_holds = holds-put (first_child args.arg (table_of m)) c (first-table args.arg (table_of m) (valid-of m h)) long

  both : Left (create_child numbers (table_of m) args cwd) m first
  unfolding create_child
  both = rw (table_of-put (first_child args.arg (table_of m)) c) at (created numbers m first cwd args h first_holds)

no-acts : (cause : Refusal) → child_acts (Err cause) ≡ []
unfolding child_acts
no-acts cause = refl

made-acted : (numbers : Numbering) (m c cwd : List ℕ) (args : Arguments) → holds m ≡ true → table_bytes ≤ length c
    → Acted m (child_acts (Ok (creation numbers (table_of m) cwd args)))
unfolding child_acts creation
made-acted numbers m c cwd args h long = (both numbers m c cwd args h long).parent

-- ---- by the promise

module _ (link : Link) (l : Lent) (c : List ℕ) (code : ℕ) (list : ItemList) (cwd : List ℕ) (h : holds l.memory ≡ true) where
  parent-acted : Acted l.memory (child_acts (child_call link l c code list cwd))
  unfolding child_call
  parent-acted =
      rw (a-table l.memory h)
      (unfold and_then in
      step-acted child_acts no-acts l.memory (fresh_in c) _ h (λ empty e.
      step-acted child_acts no-acts l.memory (room_in (length list.ends) link l.words) _ h (λ room g.
      step-acted child_acts no-acts l.memory (run_in link l.number) _ h (λ numbers k.
      step-acted child_acts no-acts l.memory (arguments_of code list.bytes list.ends list.responses) _ h (λ args f.
      made-acted numbers l.memory c cwd args h (long-by c e))))))

  module _ {l' : Lent} {c' : List ℕ} {r : ChildSent} (C : CreatesChild link l c code list cwd l' c' r) where
    pub parent-held : holds l'.memory ≡ true
    parent-held = rw C.sends.memory parent-acted.holding

    pub parent-keeps : Keeps (table_of l.memory).marks (table_of l'.memory).marks
    parent-keeps = rw C.sends.memory (acted-keeps h parent-acted)

-- the child's memory, whether the call is refused on the way or not
left-held : (o : Option Refusal) (c : List ℕ) → holds c ≡ true → holds (child_left o c) ≡ true
unfolding child_left
left-held None c h = h
left-held (Some cause) c h = holds-put fresh c fresh-table (long_of c h)

-- a step that is refused makes no child
data ChildHeld (c : List ℕ) : Result Creation → Type 0 where
  not_made : {cause : Refusal} → ChildHeld c (Err cause)
  made : {s : Creation} → holds (child_left s.made.refused (do_acts (put s.first c) s.made.grants)) ≡ true → ChildHeld c (Ok s)

step-held : {A : Type 0} (c : List ℕ) (a : Result A) (f : A → Result Creation) → ((x : A) → a ≡ Ok x → ChildHeld c (f x)) → ChildHeld c (and_then a f)
unfolding and_then
step-held c (Err cause) f h = not_made
step-held c (Ok x) f h = h x refl

held-made : {c : List ℕ} {r : Result Creation} (s : Creation) → ChildHeld c r → r ≡ Ok s → holds (child_left s.made.refused (do_acts (put s.first c) s.made.grants)) ≡ true
held-made s not_made e = let z : ◌≡◌ {A = ℕ} 0 1 = cc in absurd (omega arith)
held-made {c} s (made {s = x} h) e =
    let same : x ≡ s = cc in
    subst (λ (y : Creation). holds (child_left y.made.refused (do_acts (put y.first c) y.made.grants)) ≡ true) same h

module _ (link : Link) (l : Lent) (c : List ℕ) (code : ℕ) (list : ItemList) (cwd : List ℕ) (h : holds l.memory ≡ true) where
  child-made : ChildHeld c (child_call link l c code list cwd)
  unfolding child_call
  child-made =
      step-held c (table_in l.memory) _ (λ t e.
      step-held c (fresh_in c) _ (λ empty f.
      step-held c (room_in (length list.ends) link l.words) _ (λ room g.
      step-held c (run_in link l.number) _ (λ numbers k.
      step-held c (arguments_of code list.bytes list.ends list.responses) _ (λ args j.
      let table : table_of l.memory ≡ t = cc (a-table l.memory h) in
      made (rw (← table) (unfold creation in left-held (create_child numbers (table_of l.memory) args cwd).refused _ (both numbers l.memory c cwd args h (long-by c f)).child.holding)))))))

  -- it holds a table, unless the call is refused before any item
  pub child-held : {s : Creation} {l' : Lent} {c' : List ℕ} {r : ChildSent} → child_call link l c code list cwd ≡ Ok s
      → CreatesChild link l c code list cwd l' c' r → holds c' ≡ true
  unfolding child_after
  child-held e C = rw (C.creates.child, e) (held-made _ child-made e)
