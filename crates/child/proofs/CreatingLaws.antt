-- Laws of the whole child call: the memory that its items leave, its checking order, and what it answers and leaves.
use Rattle.std.specs.Prelude.{Option, None, Some, Ok, Err}
use Prim.Native.Nat.{ℕ, ◌≤◌, ◌<◌}
use mathlib.Core.Path.{◌≡◌, refl, sym, ap, subst, ◌∙◌}
use mathlib.Core.List.{List, [], ◌∷◌, append-nil}
use mathlib.Core.Bool.{true, false}
use native.Mathlib.Omega.{arith}
use lib.ListN.{length}
use Rattle.refusals.specs.declared.Refusal.{Refusal}
use Rattle.refusals.specs.declared.Refusal.TheVariants.{NoTable}
use Rattle.refusals.specs.Refusals.{Result, and_then}
use Rattle.table.specs.Tables.{Table, is_table}
use Rattle.table.specs.Acts.{apply_acts}
use Rattle.table.specs.Memory.{table_bytes, table_of, holds, put, do_acts}
use Rattle.table.specs.Carrying.{outcome_of}
use Rattle.link.specs.declared.Link.{Link}
use Rattle.link.specs.Linking.{Numbering, numbering, past, admit}
use Rattle.link.proofs.LinkLaws.{not_admitted, room-long, run-known}
use Rattle.link.specs.Sending.{Lent}
use Rattle.link.specs.Steps.{Admits}
use Rattle.link.proofs.SendingLaws.{sends-nothing, sends-recorded}
use Rattle.table.proofs.TableLaws.{fresh-table}
use Rattle.table.proofs.Puts.{valid-of, table_of-put, holds-put}
use Rattle.table.proofs.ActLaws.{acts-append, Acted, acted-none, acted-append}
use Rattle.table.proofs.CallLaws.{no_table, a-table, fresh-short, fresh-long}
use Rattle.child.specs.declared.ChildMade.{ChildMade}
use Rattle.child.specs.declared.ChildSent.{ChildSent}
use Rattle.child.specs.declared.ChildUnaryPermissionArg.{ChildUnaryPermissionArg}
use Rattle.child.specs.declared.ChildUnaryPermissionArg.TheVariants.{Inherit, Granted, NotGranted, GrantedList}
use Rattle.items.specs.Items.{Item, item_list}
use Rattle.child.specs.Arguments.{Arguments, arg_of, known_arg, items_of, are_in_order, arguments_of}
use Rattle.child.specs.Making.{Made, then, item_step, all_items, take_over, take_over_acts, first_child, completed, create_child}
use Rattle.child.specs.Calls.{Creation, creation, child_call, refusal_in, times_asked, child_acts, child_left, child_after, Creates, CreatesChild}
use Rattle.child.specs.Steps.{child_made, child_sent, Makes, after_items, Completes, MakesSent, SendsItems, Passed}
use Rattle.items.proofs.ItemListLaws.{Known, all_known}
use Rattle.child.proofs.ArgumentLaws.{in_order}
use Rattle.child.proofs.MakingLaws.{then-stops, then-goes, granting-asked, granting-acts}
use Rattle.child.proofs.ItemLaws.{item-parent, item-child}

-- ---- what memory has that the items left

-- both memories hold the tables that the acts make
pub record Left (made : Made) (m c : List ℕ) : Type 0 where
  pub parent : Acted m made.acts
  pub child : Acted c made.grants

pub left-then : (a b : Made) (o : Option Refusal) {m c : List ℕ} → a.refused ≡ o → Left a m c → Left b (do_acts m a.acts) (do_acts c a.grants) → Left (then a b) m c
left-then a b None {m} {c} e A B =
    subst (λ (x : Made). Left x m c) (sym (then-goes a b e))
    (record { parent = acted-append a.acts b.acts A.parent B.parent; child = acted-append a.grants b.grants A.child B.child })
left-then a b (Some cause) {m} {c} e A B = subst (λ (x : Made). Left x m c) (sym (then-stops a b e)) A

pub items_left : (numbers : Numbering) (cwd : List ℕ) (items : List Item) (m c : List ℕ) → holds m ≡ true → holds c ≡ true → Left (all_items numbers cwd items (table_of m) (table_of c)) m c
unfolding all_items
items_left numbers cwd [] m c h k = record { parent = acted-none m h; child = acted-none c k }
items_left numbers cwd (i ∷ items) m c h k =
    let made = item_step numbers cwd i (table_of m) (table_of c) in
    let P = item-parent numbers cwd i m c h k in
    let C = item-child numbers cwd i m c h k in
    let rest = items_left (past numbers made.acts) cwd items (do_acts m made.acts) (do_acts c made.grants) P.holding C.holding in
    left-then made _ made.refused refl (record { parent = P; child = C }) (rw (P.table, C.table) at rest)

-- ---- the first child

pub first-table : (arg : ChildUnaryPermissionArg) (t : Table) → is_table t ≡ true → is_table (first_child arg t) ≡ true
unfolding first_child
first-table Inherit t v = v
first-table Granted t v = fresh-table
first-table NotGranted t v = fresh-table
first-table GrantedList t v = fresh-table

module _ (arg : ChildUnaryPermissionArg) (m c : List ℕ) {c₁ : List ℕ} (h : holds m ≡ true) (long : table_bytes ≤ length c) (e : c₁ ≡ put (first_child arg (table_of m)) c) where
  pub first-held : holds c₁ ≡ true
  first-held = rw e (holds-put (first_child arg (table_of m)) c (first-table arg (table_of m) (valid-of m h)) long)

  pub first-is : table_of c₁ ≡ first_child arg (table_of m)
  first-is = rw e (table_of-put (first_child arg (table_of m)) c)

-- ---- the checking order

module _ (link : Link) (l : Lent) (c : List ℕ) (code : ℕ) (bytes ends responses cwd : List ℕ) where
  pub child-no-table : holds l.memory ≡ false → child_call link l c code (item_list bytes ends responses) cwd ≡ Err NoTable
  unfolding child_call and_then
  child-no-table h = rw (no_table l.memory h)

  module _ (h : holds l.memory ≡ true) where
    pub child-small : length c < table_bytes → child_call link l c code (item_list bytes ends responses) cwd ≡ Err NoTable
    unfolding child_call and_then
    child-small short = rw (a-table l.memory h, fresh-short c short)

    module _ (long : table_bytes ≤ length c) where
      pub child-barred : {cause : Refusal} → Err cause ≡ admit (length ends) link l.words → child_call link l c code (item_list bytes ends responses) cwd ≡ Err cause
      unfolding child_call and_then
      child-barred e = rw (a-table l.memory h, fresh-long c long) (not_admitted _ _ _ _ _ e)

      module _ (A : Admits (length ends) link l.words) where
        pub child-unknown : {cause : Refusal} → arguments_of code bytes ends responses ≡ Err cause
            → child_call link l c code (item_list bytes ends responses) cwd ≡ Err cause
        unfolding child_call and_then
        child-unknown e = rw (a-table l.memory h, fresh-long c long, room-long (length ends) link l.words A.roomy, run-known link l.number A.run, e)

        pub child-known : (args : Arguments) → arguments_of code bytes ends responses ≡ Ok args
            → child_call link l c code (item_list bytes ends responses) cwd ≡ Ok (creation (numbering link l.number) (table_of l.memory) cwd args)
        unfolding child_call and_then
        child-known args e = rw (a-table l.memory h, fresh-long c long, room-long (length ends) link l.words A.roomy, run-known link l.number A.run, e)

-- ---- what the call answers and leaves

pub refused-creates : {call : Result Creation} {c : List ℕ} {cause : Refusal} → call ≡ Err cause → Creates call c c (child_made (Err cause) 0)
unfolding refusal_in times_asked child_after outcome_of
refused-creates e = record { outcome = rw e; asked = rw e; child = rw e }

pub creates-refused : {link : Link} {l : Lent} {c : List ℕ} {code : ℕ} {bytes ends responses cwd : List ℕ} {cause : Refusal} {a : ChildSent}
    → child_call link l c code (item_list bytes ends responses) cwd ≡ Err cause → a ≡ child_sent (Err cause) 0 0 → CreatesChild link l c code (item_list bytes ends responses) cwd l c a
unfolding child_acts
creates-refused e f = rw f (record { creates = refused-creates e; sends = sends-nothing (rw e) })

pub over-asked : (t u : Table) → (take_over t u).asked ≡ 0
unfolding take_over
over-asked t u = granting-asked (take_over_acts t u) u

pub over-acts : (t u : Table) → (take_over t u).acts ≡ []
unfolding take_over
over-acts t u = granting-acts (take_over_acts t u) u

-- what is made after the items, and what all of it is
pub record Ends (all after : Made) (asked : ℕ) (items : Made) : Type 0 where
  pub refusal : all.refused ≡ after.refused
  pub times : all.asked ≡ asked
  pub acts : all.acts ≡ items.acts
  pub grants : (c : List ℕ) → do_acts c all.grants ≡ do_acts (do_acts c items.grants) after.grants

pub ends : (items rest : Made) (o : Option Refusal) → items.refused ≡ o → rest.asked ≡ 0 → rest.acts ≡ []
    → Ends (then items rest) (after_items (outcome_of o) rest) items.asked items
unfolding outcome_of after_items do_acts
ends items rest None e f g = record {
  refusal = ap (λ (x : Made). x.refused) (then-goes items rest e);
  times = ap (λ (x : Made). x.asked) (then-goes items rest e) ∙ rw f (omega arith);
  acts = ap (λ (x : Made). x.acts) (then-goes items rest e) ∙ rw g (append-nil items.acts);
  grants = λ c. ap (λ (x : Made). do_acts c x.grants) (then-goes items rest e) ∙ acts-append c items.grants rest.grants;
}
ends items rest (Some cause) e f g = record {
  refusal = ap (λ (x : Made). x.refused) (then-stops items rest e) ∙ e;
  times = ap (λ (x : Made). x.asked) (then-stops items rest e);
  acts = ap (λ (x : Made). x.acts) (then-stops items rest e);
  grants = λ c. ap (λ (x : Made). do_acts c x.grants) (then-stops items rest e);
}

-- a call that has come through its items: the child's first memory c₁ is c₂, and the parent's memory m is m'
pub record Ran (numbers : Numbering) (m c : List ℕ) (code : ℕ) (bytes ends responses cwd : List ℕ) (args : Arguments) (c₁ m' c₂ : List ℕ) (r : ChildMade) : Type 0 where
  pub holding : holds m ≡ true
  pub long : table_bytes ≤ length c
  pub read : arguments_of code bytes ends responses ≡ Ok args
  pub begun : c₁ ≡ put (first_child args.arg (table_of m)) c
  pub made : Makes (all_items numbers cwd args.items (table_of m) (table_of c₁)) m c₁ m' c₂ r

ran : (numbers : Numbering) (m c : List ℕ) (code : ℕ) (bytes ends_of responses cwd : List ℕ) {arg : ChildUnaryPermissionArg} {c₁ m' c₂ : List ℕ} {r : ChildMade}
    → holds m ≡ true → table_bytes ≤ length c → known_arg (arg_of code) ≡ Ok arg → are_in_order arg bytes ends_of responses ≡ true → (K : Known responses)
    → c₁ ≡ put (first_child arg (table_of m)) c
    → Makes (all_items numbers cwd (items_of arg bytes ends_of K.responses) (table_of m) (table_of c₁)) m c₁ m' c₂ r
    → Ran numbers m c code bytes ends_of responses cwd (record { arg = arg; items = items_of arg bytes ends_of K.responses }) c₁ m' c₂ r
ran numbers m c code bytes ends_of responses cwd h long a o K b M =
    record { holding = h; long = long; read = in_order code bytes ends_of responses a K.are o; begun = b; made = M }

module _ {numbers : Numbering} {m c : List ℕ} {code : ℕ} {bytes ends_of responses cwd : List ℕ} {args : Arguments} {c₁ m' c₂ : List ℕ} {r : ChildMade}
    (R : Ran numbers m c code bytes ends_of responses cwd args c₁ m' c₂ r) where
  abbrev items : Made
  items = all_items numbers cwd args.items (table_of m) (table_of c₁)

  left : Left items m c₁
  left = items_left numbers cwd args.items m c₁ R.holding (first-held args.arg m c R.holding R.long R.begun)

  items-parent : holds m' ≡ true
  items-parent = rw R.made.parent left.parent.holding

  items-child : holds c₂ ≡ true
  items-child = rw R.made.child left.child.holding

  -- the rest is made of the tables that the items left
  rest-is : take_over (table_of m') (table_of c₂) ≡ take_over (apply_acts (table_of m) items.acts) (apply_acts (table_of c₁) items.grants)
  rest-is = rw (R.made.parent, R.made.child, left.parent.table, left.child.table)

  made-is : create_child numbers (table_of m) args cwd ≡ then items (take_over (table_of m') (table_of c₂))
  unfolding create_child completed
  made-is = rw (rest-is, ← first-is args.arg m c R.holding R.long R.begun)

  -- the acts on the parent are those of the items
  acts-are : {call : Result Creation} → call ≡ Ok (creation numbers (table_of m) cwd args) → child_acts call ≡ items.acts
  unfolding child_acts creation
  acts-are call =
      let E = ends items (take_over (table_of m') (table_of c₂)) items.refused refl (over-asked (table_of m') (table_of c₂)) (over-acts (table_of m') (table_of c₂)) in
      rw call (ap (λ (x : Made). x.acts) made-is ∙ E.acts)

  parent_by : {call : Result Creation} → call ≡ Ok (creation numbers (table_of m) cwd args) → m' ≡ do_acts m (child_acts call)
  parent_by call = R.made.parent ∙ ap (do_acts m) (sym (acts-are call))

  creates-by : {call : Result Creation} {c₃ : List ℕ} {o : Result Unit} → call ≡ Ok (creation numbers (table_of m) cwd args)
      → Completes (after_items r.outcome (take_over (table_of m') (table_of c₂))) c₂ c₃ o → Creates call c c₃ (child_made o r.asked)
  unfolding refusal_in times_asked child_after creation
  creates-by call C =
      let rest = take_over (table_of m') (table_of c₂) in
      let E = ends items rest items.refused refl (over-asked (table_of m') (table_of c₂)) (over-acts (table_of m') (table_of c₂)) in
      let M = R.made in
      let after = ap (λ (o : Result Unit). after_items o rest) M.outcome in
      let refusal : (create_child numbers (table_of m) args cwd).refused ≡ (after_items r.outcome rest).refused =
      ap (λ (x : Made). x.refused) made-is ∙ E.refusal ∙ ap (λ (x : Made). x.refused) (sym after) in
      let grants : do_acts c₂ (after_items r.outcome rest).grants ≡ do_acts c₁ (create_child numbers (table_of m) args cwd).grants =
      ap (λ (x : Made). do_acts c₂ x.grants) after ∙ ap (λ (l : List ℕ). do_acts l (after_items (outcome_of items.refused) rest).grants) M.child
      ∙ sym (E.grants c₁) ∙ ap (λ (x : Made). do_acts c₁ x.grants) (sym made-is) in
      record {
        outcome = C.outcome ∙ ap outcome_of (sym refusal) ∙ rw call;
        asked = M.asked ∙ sym E.times ∙ ap (λ (x : Made). x.asked) (sym made-is) ∙ rw call;
        child = C.child ∙ ap (λ (o : Option Refusal). child_left o (do_acts c₂ (after_items r.outcome rest).grants)) (sym refusal)
            ∙ ap (child_left (create_child numbers (table_of m) args cwd).refused) (grants ∙ ap (λ (l : List ℕ). do_acts l (create_child numbers (table_of m) args cwd).grants) R.begun) ∙ rw call;
      }

-- ---- the whole call

-- a call that has come through its items, by what they sent
pub record Through (link : Link) (l : Lent) (c : List ℕ) (code : ℕ) (bytes ends responses cwd c₁ : List ℕ) (l' : Lent) (c₂ : List ℕ) (r : ChildSent) : Type 0 where
  pub args : Arguments
  pub ran : Ran (numbering link l.number) l.memory c code bytes ends responses cwd args c₁ l'.memory c₂ r.made
  pub admitted : Admits (length ends) link l.words
  pub sent : MakesSent (all_items (numbering link l.number) cwd args.items (table_of l.memory) (table_of c₁)) link l c₁ 0 l' c₂ r

pub through : (link : Link) (l : Lent) (c : List ℕ) (code : ℕ) (bytes ends_of responses cwd : List ℕ) {arg : ChildUnaryPermissionArg} {c₁ : List ℕ} {l' : Lent} {c₂ : List ℕ} {r : ChildSent}
    → Passed link l.memory l.words c code (item_list bytes ends_of responses) arg → c₁ ≡ put (first_child arg (table_of l.memory)) c
    → SendsItems cwd (items_of arg bytes ends_of) responses link l c₁ l' c₂ r → Through link l c code bytes ends_of responses cwd c₁ l' c₂ r
through link l c code bytes ends_of responses cwd {arg} P b S =
    let K = all_known responses P.responses in
    let sent = S K.responses K.are in
    record {
      args = record { arg = arg; items = items_of arg bytes ends_of K.responses };
      ran = ran (numbering link l.number) l.memory c code bytes ends_of responses cwd P.parent P.child P.known P.ordered K b sent.makes;
      admitted = P.admits;
      sent = sent;
    }

-- both memories then hold tables
pub through-held : {link : Link} {l : Lent} {c : List ℕ} {code : ℕ} {bytes ends_of responses cwd c₁ c₂ : List ℕ} {l' : Lent} {r : ChildSent}
    → Through link l c code bytes ends_of responses cwd c₁ l' c₂ r → (holds l'.memory ≡ true) × (holds c₂ ≡ true)
through-held T = (items-parent T.ran, items-child T.ran)

pub creates : {link : Link} {l : Lent} {c : List ℕ} {code : ℕ} {bytes ends_of responses cwd c₁ c₂ : List ℕ} {l' : Lent} {r : ChildSent}
    → Through link l c code bytes ends_of responses cwd c₁ l' c₂ r
    → {c₃ : List ℕ} {o : Result Unit} {a : ChildSent} → Completes (after_items r.made.outcome (take_over (table_of l'.memory) (table_of c₂))) c₂ c₃ o
    → a ≡ child_sent o r.made.asked r.words → CreatesChild link l c code (item_list bytes ends_of responses) cwd l' c₃ a
creates {link} {l} {c} {code} {bytes} {ends_of} {responses} {cwd} T C f =
    let R = T.ran in
    let call = child-known link l c code bytes ends_of responses cwd R.holding R.long T.admitted T.args R.read in
    rw f (record { creates = creates-by R call C; sends = sends-recorded (parent_by R call) (rw (← acts-are R call) at T.sent.records) })
