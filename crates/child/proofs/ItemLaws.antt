-- Laws of the items: what the parent's check of one and the child's grant come to, and the items of a list in turn.
use Rattle.std.specs.Prelude.{Option, None, Some, Ok, Err}
use Prim.Native.Nat.{ℕ, ◌+◌, ◌-◌, ◌≤◌, ◌<◌}
use mathlib.Core.Logic.{◌⊎◌, inl, inr}
use mathlib.Core.Path.{◌≡◌, refl, sym, ap, subst, ◌∙◌}
use mathlib.Core.List.{List, [], ◌∷◌, append-nil}
use mathlib.Core.Bool.{Bool, true, false}
use native.Mathlib.Omega.{arith}
use lib.ListN.{length, get_or, take, drop, drop_of_length-le}
use Rattle.refusals.specs.declared.Refusal.{Refusal}
use Rattle.refusals.specs.Refusals.{Result}
use Rattle.paths.specs.declared.Descriptor.{Descriptor}
use Rattle.paths.specs.declared.Descriptor.TheVariants.{NoPath, Path}
use Rattle.paths.specs.Resolving.{resolve}
use Rattle.paths.specs.Giving.{Query, query_of}
use Rattle.paths.proofs.GivingLaws.{Stands}
use Rattle.table.specs.Tables.{Table}
use Rattle.table.specs.Acts.{apply_acts}
use Rattle.table.specs.Memory.{table_of, holds, do_acts}
use Rattle.table.specs.Carrying.{outcome_of}
use Rattle.table.proofs.ActLaws.{acts-append, Acted, acted-none, outcome-done, outcome-refused}
use Rattle.link.specs.declared.Link.{Link}
use Rattle.link.specs.Linking.{Numbering, numbering, past}
use Rattle.link.specs.Sending.{Lent}
use Rattle.deciding.specs.declared.PromptResponse.{PromptResponse}
use Rattle.deciding.specs.declared.Call.TheVariants.{Check}
use Rattle.calls.specs.declared.Settled.{Settled}
use Rattle.deciding.specs.Decisions.{response_of, Decision}
use Rattle.calls.specs.Calls.{settled, Settles}
use Rattle.calls.proofs.AskLaws.{settled-refused, settled-told, settled-stands, decided-stands}
use Rattle.calls.proofs.KeepLaws.{settled-acted}
use Rattle.child.specs.declared.ChildMade.{ChildMade}
use Rattle.child.specs.declared.ChildUnaryPermissionArg.{ChildUnaryPermissionArg}
use Rattle.child.specs.declared.ChildUnaryPermissionArg.TheVariants.{Inherit, Granted, NotGranted}
use Rattle.items.specs.Items.{known_responses, Item, list_items, close_at}
use Rattle.child.specs.Arguments.{granted_item, items_of}
use Rattle.child.specs.Making.{Made, nothing, then, count_of, passed_on, checked, item_by, item_step, all_items, onward}
use Rattle.child.specs.Steps.{child_made, Makes, MakesChild}
use Rattle.items.proofs.ItemListLaws.{drop-next, known-drop, closing-next}
use Rattle.child.proofs.MakingLaws.{then-stops, then-goes, passed-asked, pass-acted, item-acts, item-grants}

-- ---- one item

-- what it asks about is what the space stands for
pub stands-query : {d : Descriptor} {p cwd : List ℕ} {n : ℕ} {s : List ℕ} → Stands d p cwd n s → query_of d (take n s) ≡ query_of d (resolve p cwd)
stands-query {d = NoPath} S = unfold query_of in refl
stands-query {d = Path} S = ap (query_of Path) (S.bytes refl)

item-outcome : (decision : Decision) (q : Query) (u : Table) → (item_by (Ok decision) q u).refused ≡ (passed_on decision.state q u).refused
unfolding item_by checked onward
item-outcome decision q u = refl

item-asked : (decision : Decision) (q : Query) (u : Table) → (item_by (Ok decision) q u).asked ≡ count_of decision.asked
unfolding item_by checked onward
item-asked decision q u = rw (passed-asked decision.state q u) (omega arith)

module _ {link : Link} {l : Lent} {at : ℕ} {d : Descriptor} {p cwd : List ℕ} {response : PromptResponse} {s : List ℕ} {l' : Lent} {s' : List ℕ} {r : Result Settled}
    (S : Settles Check link l at d p cwd response s l' s' r) where
  -- the parent's check is refused
  pub item_refused : {cause : Refusal} (c : List ℕ) → r ≡ Err cause
      → Makes (item_step (numbering link l.number) cwd (record { descriptor = d; given = p; response = response }) (table_of l.memory) (table_of c)) l.memory c l'.memory c (child_made (Err cause) 0)
  unfolding item_step item_by outcome_of do_acts
  item_refused c e = record {
    outcome = rw (settled-refused S e);
    asked = rw (settled-refused S e);
    parent = S.memory ∙ ap (do_acts l.memory) (sym (item-acts (settled Check (numbering link l.number) (table_of l.memory) d p cwd response) _ (table_of c)));
    child = rw (settled-refused S e);
  }

  -- it comes to an end, and what passes is granted
  pub item-made : {o : Settled} {c c' : List ℕ} {out : Result Unit} → r ≡ Ok o
      → MakesChild (passed_on o.state (query_of d (take o.size s')) (table_of c)) c c' out
      → Makes (item_step (numbering link l.number) cwd (record { descriptor = d; given = p; response = response }) (table_of l.memory) (table_of c)) l.memory c l'.memory c' (child_made out (count_of o.asked))
  unfolding item_step
  item-made {c = c} e M =
      let T = settled-told S e in
      let q = stands-query (settled-stands S e) in
      let P = rw (q, T.state-is) at M in
      record {
        outcome = P.outcome ∙ ap outcome_of (sym (ap (λ (x : Result Decision). (item_by x (query_of d (resolve p cwd)) (table_of c)).refused) T.is ∙ item-outcome T.decision _ (table_of c)));
        asked = ap count_of T.asked_is ∙ sym (ap (λ (x : Result Decision). (item_by x (query_of d (resolve p cwd)) (table_of c)).asked) T.is ∙ item-asked T.decision _ (table_of c));
        parent = S.memory ∙ ap (do_acts l.memory) (sym (item-acts (settled Check (numbering link l.number) (table_of l.memory) d p cwd response) _ (table_of c)));
        child = P.child ∙ ap (do_acts c) (sym (item-grants (settled Check (numbering link l.number) (table_of l.memory) d p cwd response) _ (table_of c) T.is));
      }

-- ---- what memory has that an item left

module _ (numbers : Numbering) (cwd : List ℕ) (i : Item) (m c : List ℕ) (h : holds m ≡ true) (k : holds c ≡ true) where
  pub item-parent : Acted m (item_step numbers cwd i (table_of m) (table_of c)).acts
  unfolding item_step
  item-parent = rw (item-acts (settled Check numbers (table_of m) i.descriptor i.given cwd i.response) (query_of i.descriptor (resolve i.given cwd)) (table_of c))
      (settled-acted Check numbers m i.descriptor i.given cwd i.response h)

  child-by : (r : Result Decision) → settled Check numbers (table_of m) i.descriptor i.given cwd i.response ≡ r
      → Acted c (item_by r (query_of i.descriptor (resolve i.given cwd)) (table_of c)).grants
  child-by (Err cause) e = unfold item_by in acted-none c k
  child-by (Ok decision) e =
      let S = decided-stands Check numbers (table_of m) i.descriptor i.given cwd i.response [] e in
      rw (item-grants (Ok decision) (query_of i.descriptor (resolve i.given cwd)) (table_of c) {decision = decision} refl)
      (pass-acted decision.state _ c k (rw (stands-query S) at S.fits))

  pub item-child : Acted c (item_step numbers cwd i (table_of m) (table_of c)).grants
  unfolding item_step
  item-child = child-by (settled Check numbers (table_of m) i.descriptor i.given cwd i.response) refl

asked_by : (r : Result Decision) (q : Query) (u : Table) → (item_by r q u).asked ≤ 1
asked_by (Err cause) q u = unfold item_by in omega arith
asked_by (Ok decision) q u = rw (item-asked decision q u) (count_small decision.asked)
  where
    count_small : (b : Bool) → count_of b ≤ 1
    count_small true = unfold count_of in omega arith
    count_small false = unfold count_of in omega arith

pub item-once : (numbers : Numbering) (cwd : List ℕ) (i : Item) (t u : Table) → (item_step numbers cwd i t u).asked ≤ 1
unfolding item_step
item-once numbers cwd i t u = asked_by _ _ u

-- ---- the items of a list, in turn

-- the same steps, after which the operator was asked so often before
unfoldable pub counted : ℕ → Made → Made
counted k made = record { acts = made.acts; grants = made.grants; asked = k + made.asked; refused = made.refused }

module _ (k : ℕ) {a : Made} {m c m₁ c₁ : List ℕ} {r : ChildMade} (A : Makes a m c m₁ c₁ r) where
  makes-stop : (b : Made) {cause : Refusal} {n : ℕ} → r.outcome ≡ Err cause → n ≡ k + r.asked
      → Makes (counted k (then a b)) m c m₁ c₁ (child_made (Err cause) n)
  unfolding counted
  makes-stop b {cause} {n} e f =
      subst (λ (x : Made). Makes (counted k x) m c m₁ c₁ (child_made (Err cause) n)) (sym (then-stops a b (outcome-refused a.refused (sym A.outcome ∙ e))))
      (record { outcome = sym e ∙ A.outcome; asked = f ∙ ap (λ (j : ℕ). k + j) A.asked; parent = A.parent; child = A.child })

  makes-then : (b : Made) {m₂ c₂ : List ℕ} {r₂ : ChildMade} {n : ℕ} → r.outcome ≡ Ok tt → n ≡ k + r.asked → Makes (counted n b) m₁ c₁ m₂ c₂ r₂
      → Makes (counted k (then a b)) m c m₂ c₂ r₂
  unfolding counted
  makes-then b {m₂} {c₂} {r₂} e f B =
      let goes = then-goes a b (outcome-done a.refused (sym A.outcome ∙ e)) in
      subst (λ (x : Made). Makes (counted k x) m c m₂ c₂ r₂) (sym goes)
      (record {
        outcome = B.outcome;
        asked = omega (arith, B.asked, f, A.asked);
        parent = B.parent ∙ ap (λ (l : List ℕ). do_acts l b.acts) A.parent ∙ sym (acts-append m a.acts b.acts);
        child = B.child ∙ ap (λ (l : List ℕ). do_acts l b.grants) A.child ∙ sym (acts-append c a.grants b.grants);
      })

-- The items from i on are still to come, numbered so: whatever they make of m and c, the whole list makes of m₀ and c₀.
pub record Going (numbers₀ numbers : Numbering) (cwd bytes ends responses m₀ c₀ m c : List ℕ) (asked from i : ℕ) : Type 0 where
  pub parent : holds m ≡ true
  pub child : holds c ≡ true
  pub few : asked ≤ i
  pub closes : close_at (length bytes) from (drop i ends) ≡ true
  pub goes : (known : List PromptResponse) → known_responses responses ≡ Ok known → (m' c' : List ℕ) (r : ChildMade)
      → Makes (counted asked (all_items numbers cwd (list_items bytes from (drop i ends) (drop i known)) (table_of m) (table_of c))) m c m' c' r
      → Makes (all_items numbers₀ cwd (list_items bytes 0 ends known) (table_of m₀) (table_of c₀)) m₀ c₀ m' c' r

pub going_start : (numbers : Numbering) (cwd bytes ends responses m c : List ℕ) → holds m ≡ true → holds c ≡ true → close_at (length bytes) 0 ends ≡ true
    → Going numbers numbers cwd bytes ends responses m c m c 0 0 0
unfolding counted
going_start numbers cwd bytes ends responses m c h k e = record {
  parent = h;
  child = k;
  few = omega arith;
  closes = e;
  goes = λ known f m' c' r M. record { outcome = M.outcome; asked = omega (arith, M.asked); parent = M.parent; child = M.child };
}

-- the next item of the list
pub next-item : (cwd bytes : List ℕ) (from : ℕ) (ends : List ℕ) (i : ℕ) (responses : List ℕ) (known : List PromptResponse) {response : PromptResponse}
    → i < length ends → i < length responses → known_responses responses ≡ Ok known → response_of (get_or responses i 0) ≡ Some response
    → list_items bytes from (drop i ends) (drop i known)
    ≡ record { descriptor = Path; given = take (get_or ends i 0 - from) (drop from bytes); response = response }
    ∷ list_items bytes (get_or ends i 0) (drop (i + 1) ends) (drop (i + 1) known)
unfolding list_items
next-item cwd bytes from ends i responses known h l k e = rw (drop-next ends i h, known-drop responses known i k l e)

module _ {numbers₀ numbers : Numbering} {cwd bytes ends responses m₀ c₀ m c : List ℕ} {asked from i : ℕ} (G : Going numbers₀ numbers cwd bytes ends responses m₀ c₀ m c asked from i)
    (h : i < length ends) (l : i < length responses) {response : PromptResponse} (e : response_of (get_or responses i 0) ≡ Some response)
    {end : ℕ} (f : end ≡ get_or ends i 0) where
  abbrev item : Item
  item = record { descriptor = Path; given = take (end - from) (drop from bytes); response = response }

  pub first-item : (known : List PromptResponse) → known_responses responses ≡ Ok known
      → all_items numbers cwd (list_items bytes from (drop i ends) (drop i known)) (table_of m) (table_of c)
      ≡ then (item_step numbers cwd item (table_of m) (table_of c))
      (all_items (past numbers (item_step numbers cwd item (table_of m) (table_of c)).acts) cwd (list_items bytes end (drop (i + 1) ends) (drop (i + 1) known))
      (apply_acts (table_of m) (item_step numbers cwd item (table_of m) (table_of c)).acts)
      (apply_acts (table_of c) (item_step numbers cwd item (table_of m) (table_of c)).grants))
  unfolding all_items
  first-item known k = rw (f) (rw (next-item cwd bytes from ends i responses known h l k e))

  module _ {m₁ c₁ : List ℕ} {r : ChildMade} (A : Makes (item_step numbers cwd item (table_of m) (table_of c)) m c m₁ c₁ r) where
    -- its outcome counts once at most
    pub going-once : r.asked ≤ 1
    going-once = rw A.asked (item-once numbers cwd item (table_of m) (table_of c))

    pub left-parent : Acted m (item_step numbers cwd item (table_of m) (table_of c)).acts
    left-parent = item-parent numbers cwd item m c G.parent G.child

    pub left-child : Acted c (item_step numbers cwd item (table_of m) (table_of c)).grants
    left-child = item-child numbers cwd item m c G.parent G.child

    pub going-stops : {cause : Refusal} {n : ℕ} → r.outcome ≡ Err cause → n ≡ asked + r.asked
        → (known : List PromptResponse) → known_responses responses ≡ Ok known
        → Makes (all_items numbers₀ cwd (list_items bytes 0 ends known) (table_of m₀) (table_of c₀)) m₀ c₀ m₁ c₁ (child_made (Err cause) n)
    going-stops o g known k = G.goes known k m₁ c₁ _ (rw (first-item known k) (makes-stop asked A _ o g))

    pub going_next : {n : ℕ} {next : Numbering} → r.outcome ≡ Ok tt → n ≡ asked + r.asked
        → next ≡ past numbers (item_step numbers cwd item (table_of m) (table_of c)).acts → Going numbers₀ next cwd bytes ends responses m₀ c₀ m₁ c₁ n end (i + 1)
    going_next {n} o g p = record {
      parent = rw A.parent left-parent.holding;
      child = rw A.child left-child.holding;
      few = omega (arith, G.few, A.asked, item-once numbers cwd item (table_of m) (table_of c));
      closes = rw f (closing-next (length bytes) from ends i h G.closes).rest;
      goes = λ known k m' c' r' M.
          let tables : (table_of m₁ ≡ apply_acts (table_of m) (item_step numbers cwd item (table_of m) (table_of c)).acts) = ap table_of A.parent ∙ left-parent.table in
          let others : (table_of c₁ ≡ apply_acts (table_of c) (item_step numbers cwd item (table_of m) (table_of c)).grants) = ap table_of A.child ∙ left-child.table in
          G.goes known k m' c' r' (rw (first-item known k) (makes-then asked A _ o g (rw (p, tables, others) at M)));
    }

pub going_done : {numbers₀ numbers : Numbering} {cwd bytes ends responses m₀ c₀ m c : List ℕ} {asked from i : ℕ} → Going numbers₀ numbers cwd bytes ends responses m₀ c₀ m c asked from i → length ends ≤ i
    → (known : List PromptResponse) → known_responses responses ≡ Ok known
    → Makes (all_items numbers₀ cwd (list_items bytes 0 ends known) (table_of m₀) (table_of c₀)) m₀ c₀ m c (child_made (Ok tt) asked)
unfolding counted list_items all_items outcome_of do_acts
going_done {ends = ends} {m = m} {c = c} {asked = asked} G l known k =
    G.goes known k m c _ (rw (drop_of_length-le ends l) (record { outcome = refl; asked = omega arith; parent = refl; child = refl }))

-- ---- the items of any argument

module _ (numbers : Numbering) {arg : ChildUnaryPermissionArg} (cwd bytes ends : List ℕ) (known : List PromptResponse) {m c : List ℕ} where
  -- none
  pub all-none : (arg ≡ Inherit) ⊎ (arg ≡ NotGranted) → Makes (all_items numbers cwd (items_of arg bytes ends known) (table_of m) (table_of c)) m c m c (child_made (Ok tt) 0)
  unfolding items_of all_items outcome_of do_acts
  all-none (inl e) = rw e (record { outcome = refl; asked = refl; parent = refl; child = refl })
  all-none (inr e) = rw e (record { outcome = refl; asked = refl; parent = refl; child = refl })

-- one
makes-alone : (a : Made) (o : Option Refusal) {m c m' c' : List ℕ} {r : ChildMade} → a.refused ≡ o → Makes a m c m' c' r → Makes (then a nothing) m c m' c' r
makes-alone a None {m} {c} {m'} {c'} {r} e A =
    subst (λ (x : Made). Makes x m c m' c' r) (sym (then-goes a nothing e))
    (record {
      outcome = A.outcome ∙ ap outcome_of e;
      asked = omega (arith, A.asked);
      parent = A.parent ∙ ap (do_acts m) (sym (append-nil a.acts));
      child = A.child ∙ ap (do_acts c) (sym (append-nil a.grants));
    })
makes-alone a (Some cause) {m} {c} {m'} {c'} {r} e A = subst (λ (x : Made). Makes x m c m' c' r) (sym (then-stops a nothing e)) A

pub all_one : (numbers : Numbering) {arg : ChildUnaryPermissionArg} (cwd bytes ends responses : List ℕ) (known : List PromptResponse) {response : PromptResponse} {m c m' c' : List ℕ} {r : ChildMade}
    → arg ≡ Granted → 0 < length responses → known_responses responses ≡ Ok known → response_of (get_or responses 0 0) ≡ Some response
    → Makes (item_step numbers cwd (record { descriptor = NoPath; given = []; response = response }) (table_of m) (table_of c)) m c m' c' r
    → Makes (all_items numbers cwd (items_of arg bytes ends known) (table_of m) (table_of c)) m c m' c' r
unfolding items_of granted_item all_items
all_one numbers cwd bytes ends responses known g h k e A =
    rw (g, known-drop responses known 0 k h e) (makes-alone _ _ refl A)
