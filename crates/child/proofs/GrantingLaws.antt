-- Laws of the items of a linked child call: what one sends, and the items of a list in turn.
use Rattle.std.specs.Prelude.{Option, None, Some, Ok, Err}
use Prim.Native.Nat.{ℕ, ◌+◌, ◌-◌, ◌*◌, ◌≤◌, ◌<◌}
use Rattle.std.specs.Int.{from_bool}
use mathlib.Core.Logic.{◌⊎◌, inl, inr}
use mathlib.Core.Path.{◌≡◌, refl, sym, ap, subst, ◌∙◌}
use mathlib.Core.List.{List, [], append-nil}
use mathlib.Core.Bool.{Bool, true, false}
use native.Mathlib.Omega.{arith}
use lib.ListN.{length, get_or, take, drop, drop_of_length-le}
use Rattle.refusals.specs.declared.Refusal.{Refusal}
use Rattle.refusals.specs.Refusals.{Result}
use Rattle.paths.specs.declared.Descriptor.{Descriptor}
use Rattle.paths.specs.declared.Descriptor.TheVariants.{NoPath, Path}
use Rattle.paths.specs.Giving.{query_of}
use Rattle.table.specs.Acts.{Act, apply_acts}
use Rattle.table.specs.Memory.{table_of, holds}
use Rattle.table.proofs.ActLaws.{outcome-done, outcome-refused}
use Rattle.records.specs.Numbers.{record_space}
use Rattle.link.specs.declared.Link.{Link}
use Rattle.link.specs.Linking.{numbering, past}
use Rattle.link.specs.Sending.{lent}
use Rattle.link.specs.Steps.{Admits, Ready, Records}
use Rattle.link.proofs.LinkLaws.{least-one, least-many, ready_by, admits-same}
use Rattle.link.proofs.SendingLaws.{records-none, records-then, past-records}
use Rattle.deciding.specs.declared.PromptResponse.{PromptResponse}
use Rattle.deciding.specs.declared.Call.TheVariants.{Check}
use Rattle.calls.specs.declared.Settled.{Settled}
use Rattle.deciding.specs.Decisions.{response_of}
use Rattle.calls.specs.Calls.{settled, decided_acts, Settles}
use Rattle.calls.proofs.AskLaws.{settled-told, stopped-records}
use Rattle.child.specs.declared.ChildSent.{ChildSent}
use Rattle.child.specs.declared.ChildUnaryPermissionArg.{ChildUnaryPermissionArg}
use Rattle.child.specs.declared.ChildUnaryPermissionArg.TheVariants.{Inherit, Granted, NotGranted, GrantedList}
use Rattle.items.specs.Items.{known_responses, Item, list_items, close_at}
use Rattle.child.specs.Arguments.{granted_item, items_of}
use Rattle.child.specs.Making.{Made, nothing, then, count_of, passed_on, item_step, all_items}
use Rattle.child.specs.Steps.{child_sent, MakesChild, MakesSent, SendsItem}
use Rattle.child.proofs.MakingLaws.{then-stops, then-goes, item-acts}
use Rattle.items.proofs.ItemListLaws.{known-drop}
use Rattle.child.proofs.ItemLaws.{item_refused, item-made, Going, going_start, first-item, going-once, left-parent, left-child, going-stops, going_next, going_done, all-none, all_one}

-- ---- one item

-- how often it asks, as the code counts it
from-count : (asked : Bool) → from_bool asked ≡ count_of asked
unfolding count_of
from-count true = refl
from-count false = refl

module _ {link : Link} {m : List ℕ} {n : ℕ} {w : List ℕ} {at : ℕ} {d : Descriptor} {p cwd : List ℕ} {response : PromptResponse} {s m' : List ℕ} {n' : ℕ} {w' s' : List ℕ} {r : Result Settled}
    (S : Settles Check link (lent m n w) at d p cwd response s (lent m' n' w') s' r) where
  abbrev item : Item
  item = record { descriptor = d; given = p; response = response }

  item_by : (u : List ℕ) → (item_step (numbering link n) cwd item (table_of m) (table_of u)).acts ≡ decided_acts (settled Check (numbering link n) (table_of m) d p cwd response)
  unfolding item_step
  item_by u = item-acts (settled Check (numbering link n) (table_of m) d p cwd response) _ (table_of u)

  -- the parent's check is refused: there is no record
  pub item-stops : {cause : Refusal} (c : List ℕ) {a : ChildSent} → r ≡ Err cause → a ≡ child_sent (Err cause) 0 at → SendsItem cwd item link (lent m n w) c at (lent m' n' w') c a
  item-stops {cause} c e f = rw f (record {
    sent = record { makes = item_refused S c e; records = rw (item_by c) (stopped-records S e) };
    few = omega arith;
  })

  -- it comes to an end, and what passes is granted
  pub item-sends : {o : Settled} {c c' : List ℕ} {out : Result Unit} {times : ℕ} {a : ChildSent} → r ≡ Ok o
      → MakesChild (passed_on o.state (query_of d (take o.size s')) (table_of c)) c c' out → times ≡ from_bool o.asked → a ≡ child_sent out times o.words
      → SendsItem cwd item link (lent m n w) c at (lent m' n' w') c' a
  item-sends {o} {c} e M f g = let words = (settled-told S e).words-is in rw (g, f, from-count o.asked) (record {
    sent = record { makes = item-made S e M; records = rw (item_by c, words) S.records };
    few = rw words S.few;
  })

-- ---- the items of a list, in turn

-- The items from i on are still to come: whatever they make, the whole list makes, and whatever they record from `at` on, the whole list records from the
-- start.
pub record GoingSent (cwd bytes ends responses m₀ c₀ : List ℕ) (link : Link) (n₀ : ℕ) (w₀ m c : List ℕ) (n : ℕ) (w : List ℕ) (asked at from i : ℕ) : Type 0 where
  pub items : Going (numbering link n₀) (numbering link n) cwd bytes ends responses m₀ c₀ m c asked from i
  pub tested : Admits (length ends) link w
  pub few : at ≤ record_space * i
  pub goes : (known : List PromptResponse) → known_responses responses ≡ Ok known → (n' : ℕ) (w' : List ℕ) (r : ℕ)
      → Records link (all_items (numbering link n) cwd (list_items bytes from (drop i ends) (drop i known)) (table_of m) (table_of c)).acts n w at n' w' r
      → Records link (all_items (numbering link n₀) cwd (list_items bytes 0 ends known) (table_of m₀) (table_of c₀)).acts n₀ w₀ 0 n' w' r

pub sent-start : (cwd bytes ends responses m c : List ℕ) (link : Link) (n : ℕ) (w : List ℕ) → holds m ≡ true → holds c ≡ true → close_at (length bytes) 0 ends ≡ true
    → Admits (length ends) link w → GoingSent cwd bytes ends responses m c link n w m c n w 0 0 0 0
sent-start cwd bytes ends responses m c link n w h k e s = record {
  items = going_start (numbering link n) cwd bytes ends responses m c h k e;
  tested = s;
  few = omega arith;
  goes = λ known f n' w' r R. R;
}

module _ {cwd bytes ends responses m₀ c₀ : List ℕ} {link : Link} {n₀ : ℕ} {w₀ m c : List ℕ} {n : ℕ} {w : List ℕ} {asked at from i : ℕ}
    (G : GoingSent cwd bytes ends responses m₀ c₀ link n₀ w₀ m c n w asked at from i)
    (h : i < length ends) (l : i < length responses) {response : PromptResponse} (e : response_of (get_or responses i 0) ≡ Some response)
    {end : ℕ} (f : end ≡ get_or ends i 0) where
  -- a record's space is left
  pub sent-room : Ready link w at
  sent-room = ready_by (length ends) link w at G.tested (omega (arith, G.few, least-many (length ends)))

  abbrev next : Item
  next = record { descriptor = Path; given = take (end - from) (drop from bytes); response = response }

  abbrev step : Made
  step = item_step (numbering link n) cwd next (table_of m) (table_of c)

  module _ {m₁ c₁ : List ℕ} {n₁ : ℕ} {w₁ : List ℕ} {r : ChildSent} (A : SendsItem cwd next link (lent m n w) c at (lent m₁ n₁ w₁) c₁ r) where
    pub sent-once : r.made.asked ≤ 1
    sent-once = going-once G.items h l e f A.sent.makes

    pub sent-stops : {cause : Refusal} {k : ℕ} {a : ChildSent} → r.made.outcome ≡ Err cause → k ≡ asked + r.made.asked → a ≡ child_sent (Err cause) k r.words
        → (known : List PromptResponse) → known_responses responses ≡ Ok known
        → MakesSent (all_items (numbering link n₀) cwd (list_items bytes 0 ends known) (table_of m₀) (table_of c₀)) link (lent m₀ n₀ w₀) c₀ 0 (lent m₁ n₁ w₁) c₁ a
    sent-stops o k g known j =
        let stops = first-item G.items h l e f known j ∙ then-stops step _ (outcome-refused step.refused (sym A.sent.makes.outcome ∙ o)) in
        rw g (record {
          makes = going-stops G.items h l e f A.sent.makes o k known j;
          records = G.goes known j n₁ w₁ r.words
              (subst (λ (acts : List Act). Records link acts n w at n₁ w₁ r.words) (sym (ap (λ (x : Made). x.acts) stops)) A.sent.records);
        })

    numbers : numbering link n₁ ≡ past (numbering link n) step.acts
    numbers = past-records A.sent.records

    pub sent-next : {k : ℕ} → r.made.outcome ≡ Ok tt → k ≡ asked + r.made.asked → length w₁ ≡ length w
        → GoingSent cwd bytes ends responses m₀ c₀ link n₀ w₀ m₁ c₁ n₁ w₁ k r.words end (i + 1)
    sent-next {k} o g s = record {
      items = going_next G.items h l e f A.sent.makes o g numbers;
      tested = admits-same s G.tested;
      few = omega (arith, A.few, G.few);
      goes = λ known j n' w' r' R.
          let tables : (table_of m₁ ≡ apply_acts (table_of m) step.acts) = ap table_of A.sent.makes.parent ∙ (left-parent G.items h l e f A.sent.makes).table in
          let others : (table_of c₁ ≡ apply_acts (table_of c) step.grants) = ap table_of A.sent.makes.child ∙ (left-child G.items h l e f A.sent.makes).table in
          let goes_on = first-item G.items h l e f known j ∙ then-goes step _ (outcome-done step.refused (sym A.sent.makes.outcome ∙ o)) in
          G.goes known j n' w' r'
          (subst (λ (acts : List Act). Records link acts n w at n' w' r') (sym (ap (λ (x : Made). x.acts) goes_on))
          (records-then (λ own j. omega (arith, A.few, sent-room.room own j)) A.sent.records (rw (numbers, tables, others) at R)));
    }

pub sent-done : {cwd bytes ends responses m₀ c₀ : List ℕ} {link : Link} {n₀ : ℕ} {w₀ m c : List ℕ} {n : ℕ} {w : List ℕ} {asked at from i : ℕ}
    → GoingSent cwd bytes ends responses m₀ c₀ link n₀ w₀ m c n w asked at from i → length ends ≤ i → {a : ChildSent} → a ≡ child_sent (Ok tt) asked at
    → (known : List PromptResponse) → known_responses responses ≡ Ok known
    → MakesSent (all_items (numbering link n₀) cwd (list_items bytes 0 ends known) (table_of m₀) (table_of c₀)) link (lent m₀ n₀ w₀) c₀ 0 (lent m n w) c a
unfolding list_items all_items
sent-done {ends = ends} {link = link} {n = n} {w = w} {at = at} G l e known k =
    rw e (record { makes = going_done G.items l known k; records = G.goes known k n w at (rw (drop_of_length-le ends l) (records-none link n w at)) })

-- ---- the items of any argument

-- there is room for one
pub one-ready : (k : ℕ) (link : Link) (w : List ℕ) → Admits k link w → Ready link w 0
one-ready k link w e = ready_by k link w 0 e (omega (arith, least-one k))

module _ {arg : ChildUnaryPermissionArg} (cwd bytes ends : List ℕ) (known : List PromptResponse) {m c : List ℕ} {link : Link} {n : ℕ} {w : List ℕ} {a : ChildSent} where
  -- none
  pub sent-none : (arg ≡ Inherit) ⊎ (arg ≡ NotGranted) → a ≡ child_sent (Ok tt) 0 0
      → MakesSent (all_items (numbering link n) cwd (items_of arg bytes ends known) (table_of m) (table_of c)) link (lent m n w) c 0 (lent m n w) c a
  unfolding items_of all_items
  sent-none e f = rw f (record { makes = all-none (numbering link n) cwd bytes ends known e; records = none-acts e })
    where
      none-acts : (arg ≡ Inherit) ⊎ (arg ≡ NotGranted) → Records link (all_items (numbering link n) cwd (items_of arg bytes ends known) (table_of m) (table_of c)).acts n w 0 n w 0
      none-acts (inl e) = rw e (records-none link n w 0)
      none-acts (inr e) = rw e (records-none link n w 0)

alone-acts : (a : Made) (o : Option Refusal) → a.refused ≡ o → (then a nothing).acts ≡ a.acts
alone-acts a None e = ap (λ (x : Made). x.acts) (then-goes a nothing e) ∙ append-nil a.acts
alone-acts a (Some cause) e = ap (λ (x : Made). x.acts) (then-stops a nothing e)

pub sent-one : {arg : ChildUnaryPermissionArg} (cwd bytes ends responses : List ℕ) (known : List PromptResponse) {response : PromptResponse} {m c : List ℕ} {link : Link} {n : ℕ} {w m' c' : List ℕ} {n' : ℕ} {w' : List ℕ} {r : ChildSent}
    → arg ≡ Granted → 0 < length responses → known_responses responses ≡ Ok known → response_of (get_or responses 0 0) ≡ Some response
    → SendsItem cwd (record { descriptor = NoPath; given = []; response = response }) link (lent m n w) c 0 (lent m' n' w') c' r
    → MakesSent (all_items (numbering link n) cwd (items_of arg bytes ends known) (table_of m) (table_of c)) link (lent m n w) c 0 (lent m' n' w') c' r
unfolding items_of granted_item all_items
sent-one cwd bytes ends responses known {response} {m} {c} {link} {n} {w} {n' = n'} {w' = w'} {r = r} g h k e A = record {
  makes = all_one (numbering link n) cwd bytes ends responses known g h k e A.sent.makes;
  records = rw (g, known-drop responses known 0 k h e)
      (subst (λ (acts : List Act). Records link acts n w 0 n' w' r.words) (sym (alone-acts (item_step (numbering link n) cwd (record { descriptor = NoPath; given = []; response = response }) (table_of m) (table_of c)) _ refl)) A.sent.records);
}

pub sent-list : {arg : ChildUnaryPermissionArg} (cwd bytes ends : List ℕ) (known : List PromptResponse) {m c : List ℕ} {link : Link} {n : ℕ} {w m' c' : List ℕ} {n' : ℕ} {w' : List ℕ} {r : ChildSent} → arg ≡ GrantedList
    → MakesSent (all_items (numbering link n) cwd (list_items bytes 0 ends known) (table_of m) (table_of c)) link (lent m n w) c 0 (lent m' n' w') c' r
    → MakesSent (all_items (numbering link n) cwd (items_of arg bytes ends known) (table_of m) (table_of c)) link (lent m n w) c 0 (lent m' n' w') c' r
unfolding items_of
sent-list cwd bytes ends known g A = rw g A
