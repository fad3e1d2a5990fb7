-- What the functions inside the crate ensure, step by step; `Calls.antt` has what they come to.
use Rattle.std.specs.Prelude.{ℕ, ◌+◌, ◌≤◌, ◌≡◌, List, Bool, true, false, length, Ok, Err}
use Rattle.refusals.specs.Refusals.{Result}
use Rattle.table.specs.Entries.{Entry}
use Rattle.table.specs.Tables.{Table}
use Rattle.table.specs.Acts.{insert}
use Rattle.table.specs.Memory.{table_bytes, table_of, holds, do_acts}
use Rattle.table.specs.Carrying.{outcome_of}
use Rattle.records.specs.Numbers.{record_space}
use Rattle.link.specs.declared.Link.{Link}
use Rattle.link.specs.Linking.{numbering}
use Rattle.link.specs.Sending.{Lent, lent}
use Rattle.link.specs.Steps.{Admits, Records}
use Rattle.deciding.specs.declared.PromptResponse.{PromptResponse}
use Rattle.child.specs.declared.ChildUnaryPermissionArg.{ChildUnaryPermissionArg}
use Rattle.child.specs.declared.ChildMade.{ChildMade}
use Rattle.child.specs.declared.ChildSent.{ChildSent}
use Rattle.items.specs.Items.{known_responses, Item, ItemList}
use Rattle.items.specs.Steps.{are_responses}
use Rattle.child.specs.Making.{Made, nothing, refused_by, granted_by, item_step, all_items}
use Rattle.child.specs.Arguments.{arg_of, known_arg, are_in_order}
use Rattle.child.specs.Calls.{child_call, child_left}

-- ---- steps in memory

abbrev pub child_made : Result Unit → ℕ → ChildMade
child_made outcome asked = record { outcome = outcome; asked = asked }

-- memory m of the parent and c of the child become m' and c'
pub record Makes (made : Made) (m c m' c' : List ℕ) (r : ChildMade) : Type 0 where
  pub outcome : r.outcome ≡ outcome_of made.refused
  pub asked : r.asked ≡ made.asked
  pub parent : m' ≡ do_acts m made.acts
  pub child : c' ≡ do_acts c made.grants

-- ---- the items, with their records

abbrev pub child_sent : Result Unit → ℕ → ℕ → ChildSent
child_sent outcome asked words = record { made = child_made outcome asked; words = words }

-- what is made of the parent's memory, which l lends, and the child's c, and the records of the acts on the parent
pub record MakesSent (made : Made) (link : Link) (l : Lent) (c : List ℕ) (at : ℕ) (l' : Lent) (c' : List ℕ) (r : ChildSent) : Type 0 where
  pub makes : Makes made l.memory c l'.memory c' r.made
  pub records : Records link made.acts l.number l.words at l'.number l'.words r.words

-- one item, with its answer: it takes one record's space at most
pub record SendsItem (cwd : List ℕ) (item : Item) (link : Link) (l : Lent) (c : List ℕ) (at : ℕ) (l' : Lent) (c' : List ℕ) (r : ChildSent) : Type 0 where
  pub sent : MakesSent (item_step (numbering link l.number) cwd item (table_of l.memory) (table_of c)) link l c at l' c' r
  pub few : r.words ≤ at + record_space

-- the items that come of the answers, where all of them are known
abbrev pub SendsItems : List ℕ → (List PromptResponse → List Item) → List ℕ → Link → Lent → List ℕ → Lent → List ℕ → ChildSent → Type 0
SendsItems cwd items responses link l c l' c' r = (known : List PromptResponse) → known_responses responses ≡ Ok known
    → MakesSent (all_items (numbering link l.number) cwd (items known) (table_of l.memory) (table_of c)) link l c 0 l' c' r

-- the same for steps that change the child's memory alone
pub record MakesChild (made : Made) (c c' : List ℕ) (r : Result Unit) : Type 0 where
  pub outcome : r ≡ outcome_of made.refused
  pub child : c' ≡ do_acts c made.grants

-- one entry of the parent inserted into the child's table u again, unless it is a G
unfoldable pub reinserted_by : Bool → Entry → Table → Made
reinserted_by true e u = nothing
reinserted_by false e u = granted_by (insert e) u

-- what is made after the items, by their outcome
unfoldable pub after_items : Result Unit → Made → Made
after_items (Ok done) made = made
after_items (Err cause) made = refused_by cause

-- from there to the end: the child's memory c becomes c'
pub record Completes (made : Made) (c c' : List ℕ) (r : Result Unit) : Type 0 where
  pub outcome : r ≡ outcome_of made.refused
  pub child : c' ≡ child_left made.refused (do_acts c made.grants)

-- ---- the tests before the items

-- a call of this argument has passed them: m is the parent's memory, c the child's, w the record space
pub record Passed (link : Link) (m w c : List ℕ) (code : ℕ) (list : ItemList) (arg : ChildUnaryPermissionArg) : Type 0 where
  pub parent : holds m ≡ true
  pub child : table_bytes ≤ length c
  pub admits : Admits (length list.ends) link w
  pub known : known_arg (arg_of code) ≡ Ok arg
  pub responses : are_responses list.responses ≡ true
  pub ordered : are_in_order arg list.bytes list.ends list.responses ≡ true

abbrev pub Tests : Link → List ℕ → List ℕ → List ℕ → ℕ → ItemList → Result ChildUnaryPermissionArg → Type 0
Tests link m w c code list (Ok arg) = Passed link m w c code list arg
Tests link m w c code list (Err cause) = (n : ℕ) (cwd : List ℕ) → child_call link (lent m n w) c code list cwd ≡ Err cause
