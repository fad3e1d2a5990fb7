-- The child call: its checking order, its answer, and both memories after it. Scope, "A call comes in".
use Rattle.std.specs.Prelude.{ℕ, ◌≡◌, List, [], length, Option, None, Some, Ok, Err}
use Rattle.refusals.specs.declared.Refusal.{Refusal}
use Rattle.refusals.specs.Refusals.{Result, and_then}
use Rattle.table.specs.Tables.{Table, fresh}
use Rattle.table.specs.Acts.{Act}
use Rattle.table.specs.Memory.{put, do_acts}
use Rattle.table.specs.Carrying.{outcome_of}
use Rattle.table.specs.Calls.{table_in, fresh_in}
use Rattle.link.specs.declared.Link.{Link}
use Rattle.link.specs.Linking.{room_in, Numbering, run_in}
use Rattle.link.specs.Sending.{Lent, Sends}
use Rattle.items.specs.Items.{ItemList}
use Rattle.child.specs.declared.ChildMade.{ChildMade}
use Rattle.child.specs.declared.ChildSent.{ChildSent}
use Rattle.child.specs.Arguments.{Arguments, arguments_of}
use Rattle.child.specs.Making.{Made, first_child, create_child}

-- the child's first table, and what is made of it
pub record Creation : Type 0 where
  pub first : Table
  pub made : Made

unfoldable pub creation : Numbering → Table → List ℕ → Arguments → Creation
creation numbers t cwd args = record { first = first_child args.arg t; made = create_child numbers t args cwd }

-- 1 of the parent's memory, which l lends, and of the child's c, 2, 3, and then the items
unfoldable pub child_call : Link → Lent → List ℕ → ℕ → ItemList → List ℕ → Result Creation
child_call link l c code list cwd =
    and_then (table_in l.memory) (λ t.
    and_then (fresh_in c) (λ empty.
    and_then (room_in (length list.ends) link l.words) (λ room.
    and_then (run_in link l.number) (λ numbers.
    and_then (arguments_of code list.bytes list.ends list.responses) (λ args.
    Ok (creation numbers t cwd args))))))

-- ---- what a call leaves

-- refused before any item, or on the way, or not at all
unfoldable pub refusal_in : Result Creation → Option Refusal
refusal_in (Err cause) = Some cause
refusal_in (Ok s) = s.made.refused

unfoldable pub times_asked : Result Creation → ℕ
times_asked (Err cause) = 0
times_asked (Ok s) = s.made.asked

-- the parent keeps its acts, also where the call is refused on the way
unfoldable pub child_acts : Result Creation → List Act
child_acts (Err cause) = []
child_acts (Ok s) = s.made.acts

-- after a refusal on the way the child is fresh; the bytes that follow its head are what the half-made table left
unfoldable pub child_left : Option Refusal → List ℕ → List ℕ
child_left None c = c
child_left (Some cause) c = put fresh c

unfoldable pub child_after : Result Creation → List ℕ → List ℕ
child_after (Err cause) c = c
child_after (Ok s) c = child_left s.made.refused (do_acts (put s.first c) s.made.grants)

-- what a call that comes to this answers, and the child's memory c after it
pub record Creates (call : Result Creation) (c c' : List ℕ) (r : ChildMade) : Type 0 where
  pub outcome : r.outcome ≡ outcome_of (refusal_in call)
  pub asked : r.asked ≡ times_asked call
  pub child : c' ≡ child_after call c

-- what is lent with the parent, l, and the child's memory c become l' and c'; acts before a refusal on the way are kept, with their numbers and records
pub record CreatesChild (link : Link) (l : Lent) (c : List ℕ) (code : ℕ) (list : ItemList) (cwd : List ℕ) (l' : Lent) (c' : List ℕ) (r : ChildSent) : Type 0
  where
    pub creates : Creates (child_call link l c code list cwd) c c' r.made
    pub sends : Sends link (child_acts (child_call link l c code list cwd)) l l' r.words
