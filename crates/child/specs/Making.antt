-- The Rust's `create_child_permissions`, step by step, in the scope's order of refusals: a fold of what each item adds. A plain call numbers no
-- act, and a linked one is the same fold. Scope, "A call comes in".
use Rattle.std.specs.Prelude.{ℕ, ◌+◌, List, [], ◌∷◌, ◌++◌, Bool, true, false, cond, Option, None, Some, Ok, Err}
use Rattle.refusals.specs.declared.Refusal.{Refusal}
use Rattle.refusals.specs.declared.Refusal.TheVariants.{TableFull, Escalation}
use Rattle.refusals.specs.Refusals.{Result}
use Rattle.paths.specs.Resolving.{resolve}
use Rattle.paths.specs.Giving.{Query, query_of}
use Rattle.table.specs.Entries.{Entry, is_granted}
use Rattle.table.specs.Tables.{Table, fresh, has, set_bit, clear_bit, granted}
use Rattle.table.specs.Acts.{Act, insert, set_switches, without, act_overflows, apply_act, apply_acts}
use Rattle.table.specs.Carrying.{acts_of}
use Rattle.link.specs.Linking.{Numbering, past}
use Rattle.walk.specs.declared.PermissionState.{PermissionState}
use Rattle.deciding.specs.declared.Call.TheVariants.{Check}
use Rattle.deciding.specs.Decisions.{Decision, grant_act, passes}
use Rattle.calls.specs.Calls.{settled}
use Rattle.items.specs.Items.{Item}
use Rattle.child.specs.declared.ChildUnaryPermissionArg.{ChildUnaryPermissionArg}
use Rattle.child.specs.declared.ChildUnaryPermissionArg.TheVariants.{Inherit, Granted, NotGranted, GrantedList}
use Rattle.child.specs.Arguments.{Arguments}

-- ---- what steps of a child call do

-- the acts on the parent, those on the child, how often the operator was asked, and why the call is refused, if it is
pub record Made : Type 0 where
  pub acts : List Act
  pub grants : List Act
  pub asked : ℕ
  pub refused : Option Refusal

abbrev pub nothing : Made
nothing = record { acts = []; grants = []; asked = 0; refused = None }

abbrev pub refused_by : Refusal → Made
refused_by cause = record { acts = []; grants = []; asked = 0; refused = Some cause }

-- one after the other; a call that is refused goes no further
unfoldable pub onward : Option Refusal → Made → Made → Made
onward (Some cause) a b = a
onward None a b = record { acts = a.acts ++ b.acts; grants = a.grants ++ b.grants; asked = a.asked + b.asked; refused = b.refused }

abbrev pub then : Made → Made → Made
then a b = onward a.refused a b

-- one act on the child's table u; 8 where it has no room
unfoldable pub granted_by : Act → Table → Made
granted_by act u = cond (act_overflows u act) (refused_by TableFull) (record { acts = []; grants = act ∷ []; asked = 0; refused = None })

-- acts on it in turn
unfoldable pub granting : List Act → Table → Made
granting [] u = nothing
granting (act ∷ acts) u = then (granted_by act u) (granting acts (apply_act u act))

-- ---- one item

unfoldable pub count_of : Bool → ℕ
count_of true = 1
count_of false = 0

-- 10 if the parent's check fails; else what passes is granted to the child: a path, or with none switch 1
unfoldable pub passed_on : PermissionState → Query → Table → Made
passed_on state q u = cond (passes state) (granted_by (grant_act u q) u) (refused_by Escalation)

-- the parent's check has come to an end
unfoldable pub checked : Decision → Made
checked decision = record { acts = acts_of None decision.act; grants = []; asked = count_of decision.asked; refused = None }

-- what the parent's check of q comes to, and what the child is granted; an item whose check is refused adds nothing
unfoldable pub item_by : Result Decision → Query → Table → Made
item_by (Err cause) q u = refused_by cause
item_by (Ok decision) q u = then (checked decision) (passed_on decision.state q u)

-- 4 to 7, the parent's check with 8 and 9, then 10, then the child's insert with 8; t is the parent's table, u the child's
unfoldable pub item_step : Numbering → List ℕ → Item → Table → Table → Made
item_step numbers cwd i t u =
    item_by (settled Check numbers t i.descriptor i.given cwd i.response) (query_of i.descriptor (resolve i.given cwd)) u

-- each item on the tables that those before leave
unfoldable pub all_items : Numbering → List ℕ → List Item → Table → Table → Made
all_items numbers cwd [] t u = nothing
all_items numbers cwd (i ∷ items) t u =
    let made = item_step numbers cwd i t u in
    then made (all_items (past numbers made.acts) cwd items (apply_acts t made.acts) (apply_acts u made.grants))

-- ---- what the child takes over from its parent: the switches, and each D, I and P again

-- switch 1 is the child's own, the others are the parent's
unfoldable pub child_switches : ℕ → ℕ → ℕ
child_switches parent child = cond (has child granted) (set_bit parent granted) (clear_bit parent granted)

unfoldable pub inserts : List Entry → List Act
inserts [] = []
inserts (e ∷ es) = insert e ∷ inserts es

-- an insert of each entry but the Gs, in list order
unfoldable pub reinserts : List Entry → List Act
reinserts es = inserts (without (λ e. is_granted e.kind) es)

-- over the parent's list as it then is
unfoldable pub take_over_acts : Table → Table → List Act
take_over_acts t u = set_switches (child_switches t.switches u.switches) ∷ reinserts t.entries

-- ---- the whole call

-- the child begins as its parent's copy, or fresh
unfoldable pub first_child : ChildUnaryPermissionArg → Table → Table
first_child Inherit t = t
first_child Granted t = fresh
first_child NotGranted t = fresh
first_child GrantedList t = fresh

-- t is the parent's table after the items, u the child's
unfoldable pub take_over : Table → Table → Made
take_over t u = granting (take_over_acts t u) u

unfoldable pub completed : Made → Table → Table → Made
completed made t u = then made (take_over (apply_acts t made.acts) (apply_acts u made.grants))

-- t is the parent's table
unfoldable pub create_child : Numbering → Table → Arguments → List ℕ → Made
create_child numbers t args cwd =
    completed (all_items numbers cwd args.items t (first_child args.arg t)) t (first_child args.arg t)
