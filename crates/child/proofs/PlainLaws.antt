-- A plain child call is lent memory alone, and a linked one is the plain one and its records: its fold is the plain one's, or stops where no number is left for an item's act.
use Rattle.std.specs.Prelude.{Option, None, Some, Ok, Err}
use Prim.Native.Nat.{ℕ, ◌+◌}
use mathlib.Core.Path.{◌≡◌, refl, ap, ◌∙◌}
use mathlib.Core.List.{List, [], ◌∷◌}
use lib.ListN.{length}
use Rattle.refusals.specs.declared.Refusal.{Refusal}
use Rattle.refusals.specs.declared.Refusal.TheVariants.{NumbersUsedUp}
use Rattle.refusals.specs.Refusals.{first_cause, Result, and_then, unless}
use Rattle.paths.specs.Giving.{Query}
use Rattle.table.specs.Tables.{Table}
use Rattle.table.specs.Acts.{apply_acts}
use Rattle.table.specs.Calls.{table_in, fresh_in}
use Rattle.link.specs.declared.Link.TheVariants.{Plain, Linked}
use Rattle.link.specs.Linking.{lacks_room, room_in, unnumbered, after, numbering, lacks_run, run_in, past}
use Rattle.link.specs.Sending.{Lent, alone}
use Rattle.link.specs.Steps.{Admits}
use Rattle.link.proofs.LinkLaws.{room-long, run-known, plain-admits}
use Rattle.link.proofs.SendingLaws.{sends-alone}
use Rattle.deciding.specs.declared.Call.TheVariants.{Check}
use Rattle.deciding.specs.Decisions.{Decision}
use Rattle.items.specs.Items.{ItemList, Item}
use Rattle.calls.proofs.PlainLaws.{SameOrUsedUp, same, used-up, settled_same}
use Rattle.child.specs.declared.ChildSent.{ChildSent}
use Rattle.child.specs.Arguments.{Arguments, arguments_of}
use Rattle.child.specs.Making.{Made, onward, then, item_by, item_step, all_items, first_child, take_over, completed, create_child}
use Rattle.child.specs.Calls.{Creation, creation, child_call, CreatesChild}
use Rattle.child.proofs.MakingLaws.{then-stops}

-- ---- a plain call

same-alone : (l : Lent) (c : List ℕ) (code : ℕ) (list : ItemList) (cwd : List ℕ) → child_call Plain l c code list cwd ≡ child_call Plain (alone l.memory) c code list cwd
unfolding child_call room_in run_in lacks_room lacks_run numbering first_cause unless and_then
same-alone l c code list cwd = refl

pub child-alone : {l : Lent} {c : List ℕ} {code : ℕ} {list : ItemList} {cwd : List ℕ} {l' : Lent} {c' : List ℕ} {r : ChildSent} → CreatesChild Plain l c code list cwd l' c' r
    → CreatesChild Plain (alone l.memory) c code list cwd (alone l'.memory) c' r
child-alone {l} {c} {code} {list} {cwd} C =
    let e = same-alone l c code list cwd in
    record { creates = rw e at C.creates; sends = rw e at (sends-alone C.sends) }

-- ---- a linked call

pub data MadeSame (plain : Made) : Made → Type 0 where
  same-made : MadeSame plain plain
  used-up-made : {made : Made} → made.refused ≡ Some NumbersUsedUp → MadeSame plain made

then_same : (a r r' : Made) → MadeSame r r' → MadeSame (then a r) (then a r')
then_same a r r' same-made = same-made
then_same a r r' (used-up-made e) = by a.refused
  where
    by : (o : Option Refusal) → MadeSame (onward o a r) (onward o a r')
    by None = unfold onward in used-up-made e
    by (Some cause) = unfold onward in same-made

-- steps whose rest hangs on what was made
steps-same : (a b : Made) → MadeSame a b → (f g : Made → Made) → ((x : Made) → MadeSame (f x) (g x)) → MadeSame (then a (f a)) (then b (g b))
steps-same a b same-made f g h = then_same a (f a) (g a) (h a)
steps-same a b (used-up-made e) f g h = used-up-made (ap (λ (x : Made). x.refused) (then-stops b (g b) e) ∙ e)

by-check : {plain linked : Result Decision} → SameOrUsedUp plain linked → (q : Query) (u : Table) → MadeSame (item_by plain q u) (item_by linked q u)
by-check same q u = same-made
by-check used-up q u = unfold item_by in used-up-made refl

item-same : (n : ℕ) (cwd : List ℕ) (i : Item) (t u : Table) → MadeSame (item_step unnumbered cwd i t u) (item_step (after n) cwd i t u)
unfolding item_step
item-same n cwd i t u = by-check (settled_same Check n t i.descriptor i.given cwd i.response) _ u

items-same : (n : ℕ) (cwd : List ℕ) (items : List Item) (t u : Table) → MadeSame (all_items unnumbered cwd items t u) (all_items (after n) cwd items t u)
unfolding all_items past
items-same n cwd [] t u = same-made
items-same n cwd (i ∷ items) t u =
    steps-same _ _ (item-same n cwd i t u)
    (λ made. all_items (past unnumbered made.acts) cwd items (apply_acts t made.acts) (apply_acts u made.grants))
    (λ made. all_items (past (after n) made.acts) cwd items (apply_acts t made.acts) (apply_acts u made.grants))
    (λ made. items-same (n + length made.acts) cwd items (apply_acts t made.acts) (apply_acts u made.grants))

child-same : (n : ℕ) (t : Table) (args : Arguments) (cwd : List ℕ) → MadeSame (create_child unnumbered t args cwd) (create_child (after n) t args cwd)
unfolding create_child completed
child-same n t args cwd =
    let u = first_child args.arg t in
    let rest : Made → Made = λ made. take_over (apply_acts t made.acts) (apply_acts u made.grants) in
    steps-same _ _ (items-same n cwd args.items t u) rest rest (λ made. same-made)

-- refused alike before any item, or made alike from the same first table
pub data ChildSame : Result Creation → Result Creation → Type 0 where
  refused-alike : {cause : Refusal} → ChildSame (Err cause) (Err cause)
  made_alike : {first : Table} {plain linked : Made} → MadeSame plain linked
      → ChildSame (Ok (record { first = first; made = plain })) (Ok (record { first = first; made = linked }))

child-step : {A : Type 0} (a : Result A) (f g : A → Result Creation) → ((x : A) → ChildSame (f x) (g x)) → ChildSame (and_then a f) (and_then a g)
unfolding and_then
child-step (Err cause) f g h = refused-alike
child-step (Ok x) f g h = h x

pub child-plain : (run : ℕ) (l : Lent) (c : List ℕ) (code : ℕ) (list : ItemList) (cwd : List ℕ) → Admits (length list.ends) (Linked run) l.words
    → ChildSame (child_call Plain (alone l.memory) c code list cwd) (child_call (Linked run) l c code list cwd)
unfolding child_call creation numbering
child-plain run l c code list cwd A =
    let k = length list.ends in
    child-step (table_in l.memory) _ _ (λ t.
    child-step (fresh_in c) _ _ (λ empty.
    rw (room-long k Plain [] (plain-admits k []).roomy, run-known Plain 0 (plain-admits k []).run, room-long k (Linked run) l.words A.roomy, run-known (Linked run) l.number A.run)
    (unfold and_then in
    child-step (arguments_of code list.bytes list.ends list.responses) _ _ (λ args. made_alike (child-same l.number t args cwd)))))
