-- How often a child call asks: at most once for each item, so at most 64 times.
use Rattle.std.specs.Prelude.{Option, None, Some, Ok, Err}
use Prim.Native.Nat.{ℕ, ◌+◌, ◌≤◌}
use mathlib.Core.Path.{◌≡◌, refl}
use mathlib.Core.List.{List, [], ◌∷◌}
use mathlib.Core.Bool.{Bool, true, false, ◌&&◌, not}
use native.Mathlib.Omega.{arith}
use lib.ListN.{length}
use borrow.Author.Tests.{leb-true}
use Rattle.refusals.specs.declared.Refusal.{Refusal}
use Rattle.refusals.specs.declared.Refusal.TheVariants as refusal
use Rattle.refusals.specs.Refusals.{when, first_cause, Result, and_then, unless}
use Rattle.paths.proofs.ComponentLaws.{and_left}
use Rattle.link.specs.Linking.{room_in, Numbering, run_in}
use Rattle.table.specs.Tables.{Table}
use Rattle.link.specs.declared.Link.{Link}
use Rattle.link.specs.Sending.{Lent}
use Rattle.table.specs.Calls.{table_in, fresh_in}
use Rattle.deciding.specs.declared.PromptResponse.{PromptResponse}
use Rattle.child.specs.declared.ChildUnaryPermissionArg.{ChildUnaryPermissionArg}
use Rattle.child.specs.declared.ChildUnaryPermissionArg.TheVariants.{Inherit, Granted, NotGranted, GrantedList}
use Rattle.child.specs.declared.ChildSent.{ChildSent}
use Rattle.items.specs.Items.{ItemList, known_responses, Item, list_items, max_items, close_at}
use Rattle.child.specs.Arguments.{arg_of, known_arg, granted_item, items_of, items_fit, are_in_order, Arguments, arguments_of}
use Rattle.child.specs.Making.{Made, onward, then, all_items, create_child, completed}
use Rattle.child.specs.Calls.{Creation, creation, child_call, times_asked, CreatesChild}
use Rattle.child.proofs.ItemLaws.{item-once}
use Rattle.child.proofs.CreatingLaws.{over-asked}

-- ---- steps

then-asked : (a b : Made) (j k n : ℕ) → a.asked ≤ j → b.asked ≤ k → j + k ≤ n → (then a b).asked ≤ n
then-asked a b j k n f g h = by a.refused
  where
    by : (o : Option Refusal) → (onward o a b).asked ≤ n
    by None = unfold onward in omega arith
    by (Some cause) = unfold onward in omega arith

items-asked : (cwd : List ℕ) (items : List Item) (numbers : Numbering) (t u : Table) → (all_items numbers cwd items t u).asked ≤ length items
unfolding all_items
items-asked cwd [] numbers t u = omega arith
items-asked cwd (i ∷ items) numbers t u = then-asked _ _ 1 (length items) _ (item-once numbers cwd i t u) (items-asked cwd items _ _ _) (omega arith)

made-asked : (numbers : Numbering) (t : Table) (args : Arguments) (cwd : List ℕ) → (create_child numbers t args cwd).asked ≤ length args.items
unfolding create_child completed
made-asked numbers t args cwd = then-asked _ _ (length args.items) 0 _ (items-asked cwd args.items numbers t _) (rw (over-asked _ _) (omega arith)) (omega arith)

-- ---- items

list-few : (bytes : List ℕ) (from : ℕ) (ends : List ℕ) (responses : List PromptResponse) → length (list_items bytes from ends responses) ≤ length ends
unfolding list_items
list-few bytes from [] responses = omega arith
list-few bytes from (end ∷ ends) [] = omega arith
list-few bytes from (end ∷ ends) (response ∷ responses) = omega (arith, list-few bytes end ends responses)

one-few : (responses : List PromptResponse) → length (granted_item responses) ≤ 1
unfolding granted_item
one-few [] = omega arith
one-few (response ∷ responses) = omega arith

items-few : (arg : ChildUnaryPermissionArg) (bytes ends : List ℕ) (known : List PromptResponse) → items_fit arg ends ≡ true
    → length (items_of arg bytes ends known) ≤ max_items
unfolding items_of items_fit
items-few Inherit bytes ends known h = omega arith
items-few Granted bytes ends known h = omega (arith, one-few known)
items-few NotGranted bytes ends known h = omega arith
items-few GrantedList bytes ends known h = omega (arith, list-few bytes 0 ends known, leb-true (length ends) max_items h)

order-fits : (arg : ChildUnaryPermissionArg) (bytes ends responses : List ℕ) → are_in_order arg bytes ends responses ≡ true → items_fit arg ends ≡ true
unfolding are_in_order
order-fits arg bytes ends responses h = and_left (items_fit arg ends) _ (and_left (items_fit arg ends && close_at (length bytes) 0 ends) _ h)

-- ---- the call

-- whatever a call is handed, it has at most 64 items
unfoldable Few : Result Arguments → Type 0
Few (Err cause) = Unit {0}
Few (Ok args) = length args.items ≤ max_items

step-few : {A : Type 0} (a : Result A) (f : A → Result Arguments) → ((x : A) → Few (f x)) → Few (and_then a f)
unfolding and_then Few
step-few (Err cause) f h = tt
step-few (Ok x) f h = h x

order-few : (b : Bool) (args : Arguments) → (b ≡ true → length args.items ≤ max_items)
    → Few (unless (first_cause (when (not b) refusal.Unknown ∷ [])) args)
unfolding unless first_cause Few
order-few true args h = h refl
order-few false args h = tt

arguments-few : (code : ℕ) (bytes ends responses : List ℕ) → Few (arguments_of code bytes ends responses)
unfolding arguments_of
arguments-few code bytes ends responses =
    step-few (known_arg (arg_of code)) _ (λ arg.
    step-few (known_responses responses) _ (λ known.
    order-few (are_in_order arg bytes ends responses) _ (λ h. items-few arg bytes ends known (order-fits arg bytes ends responses h))))

step-asked : {A : Type 0} (a : Result A) (f : A → Result Creation) → ((x : A) → times_asked (f x) ≤ max_items) → times_asked (and_then a f) ≤ max_items
unfolding and_then
step-asked (Err cause) f h = unfold times_asked in omega arith
step-asked (Ok x) f h = h x

args-asked : (numbers : Numbering) (t : Table) (cwd : List ℕ) (r : Result Arguments) → Few r → times_asked (and_then r (λ args. Ok (creation numbers t cwd args))) ≤ max_items
unfolding and_then times_asked creation Few
args-asked numbers t cwd (Err cause) h = omega arith
args-asked numbers t cwd (Ok args) h = omega (arith, made-asked numbers t args cwd)

created-asked : (numbers : Numbering) (t : Table) (code : ℕ) (bytes ends responses cwd : List ℕ)
    → times_asked (and_then (arguments_of code bytes ends responses) (λ args. Ok (creation numbers t cwd args))) ≤ max_items
created-asked numbers t code bytes ends responses cwd = args-asked numbers t cwd (arguments_of code bytes ends responses) (arguments-few code bytes ends responses)

call-asked : (link : Link) (l : Lent) (c : List ℕ) (code : ℕ) (list : ItemList) (cwd : List ℕ) → times_asked (child_call link l c code list cwd) ≤ max_items
unfolding child_call
call-asked link l c code list cwd =
    step-asked (table_in l.memory) _ (λ t.
    step-asked (fresh_in c) _ (λ empty.
    step-asked (room_in (length list.ends) link l.words) _ (λ room.
    step-asked (run_in link l.number) _ (λ numbers.
    created-asked numbers t code list.bytes list.ends list.responses cwd))))

pub asked-few : {link : Link} {l : Lent} {c : List ℕ} {code : ℕ} {list : ItemList} {cwd : List ℕ} {l' : Lent} {c' : List ℕ} {r : ChildSent}
    → CreatesChild link l c code list cwd l' c' r → r.made.asked ≤ max_items
asked-few {link} {l} {c} {code} {list} {cwd} C = rw C.creates.asked (call-asked link l c code list cwd)
