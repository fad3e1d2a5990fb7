-- A plain call is lent memory alone: it does not depend on number and words. A linked call is the plain call and its records: where its run is known and its records have
-- room, it is the plain call, unless no number is left for its act. What it sends is then said by its promise.
use Rattle.std.specs.Prelude.{Option, None, Some, Ok, Err}
use Prim.Native.Nat.{ℕ}
use mathlib.Core.Path.{◌≡◌, refl}
use mathlib.Core.List.{List, [], ◌∷◌}
use mathlib.Core.Bool.{Bool, true, false}
use Rattle.refusals.specs.declared.Refusal.TheVariants.{TableFull, NumbersUsedUp}
use Rattle.refusals.specs.Refusals.{when, first_cause, Result, and_then, unless}
use Rattle.paths.specs.declared.Descriptor.{Descriptor}
use Rattle.paths.specs.Giving.{resolved, given}
use Rattle.table.specs.Entries.{kind_of, known_kind}
use Rattle.table.specs.Tables.{Table}
use Rattle.table.specs.Acts.{Act, insert, set_switches, act_overflows}
use Rattle.table.specs.Calls.{table_in}
use Rattle.link.specs.declared.Link.TheVariants.{Plain, Linked}
use Rattle.link.specs.Linking.{lacks_room, room_in, Numbering, unnumbered, after, numbering, lacks_run, run_in, used_up, carry_cause, carried}
use Rattle.link.specs.Sending.{Lent, alone}
use Rattle.link.specs.Steps.{Admits}
use Rattle.link.proofs.LinkLaws.{room-long, run-known, plain-admits}
use Rattle.link.proofs.SendingLaws.{sends-alone, does-alone}
use Rattle.deciding.specs.declared.PromptResponse.{PromptResponse}
use Rattle.deciding.specs.declared.Call.{Call}
use Rattle.deciding.specs.Decisions.{response_of, known_response, Decision, decide, revoke_desc}
use Rattle.deciding.specs.Questions.{text_space}
use Rattle.calls.specs.declared.Asked.{Asked}
use Rattle.calls.specs.declared.Revoked.{Revoked}
use Rattle.calls.specs.Calls.{carried_out, settled, About, ask_call, Asks, revoke_call, Revokes}
use Rattle.calls.specs.Changes.{known_switches, switches_call, insert_call, SetsSwitches, Inserts}

-- ---- a plain call

module _ (l : Lent) where
  same-switches : (v : ℕ) → switches_call Plain l v ≡ switches_call Plain (alone l.memory) v
  unfolding switches_call room_in run_in lacks_room lacks_run numbering first_cause unless and_then
  same-switches v = refl

  same-insert : (kind : ℕ) (p cwd : List ℕ) → insert_call Plain l kind p cwd ≡ insert_call Plain (alone l.memory) kind p cwd
  unfolding insert_call room_in run_in lacks_room lacks_run numbering first_cause unless and_then
  same-insert kind p cwd = refl

  same-ask : (call : Call) (s : List ℕ) (a : About) (response : ℕ) → ask_call call Plain l s a response ≡ ask_call call Plain (alone l.memory) s a response
  unfolding ask_call room_in run_in lacks_room lacks_run numbering first_cause unless and_then
  same-ask call s a response = refl

  same-revoke : (a : About) → revoke_call Plain l a ≡ revoke_call Plain (alone l.memory) a
  unfolding revoke_call room_in run_in lacks_room lacks_run numbering first_cause unless and_then
  same-revoke a = refl

pub switches-alone : (l : Lent) (v : ℕ) {l' : Lent} {r : Result ℕ} → SetsSwitches Plain l v l' r → SetsSwitches Plain (alone l.memory) v (alone l'.memory) r
switches-alone l v S = does-alone (same-switches l v) S

pub insert-alone : (l : Lent) (kind : ℕ) (p cwd : List ℕ) {l' : Lent} {r : Result ℕ} → Inserts Plain l kind p cwd l' r → Inserts Plain (alone l.memory) kind p cwd (alone l'.memory) r
insert-alone l kind p cwd I = does-alone (same-insert l kind p cwd) I

pub ask-alone : {call : Call} {l : Lent} {s : List ℕ} {a : About} {response : ℕ} {l' : Lent} {s' : List ℕ} {r : Result Asked} → Asks call Plain l s a response l' s' r
    → Asks call Plain (alone l.memory) s a response (alone l'.memory) s' r
ask-alone {call} {l} {s} {a} {response} A =
    let e = same-ask l call s a response in
    record { answers = rw e at A.answers; sends = rw e at (sends-alone A.sends) }

pub revoke-alone : {l : Lent} {a : About} {l' : Lent} {r : Result Revoked} → Revokes Plain l a l' r → Revokes Plain (alone l.memory) a (alone l'.memory) r
revoke-alone {l} {a} R = let e = same-revoke l a in record { answer = rw e at R.answer; sends = rw e at (sends-alone R.sends) }

-- ---- a linked call

-- the linked call is the plain one, or no number is left
pub data SameOrUsedUp {A : Type 0} (plain : Result A) : Result A → Type 0 where
  same : SameOrUsedUp plain plain
  used-up : SameOrUsedUp plain (Err NumbersUsedUp)

step_same : {A B : Type 0} (a : Result A) (f g : A → Result B) → ((x : A) → SameOrUsedUp (f x) (g x)) → SameOrUsedUp (and_then a f) (and_then a g)
unfolding and_then
step_same (Err cause) f g h = same
step_same (Ok x) f g h = h x

unless-same : {A : Type 0} (x : A) (over left : Bool)
    → SameOrUsedUp (unless (first_cause (when over TableFull ∷ when false NumbersUsedUp ∷ [])) x) (unless (first_cause (when over TableFull ∷ when left NumbersUsedUp ∷ [])) x)
unfolding unless first_cause
unless-same x true left = same
unless-same x false true = used-up
unless-same x false false = same

carry_same : {A : Type 0} (n : ℕ) (t : Table) (act : Option Act) (x : A) → SameOrUsedUp (unless (carry_cause unnumbered t act) x) (unless (carry_cause (after n) t act) x)
unfolding carry_cause
carry_same n t None x = same
carry_same n t (Some act) x = unfold used_up in unless-same x (act_overflows t act) (used_up (after n))

carried_same : (n : ℕ) (t : Table) (act : Act) → SameOrUsedUp (carried unnumbered t act) (carried (after n) t act)
unfolding carried
carried_same n t act = carry_same n t (Some act) act

decision-same : (n : ℕ) (t : Table) (decision : Decision) → SameOrUsedUp (carried_out unnumbered t decision) (carried_out (after n) t decision)
unfolding carried_out
decision-same n t decision = carry_same n t decision.act decision

pub settled_same : (call : Call) (n : ℕ) (t : Table) (d : Descriptor) (p cwd : List ℕ) (known : PromptResponse)
    → SameOrUsedUp (settled call unnumbered t d p cwd known) (settled call (after n) t d p cwd known)
unfolding settled
settled_same call n t d p cwd known = step_same (given d p cwd) _ _ (λ q. decision-same n t (decide call t q known))

module _ (run : ℕ) (l : Lent) (A : Admits 1 (Linked run) l.words) where
  -- both tests of the link are passed, by the plain call too
  tests_same : {B : Type 0} (f g : Numbering → Result B) → SameOrUsedUp (f unnumbered) (g (after l.number))
      → SameOrUsedUp (and_then (room_in 1 Plain []) (λ room. and_then (run_in Plain 0) f)) (and_then (room_in 1 (Linked run) l.words) (λ room. and_then (run_in (Linked run) l.number) g))
  unfolding numbering and_then
  tests_same f g h =
      rw (room-long 1 Plain [] (plain-admits 1 []).roomy, run-known Plain 0 (plain-admits 1 []).run, room-long 1 (Linked run) l.words A.roomy, run-known (Linked run) l.number A.run) h

  pub switches-plain : (v : ℕ) → SameOrUsedUp (switches_call Plain (alone l.memory) v) (switches_call (Linked run) l v)
  unfolding switches_call
  switches-plain v =
      step_same (table_in l.memory) _ _ (λ t. tests_same _ _
      (step_same (known_switches v) _ _ (λ k. carried_same l.number t (set_switches k))))

  pub insert-plain : (kind : ℕ) (p cwd : List ℕ) → SameOrUsedUp (insert_call Plain (alone l.memory) kind p cwd) (insert_call (Linked run) l kind p cwd)
  unfolding insert_call
  insert-plain kind p cwd =
      step_same (table_in l.memory) _ _ (λ t. tests_same _ _
      (step_same (known_kind (kind_of kind)) _ _ (λ k.
      step_same (resolved p cwd) _ _ (λ q. carried_same l.number t (insert (record { kind = k; path = q }))))))

  pub ask-plain : (call : Call) (s : List ℕ) (a : About) (response : ℕ) → SameOrUsedUp (ask_call call Plain (alone l.memory) s a response) (ask_call call (Linked run) l s a response)
  unfolding ask_call
  ask-plain call s a response =
      step_same (table_in l.memory) _ _ (λ t.
      step_same (text_space s) _ _ (λ space. tests_same _ _
      (step_same (known_response (response_of response)) _ _ (λ known. settled_same call l.number t a.descriptor a.given a.cwd known))))

  pub revoke-plain : (a : About) → SameOrUsedUp (revoke_call Plain (alone l.memory) a) (revoke_call (Linked run) l a)
  unfolding revoke_call
  revoke-plain a =
      step_same (table_in l.memory) _ _ (λ t. tests_same _ _
      (step_same (given a.descriptor a.given a.cwd) _ _ (λ q. decision-same l.number t (revoke_desc t q))))
