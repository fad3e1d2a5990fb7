-- What every call keeps: memory that held a table holds one, no mark is cleared, and it is the same wherever the table stands.
use Rattle.std.specs.Prelude.{Option, None, Some, Ok, Err}
use Prim.Native.Nat.{ℕ}
use mathlib.Core.Path.{◌≡◌, refl}
use mathlib.Core.List.{List, []}
use mathlib.Core.Bool.{true}
use borrow.Author.Tests.{le-leb, ltb-false}
use Rattle.refusals.specs.declared.Refusal.{Refusal}
use Rattle.refusals.specs.declared.Refusal.TheVariants.{Unknown}
use Rattle.refusals.specs.Refusals.{Result, and_then, unless}
use Rattle.refusals.proofs.CauseLaws.{no-cause-head, unless-ok}
use Rattle.paths.specs.declared.Descriptor.{Descriptor}
use Rattle.paths.specs.Giving.{is_path, resolved, given}
use Rattle.paths.proofs.GivingLaws.{given-fits, resolved-fits}
use Rattle.table.specs.declared.Kind.{Kind}
use Rattle.table.specs.Entries.{kind_of, known_kind}
use Rattle.table.specs.Tables.{is_entry}
use Rattle.table.specs.Acts.{Act, insert, set_switches, is_act}
use Rattle.table.specs.Memory.{table_of, holds}
use Rattle.table.specs.Carrying.{acts_of, fits}
use Rattle.table.proofs.Puts.{valid-of}
use Rattle.table.proofs.ActLaws.{Acted}
use Rattle.table.proofs.CallLaws.{a-table}
use Rattle.table.proofs.KeepLaws.{Keeps, acted-keeps, step-acted, same-table}
use Rattle.link.specs.declared.Link.{Link}
use Rattle.link.specs.Linking.{room_in, Numbering, run_in, carry_cause, carried, single_act}
use Rattle.link.specs.Sending.{Lent, lent}
use Rattle.link.proofs.LinkLaws.{acted-carried}
use Rattle.calls.specs.declared.Revoked.{Revoked}
use Rattle.calls.specs.declared.Asked.{Asked}
use Rattle.deciding.specs.declared.PromptResponse.{PromptResponse}
use Rattle.deciding.specs.declared.Call.{Call}
use Rattle.deciding.specs.Decisions.{response_of, known_response, Decision, decide, revoke_desc}
use Rattle.deciding.specs.Questions.{text_space}
use Rattle.calls.specs.Calls.{carried_out, decided_acts, settled, About, ask_call, Asks, revoke_call, Revokes}
use Rattle.calls.specs.Changes.{known_switches, switches_call, insert_call, SetsSwitches, Inserts}
use Rattle.deciding.proofs.FittingLaws.{decided-fits, revoke-fits}
use Rattle.calls.proofs.AskLaws.{acts-by}

no-acts : (cause : Refusal) → decided_acts (Err cause) ≡ []
unfolding decided_acts
no-acts cause = refl

carried-acted : (numbers : Numbering) (m : List ℕ) (decision : Decision) → holds m ≡ true → fits decision.act ≡ true
    → Acted m (decided_acts (carried_out numbers (table_of m) decision))
unfolding carried_out
carried-acted numbers m decision h f = rw (acts-by (carry_cause numbers (table_of m) decision.act) decision) at (acted-carried numbers m decision.act h f)

-- what is given, on the table that memory holds
pub settled-acted : (call : Call) (numbers : Numbering) (m : List ℕ) (d : Descriptor) (p cwd : List ℕ) (response : PromptResponse) → holds m ≡ true
    → Acted m (decided_acts (settled call numbers (table_of m) d p cwd response))
unfolding settled
settled-acted call numbers m d p cwd response h =
    step-acted decided_acts no-acts m (given d p cwd) _ h (λ q e.
    carried-acted numbers m (decide call (table_of m) q response) h (decided-fits (table_of m) (valid-of m h) q (given-fits d p cwd e) response call))

-- check and request
pub ask-acted : (call : Call) (link : Link) (l : Lent) (s : List ℕ) (a : About) (response : ℕ) → holds l.memory ≡ true
    → Acted l.memory (decided_acts (ask_call call link l s a response))
unfolding ask_call
ask-acted call link l s a response h =
    rw (a-table l.memory h)
    (unfold and_then in
    step-acted decided_acts no-acts l.memory (text_space s) _ h (λ space e.
    step-acted decided_acts no-acts l.memory (room_in 1 link l.words) _ h (λ room k.
    step-acted decided_acts no-acts l.memory (run_in link l.number) _ h (λ numbers g.
    step-acted decided_acts no-acts l.memory (known_response (response_of response)) _ h (λ known f. settled-acted call numbers l.memory a.descriptor a.given a.cwd known h)))))

-- revoke
pub revoke-acted : (link : Link) (l : Lent) (a : About) → holds l.memory ≡ true
    → Acted l.memory (decided_acts (revoke_call link l a))
unfolding revoke_call
revoke-acted link l a h =
    rw (a-table l.memory h)
    (unfold and_then in
    step-acted decided_acts no-acts l.memory (room_in 1 link l.words) _ h (λ room k.
    step-acted decided_acts no-acts l.memory (run_in link l.number) _ h (λ numbers g.
    step-acted decided_acts no-acts l.memory (given a.descriptor a.given a.cwd) _ h (λ q e.
    carried-acted numbers l.memory (revoke_desc (table_of l.memory) q) h (unfold revoke_desc fits in revoke-fits q (given-fits a.descriptor a.given a.cwd e))))))

-- ---- switches and insert

changed-none : (cause : Refusal) → single_act (Err cause) ≡ []
unfolding single_act
changed-none cause = refl

changed-by : (cause : Option Refusal) (act : Act) → acts_of cause (Some act) ≡ single_act (unless cause act)
unfolding acts_of single_act unless
changed-by None act = refl
changed-by (Some cause) act = refl

changed-acted : (numbers : Numbering) (m : List ℕ) (act : Act) → holds m ≡ true → is_act act ≡ true → Acted m (single_act (carried numbers (table_of m) act))
unfolding carried fits
changed-acted numbers m act h f = rw (changed-by (carry_cause numbers (table_of m) (Some act)) act) at (acted-carried numbers m (Some act) h f)

switches-by : (v : ℕ) {k : ℕ} → known_switches v ≡ Ok k → is_act (set_switches k) ≡ true
unfolding known_switches is_act
switches-by v e =
    let b = unless-ok _ v e in
    rw b.1 at (le-leb v _ (ltb-false _ _ (no-cause-head _ Unknown [] b.0)))

pub switches-acted : (link : Link) (l : Lent) (v : ℕ) → holds l.memory ≡ true → Acted l.memory (single_act (switches_call link l v))
unfolding switches_call
switches-acted link l v h =
    rw (a-table l.memory h)
    (unfold and_then in
    step-acted single_act changed-none l.memory (room_in 1 link l.words) _ h (λ room g.
    step-acted single_act changed-none l.memory (run_in link l.number) _ h (λ numbers f.
    step-acted single_act changed-none l.memory (known_switches v) _ h (λ k e.
    changed-acted numbers l.memory (set_switches k) h (switches-by v e)))))

insert-fits : (k : Kind) (q : List ℕ) → is_path q ≡ true → is_act (insert (record { kind = k; path = q })) ≡ true
unfolding is_act is_entry
insert-fits k q e = e

pub insert-acted : (link : Link) (l : Lent) (kind : ℕ) (p cwd : List ℕ) → holds l.memory ≡ true → Acted l.memory (single_act (insert_call link l kind p cwd))
unfolding insert_call
insert-acted link l kind p cwd h =
    rw (a-table l.memory h)
    (unfold and_then in
    step-acted single_act changed-none l.memory (room_in 1 link l.words) _ h (λ room x.
    step-acted single_act changed-none l.memory (run_in link l.number) _ h (λ numbers g.
    step-acted single_act changed-none l.memory (known_kind (kind_of kind)) _ h (λ k e.
    step-acted single_act changed-none l.memory (resolved p cwd) _ h (λ q f.
    changed-acted numbers l.memory (insert (record { kind = k; path = q })) h (insert-fits k q (resolved-fits p cwd f)))))))

-- ---- by the promises

module _ (link : Link) (l : Lent) (v : ℕ) {l' : Lent} {r : Result ℕ} (S : SetsSwitches link l v l' r) (h : holds l.memory ≡ true) where
  pub switches-held : holds l'.memory ≡ true
  switches-held = rw S.sends.memory (switches-acted link l v h).holding

  pub switches-keep : Keeps (table_of l.memory).marks (table_of l'.memory).marks
  switches-keep = rw S.sends.memory (acted-keeps h (switches-acted link l v h))

module _ (link : Link) (l : Lent) (kind : ℕ) (p cwd : List ℕ) {l' : Lent} {r : Result ℕ} (S : Inserts link l kind p cwd l' r) (h : holds l.memory ≡ true) where
  pub insert-held : holds l'.memory ≡ true
  insert-held = rw S.sends.memory (insert-acted link l kind p cwd h).holding

  pub insert-keeps : Keeps (table_of l.memory).marks (table_of l'.memory).marks
  insert-keeps = rw S.sends.memory (acted-keeps h (insert-acted link l kind p cwd h))

module _ {call : Call} {link : Link} {l : Lent} {s : List ℕ} {a : About} {response : ℕ} {l' : Lent} {s' : List ℕ} {r : Result Asked}
    (A : Asks call link l s a response l' s' r) (h : holds l.memory ≡ true) where
  pub ask-held : holds l'.memory ≡ true
  ask-held = rw A.sends.memory (ask-acted call link l s a response h).holding

  pub ask-keeps : Keeps (table_of l.memory).marks (table_of l'.memory).marks
  ask-keeps = rw A.sends.memory (acted-keeps h (ask-acted call link l s a response h))

module _ {link : Link} {l : Lent} {a : About} {l' : Lent} {r : Result Revoked} (R : Revokes link l a l' r) (h : holds l.memory ≡ true) where
  pub revoke-held : holds l'.memory ≡ true
  revoke-held = rw R.sends.memory (revoke-acted link l a h).holding

  pub revoke-keeps : Keeps (table_of l.memory).marks (table_of l'.memory).marks
  revoke-keeps = rw R.sends.memory (acted-keeps h (revoke-acted link l a h))

-- ---- wherever the table stands

module _ (m n : List ℕ) (h : holds m ≡ true) (k : holds n ≡ true) (e : table_of m ≡ table_of n) (link : Link) (number : ℕ) (w : List ℕ) where
  pub same-ask : (call : Call) (s : List ℕ) (a : About) (response : ℕ) → ask_call call link (lent m number w) s a response ≡ ask_call call link (lent n number w) s a response
  unfolding ask_call
  same-ask call s a response = rw (same-table m n h k e)

  pub same-revoke : (a : About) → revoke_call link (lent m number w) a ≡ revoke_call link (lent n number w) a
  unfolding revoke_call
  same-revoke a = rw (same-table m n h k e)

  pub same-switches : (v : ℕ) → switches_call link (lent m number w) v ≡ switches_call link (lent n number w) v
  unfolding switches_call
  same-switches v = rw (same-table m n h k e)

  pub same-insert : (kind : ℕ) (p cwd : List ℕ) → insert_call link (lent m number w) kind p cwd ≡ insert_call link (lent n number w) kind p cwd
  unfolding insert_call
  same-insert kind p cwd = rw (same-table m n h k e)
