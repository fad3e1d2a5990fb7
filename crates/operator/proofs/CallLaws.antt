-- What a call of a script decides and leaves: an operator who says no keeps a path shut, and a yes opens it.
use Rattle.std.specs.Prelude.{Option, None, Some}
use Prim.Native.Nat.{ℕ}
use mathlib.Core.Path.{◌≡◌, refl, sym, ap, ◌∙◌}
use mathlib.Core.List.{List}
use mathlib.Core.Bool.{Bool, true, false, cond, true≢false, false≢true}
use borrow.Author.Tests.{not-true}
use Rattle.refusals.specs.Refusals.{Result}
use Rattle.refusals.proofs.CauseLaws.{Hands, stops, hands, hands_itself, hands_then, hands-unless}
use Rattle.paths.specs.declared.Descriptor.{Descriptor}
use Rattle.paths.specs.declared.Descriptor.TheVariants.{NoPath, Path}
use Rattle.paths.specs.Resolving.{resolve}
use Rattle.paths.specs.Relations.{is_prefix}
use Rattle.paths.specs.Giving.{Query, no_path, path, query_of, resolved, given}
use Rattle.table.specs.declared.Kind.TheVariants.{G}
use Rattle.table.specs.Tables.{Table, has, prompt, granted, flag_ignored}
use Rattle.table.specs.Acts.{Act, insert, apply_act, apply_acts}
use Rattle.table.specs.Memory.{table_of, holds, do_acts}
use Rattle.table.specs.Carrying.{acts_of}
use Rattle.table.proofs.BitLaws.{bit_kept}
use Rattle.table.proofs.ActLaws.{Acted}
use Rattle.table.proofs.CallLaws.{hands-table}
use Rattle.link.specs.declared.Link.{Link}
use Rattle.link.specs.Linking.{room_in, run_in}
use Rattle.link.specs.Sending.{Lent}
use Rattle.walk.specs.declared.PermissionState.{PermissionState}
use Rattle.walk.specs.declared.PermissionState.TheVariants.{
  Granted,
  GrantedPartial,
  Prompt,
  Denied,
  DeniedPartial,
  Ignored,
}
use Rattle.walk.specs.declared.AllowPartial.{AllowPartial}
use Rattle.walk.specs.declared.AllowPartial.TheVariants.{TreatAsPartialGranted}
use Rattle.walk.specs.Walk.{matches_kind, matches, is_denied_mode, is_denied, without_match, query_desc, is_allow_all}
use Rattle.deciding.specs.declared.PromptResponse.{PromptResponse}
use Rattle.deciding.specs.declared.PromptResponse.TheVariants.{Deny, Allow, AllowAll}
use Rattle.deciding.specs.declared.Call.{Call}
use Rattle.deciding.specs.declared.Call.TheVariants.{Check, Request}
use Rattle.deciding.specs.Decisions.{
  response_of,
  known_response,
  switch_on,
  grant_act,
  deny_act,
  answer_act,
  Decision,
  unasked,
  asks,
  check_mode,
  check_by,
  check_desc,
  request_by,
  request_desc,
  decide,
  revoke_act,
  revoke_desc,
}
use Rattle.deciding.specs.Questions.{text_space}
use Rattle.calls.specs.declared.Asked.{Asked}
use Rattle.calls.specs.declared.Revoked.{Revoked}
use Rattle.calls.specs.Calls.{carried_out, decided_acts, asked_in, settled, About, about, ask_call, told, Asks, revoke_call, Revokes}
use Rattle.calls.proofs.KeepLaws.{ask-acted, revoke-acted}
use Rattle.calls.proofs.AskLaws.{ask-no-table}
use Rattle.operator.specs.Operator.{is_open, state_of, Shut, Open, says_no, Answered, IsYes}
use Rattle.operator.proofs.OpenLaws.{IsShut, IsOpen, granted-below}
use Rattle.operator.proofs.ActLaws.{shut-insert, shut-revoke, shut-revoke-all, shut-eight, shut-same, open-grant}

-- ---- what check and request decide: whether they ask, and their act

data Comes (t : Table) (q : Query) (response : PromptResponse) : Bool → Option Act → Type 0 where
  silent : Comes t q response false None
  asking : (mode : AllowPartial) → query_desc t mode q ≡ Prompt → Comes t q response true (Some (answer_act t q response))
  -- a request for what is Granted inserts it without asking
  again : query_desc t TreatAsPartialGranted q ≡ Granted → Comes t q response false (Some (grant_act t q))

module _ (t : Table) (q : Query) (response : PromptResponse) where
  abbrev Decided : Decision → Type 0
  Decided decision = Comes t q response decision.asked decision.act

  by-prompt : (b : Bool) (mode : AllowPartial) (state : PermissionState) (writes : Bool) → query_desc t mode q ≡ Prompt
      → Decided (cond b (asks t q response) (unasked state writes))
  unfolding asks unasked
  by-prompt true mode state writes e = asking mode e
  by-prompt false mode state writes e = silent

  check-by : (mode : AllowPartial) (state : PermissionState) → query_desc t mode q ≡ state → Decided (check_by t q response state)
  unfolding check_by unasked
  check-by mode Granted e = silent
  check-by mode GrantedPartial e = silent
  check-by mode Prompt e = by-prompt (has t.switches prompt) mode Prompt true e
  check-by mode Denied e = silent
  check-by mode DeniedPartial e = silent
  check-by mode Ignored e = silent

  check-all : (b : Bool) (decision : Decision) → Decided decision → Decided (cond b (unasked Granted false) decision)
  unfolding unasked
  check-all true decision D = silent
  check-all false decision D = D

  request-by : (state : PermissionState) → query_desc t TreatAsPartialGranted q ≡ state → Decided (request_by t q response state)
  unfolding request_by unasked
  request-by Granted e = again e
  request-by GrantedPartial e = silent
  request-by Prompt e = by-prompt (has t.switches prompt) TreatAsPartialGranted Denied false e
  request-by Denied e = silent
  request-by DeniedPartial e = silent
  request-by Ignored e = silent

  decided : (call : Call) → Decided (decide call t q response)
  unfolding decide check_desc request_desc
  decided Check = check-all (is_allow_all t) _ (check-by (check_mode q) _ refl)
  decided Request = request-by _ refl

-- ---- where p is shut, what is decided keeps it so

without-one : (i d g : Bool) (s : PermissionState) → cond i Ignored (cond d Denied (cond g s Prompt)) ≡ Granted → g ≡ true
without-one true d g s e = cc
without-one false true g s e = cc
without-one false false true s e = refl
without-one false false false s e = cc

-- no path is Granted only by switch 1
none-granted : (t : Table) → query_desc t TreatAsPartialGranted no_path ≡ Granted → has t.switches granted ≡ true
unfolding query_desc without_match is_denied_mode
none-granted t e = without-one (has t.switches flag_ignored) (is_denied t no_path) (has t.switches granted) _ e

module _ (t : Table) (p : List ℕ) (shut : IsShut t p) where
  deny-shut : (q : Query) → IsShut (apply_act t (deny_act t q)) p
  unfolding deny_act switch_on
  deny-shut no_path = shut-eight t p shut
  deny-shut (path q) = shut-insert t p shut _ (λ m. refl)

  -- a G that is no prefix of p
  beside-shut : (q : List ℕ) → is_prefix q p ≡ false → IsShut (apply_act t (insert (record { kind = G; path = q }))) p
  unfolding matches matches_kind
  beside-shut q n = shut-insert t p shut (record { kind = G; path = q }) (λ m. absurd (true≢false (sym m ∙ n)))

  allow-shut : (q : Query) → says_no p q Allow ≡ true → IsShut (apply_act t (grant_act t q)) p
  unfolding says_no grant_act
  allow-shut no_path e = absurd (false≢true e)
  allow-shut (path q) e = beside-shut q (not-true _ e)

  answer-shut : (q : Query) (response : PromptResponse) → says_no p q response ≡ true → IsShut (apply_act t (answer_act t q response)) p
  unfolding answer_act
  answer-shut q Deny e = deny-shut q
  answer-shut q Allow e = allow-shut q e
  answer-shut q AllowAll e = absurd (false≢true (unfold says_no in e))

  -- what is Granted already is no prefix of p, so that a request inserts it in vain
  again_by : (q : List ℕ) (b : Bool) → is_prefix q p ≡ b → state_of t q ≡ Granted → IsShut (apply_act t (insert (record { kind = G; path = q }))) p
  unfolding is_open
  again_by q true h e = absurd (true≢false (sym (ap is_open (granted-below t q p h e)) ∙ shut))
  again_by q false h e = beside-shut q h

  again-shut : (q : Query) → query_desc t TreatAsPartialGranted q ≡ Granted → IsShut (apply_act t (grant_act t q)) p
  unfolding grant_act switch_on
  again-shut no_path e = shut-same t p shut _ (bit_kept t.switches granted (none-granted t e))
  again-shut (path q) e = again_by q _ refl e

  revoked-shut : (q : Query) → IsShut (apply_act t (revoke_act q)) p
  unfolding revoke_act
  revoked-shut no_path = shut-revoke-all t p shut
  revoked-shut (path q) = shut-revoke t p shut q

  comes-shut : {q : Query} {response : PromptResponse} {asked : Bool} {act : Option Act} → Comes t q response asked act
      → (asked ≡ true → says_no p q response ≡ true) → IsShut (apply_acts t (acts_of None act)) p
  unfolding acts_of apply_acts
  comes-shut silent f = shut
  comes-shut {q} {response} (asking mode e) f = answer-shut q response (f refl)
  comes-shut {q} (again e) f = again-shut q e

-- ---- a yes

comes-open : {t : Table} {p : List ℕ} {asked : Bool} {act : Option Act} → Comes t (path p) Allow asked act → asked ≡ true
    → IsOpen (apply_acts t (acts_of None act)) p
unfolding acts_of apply_acts answer_act grant_act
comes-open silent a = absurd (false≢true a)
comes-open {t} {p} (asking mode e) a = open-grant p t mode e
comes-open (again e) a = absurd (false≢true a)

-- ---- what the calls come to

given_is : (d : Descriptor) (p cwd : List ℕ) → Hands (λ q. query_of d (resolve p cwd) ≡ q) (given d p cwd)
unfolding given resolved query_of
given_is NoPath p cwd = hands refl
given_is Path p cwd = hands_then (hands-unless {P = λ q. resolve p cwd ≡ q} _ _ (λ e. refl)) (λ q e. hands (ap path e))

known_is : (read : Option PromptResponse) → Hands (λ answer. read ≡ Some answer) (known_response read)
unfolding known_response
known_is (Some answer) = hands refl
known_is None = stops

-- check and request on the table t, of q, with the answer that a number names
record DecidedBy (t : Table) (q : Query) (response : ℕ) (decision : Decision) : Type 0 where
  answer : PromptResponse
  known : response_of response ≡ Some answer
  comes : Comes t q answer decision.asked decision.act

-- a revoke
IsRevoke : Query → Decision → Type 0
IsRevoke q decision = decision.act ≡ Some (revoke_act q)

-- what a call is about
abbrev query_about : About → Query
query_about a = query_of a.descriptor (resolve a.given a.cwd)

module _ (link : Link) (l : Lent) (a : About) (h : holds l.memory ≡ true) where
  ask-comes : (call : Call) (s : List ℕ) (response : ℕ) → Hands (DecidedBy (table_of l.memory) (query_about a) response) (ask_call call link l s a response)
  unfolding ask_call settled carried_out
  ask-comes call s response =
      hands-table l.memory _ h (
      hands_then (hands_itself (text_space s)) (λ space _.
      hands_then (hands_itself (room_in 1 link l.words)) (λ room _.
      hands_then (hands_itself (run_in link l.number)) (λ numbers _.
      hands_then (known_is (response_of response)) (λ answer known.
      hands_then (given_is a.descriptor a.given a.cwd) (λ q e.
      hands-unless _ _ (λ _. record { answer = answer; known = known; comes = rw e (decided (table_of l.memory) q answer call) })))))))

  revoke-comes : Hands (IsRevoke (query_about a)) (revoke_call link l a)
  unfolding revoke_call carried_out revoke_desc IsRevoke
  revoke-comes =
      hands-table l.memory _ h (
      hands_then (hands_itself (room_in 1 link l.words)) (λ room _.
      hands_then (hands_itself (run_in link l.number)) (λ numbers _.
      hands_then (given_is a.descriptor a.given a.cwd) (λ q e.
      hands-unless _ _ (λ _. rw e)))))

-- ---- and what they leave, by their acts

module _ (t : Table) (p : List ℕ) where
  acts-shut : {c : Result Decision} → IsShut t p → Hands (λ decision. IsShut (apply_acts t (acts_of None decision.act)) p) c
      → IsShut (apply_acts t (decided_acts c)) p
  unfolding decided_acts apply_acts
  acts-shut shut stops = shut
  acts-shut shut (hands x) = x

  answers-shut : {q : Query} {response : ℕ} {c : Result Decision} → IsShut t p → Answered (says_no p) (asked_in c) q response
      → Hands (DecidedBy t q response) c → Hands (λ decision. IsShut (apply_acts t (acts_of None decision.act)) p) c
  unfolding asked_in
  answers-shut shut f stops = stops
  answers-shut shut f (hands A) = hands (comes-shut t p shut A.comes (λ e. f e A.answer A.known))

  revoked-acts : (q : Query) {c : Result Decision} → IsShut t p → Hands (IsRevoke q) c
      → Hands (λ decision. IsShut (apply_acts t (acts_of None decision.act)) p) c
  unfolding IsRevoke acts_of apply_acts
  revoked-acts q shut stops = stops
  revoked-acts q shut (hands {x = decision} e) = hands {x = decision} (rw e (revoked-shut t p shut q))

  answers-open : {response : ℕ} {c : Result Decision} → Hands (DecidedBy t (path p) response) c → asked_in c ≡ true → response_of response ≡ Some Allow
      → IsOpen (apply_acts t (decided_acts c)) p
  unfolding asked_in decided_acts
  answers-open stops a e = absurd (false≢true a)
  answers-open (hands A) a e = let allow : A.answer ≡ Allow = cc (A.known, e) in comes-open (rw allow at A.comes) a

module _ {p m m' : List ℕ} (c : Result Decision) (A : Acted m (decided_acts c)) (e : m' ≡ do_acts m (decided_acts c)) where
  left-shut : IsShut (apply_acts (table_of m) (decided_acts c)) p → Shut p m'
  left-shut x = record { holding = rw e A.holding; state = rw (e, A.table) x }

  left_open : IsOpen (apply_acts (table_of m) (decided_acts c)) p → Open p m'
  left_open x = record { holding = rw e A.holding; state = rw (e, A.table) x }

-- a call that asked was lent a table
asked-held : (call : Call) (link : Link) (l : Lent) (s : List ℕ) (a : About) (response : ℕ) (b : Bool) → holds l.memory ≡ b
    → asked_in (ask_call call link l s a response) ≡ true → holds l.memory ≡ true
unfolding asked_in
asked-held call link l s a response true h asked = h
asked-held call link l s a response false h asked = absurd (false≢true (rw (ask-no-table call link l s a response h) at asked))

pub ask-shut : {p : List ℕ} {call : Call} {link : Link} {l : Lent} {s : List ℕ} {a : About} {response : ℕ} {l' : Lent} {s' : List ℕ} {r : Result Asked}
    → Asks call link l s a response l' s' r → Answered (says_no p) (told r) (query_about a) response → Shut p l.memory → Shut p l'.memory
ask-shut {p} {call} {link} {l} {s} {a} {response} A f S =
    let t = table_of l.memory in
    left-shut _ (ask-acted call link l s a response S.holding) A.sends.memory
    (acts-shut t p S.state (answers-shut t p S.state (λ k. f (A.answers.asked ∙ k)) (ask-comes link l a S.holding call s response)))

pub ask-open : {p : List ℕ} {call : Call} {link : Link} {l : Lent} {s given cwd : List ℕ} {response : ℕ} {l' : Lent} {s' : List ℕ} {r : Result Asked}
    → Asks call link l s (about Path given cwd) response l' s' r → IsYes p given cwd (told r) response → Open p l'.memory
unfolding query_of
ask-open {p} {call} {link} {l} {s} {given} {cwd} {response} A Y =
    let a = about Path given cwd in
    let asked = sym A.answers.asked ∙ Y.told in
    let h = asked-held call link l s a response _ refl asked in
    left_open _ (ask-acted call link l s a response h) A.sends.memory
    (answers-open (table_of l.memory) p (rw Y.for at (ask-comes link l a h call s response)) asked Y.answer)

pub revoke-shut : {p : List ℕ} {link : Link} {l : Lent} {a : About} {l' : Lent} {r : Result Revoked} → Revokes link l a l' r → Shut p l.memory → Shut p l'.memory
revoke-shut {p} {link} {l} {a} R S =
    let t = table_of l.memory in
    left-shut _ (revoke-acted link l a S.holding) R.sends.memory
    (acts-shut t p S.state (revoked-acts t p (query_about a) S.state (revoke-comes link l a S.holding)))
