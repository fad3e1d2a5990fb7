-- Each wrong version of `specs/Wrong.antt` breaks the claim with one call on a small table, and the right one in the same form meets it.
use Rattle.std.specs.Prelude.{Option, None, Some, Ok, Err}
use Prim.Native.Nat.{ℕ}
use mathlib.Core.Path.{◌≡◌, refl, ap, ◌∙◌}
use mathlib.Core.List.{List, [], ◌∷◌}
use mathlib.Core.Bool.{true, false, false≢true}
use Rattle.refusals.specs.declared.Refusal.{Refusal}
use Rattle.refusals.specs.Refusals.{first_cause, Result, and_then, unless}
use Rattle.refusals.proofs.CauseLaws.{unless-ok}
use Rattle.paths.specs.declared.Descriptor.TheVariants.{Path}
use Rattle.paths.specs.Components.{same, grown, parted, pieces, without_empty, components, slashed, spell}
use Rattle.paths.specs.Resolving.{is_absolute, join, entered, enter_all, normalize, resolve, is_resolved, is_bad_directory, path_conditions}
use Rattle.paths.specs.Copying.{begun}
use Rattle.paths.specs.Relations.{shared, common, depth, is_prefix, number_order, or_else, in_turn, path_order}
use Rattle.paths.specs.Giving.{Query, path, is_path, resolved, query_of, given}
use Rattle.table.specs.declared.Kind.TheVariants.{G, D}
use Rattle.table.specs.Entries.{same_path, strictly_extends, compare_alike, granted_order, compare}
use Rattle.table.specs.Placing.{is_after, search_from, search, place_by, place, placed_at}
use Rattle.table.specs.Tables.{Table, fresh, has, marked, any, every, present, marks_of, path_bytes, is_entry, is_table}
use Rattle.table.specs.Acts.{
  Act,
  insert,
  inserted,
  inserted_by,
  adds,
  would_add,
  has_room,
  overflows,
  kept_unless,
  without,
  apply_act,
  act_overflows,
  is_act,
  apply_acts,
}
use Rattle.table.specs.Memory.{table_of, put, do_act, do_acts}
use Rattle.table.specs.Carrying.{acts_of}
use Rattle.table.specs.Calls.{table_in, put_in}
use Rattle.table.proofs.Puts.{long_of, left-put}
use Rattle.table.proofs.StandingLaws.{all_fit, table-in, table_memory, memory-stands}
use Rattle.link.specs.declared.Link.{Link}
use Rattle.link.specs.declared.Link.TheVariants.{Plain}
use Rattle.link.specs.Linking.{lacks_room, room_in, numbering, lacks_run, run_in, used_up, carry_cause}
use Rattle.link.specs.Sending.{Lent, alone}
use Rattle.link.proofs.LinkLaws.{room-long, run-known, plain-admits}
use Rattle.link.proofs.SendingLaws.{records-plain, sends-recorded}
use Rattle.walk.specs.declared.PermissionState.TheVariants.{Granted, GrantedPartial, Denied}
use Rattle.walk.specs.Walk.{
  matches_kind,
  matches,
  first_match,
  is_flag,
  is_flag_below,
  is_partial,
  allowed,
  decided_by,
  is_denied_mode,
  is_denied,
  without_match,
  by_match,
  query_desc,
}
use Rattle.walk.specs.Cases.{bytes, entry}
use Rattle.deciding.specs.declared.PromptResponse.TheVariants.{Deny}
use Rattle.deciding.specs.declared.Call.{Call}
use Rattle.deciding.specs.declared.Call.TheVariants.{Request}
use Rattle.deciding.specs.Decisions.{
  response_of,
  known_response,
  grant_act,
  deny_act,
  answer_act,
  Decision,
  unasked,
  state_by,
  asks,
  request_by,
  request_desc,
  decide,
  revoke_act,
  revoke_desc,
}
use Rattle.calls.specs.declared.Asked.{Asked}
use Rattle.calls.specs.declared.Revoked.{Revoked}
use Rattle.calls.specs.Calls.{carried_out, answer_in, asked_in, decided_acts, settled, About, about, ask_call, text_due, revoked_answer, revoke_call, Asks, Revokes}
use Rattle.operator.specs.Operator.{
  is_open,
  Operator,
  says_no,
  Answered,
  Promises,
  promised,
  Step,
  Script,
  start,
  then_call,
  Allowed,
  Claim,
}
use Rattle.operator.specs.Operator as operator
use Rattle.operator.specs.Wrong.{
  Deciding,
  ask_call_by,
  AsksBy,
  deny_grants,
  partial_grants,
  inserts_partial,
  takes_unasked,
  answers_unasked,
  allow_nothing,
  revoke_call_by,
  RevokesBy,
  revokes,
  is_granted_or_denied,
  drops_denied,
  asking,
  revoking,
  RuledOut,
}
use Rattle.operator.proofs.Operator.{operator-against-script}
use Rattle.operator.proofs.OpenLaws.{IsShut, IsOpen}
use Rattle.operator.proofs.StepLaws.{
  prompting,
  text_room,
  text-room,
  leaves,
  sends-by,
  result_of,
  answers_by,
  answered-by,
  shut-on,
  never_both,
  opens-to,
  opens_by,
  opens-unkept,
}

-- ---- the right versions, in the form of the wrong ones

-- the checking order made with `decide` is `ask_call`
asks-same : {call : Call} {link : Link} {l : Lent} {s : List ℕ} {a : About} {response : ℕ} {l' : Lent} {s' : List ℕ} {r : Result Asked}
    → AsksBy decide call link l s a response l' s' r → Asks call link l s a response l' s' r
unfolding ask_call settled
asks-same A = record { answers = A.answers; sends = A.sends }

-- what a checking order comes to, told as f or as g: the same, where a refusal is told the same, and what it ends in
module _ {A B C : Type 0} (f : Result A → C) (g : Result B → C) (stopped : (cause : Refusal) → f (Err cause) ≡ g (Err cause)) where
  then_same : {X : Type 0} (x : Result X) (h : X → Result A) (k : X → Result B) → ((y : X) → x ≡ Ok y → f (h y) ≡ g (k y)) → f (and_then x h) ≡ g (and_then x k)
  unfolding and_then
  then_same (Err cause) h k e = stopped cause
  then_same (Ok y) h k e = e y refl

  unless-same : (cause : Option Refusal) (x : A) (y : B) → f (Ok x) ≡ g (Ok y) → f (unless cause x) ≡ g (unless cause y)
  unfolding unless
  unless-same None x y e = e
  unless-same (Some cause) x y e = stopped cause

  revoke-told : (link : Link) (l : Lent) (a : About) (by : Table → Query → A) (to : Table → Query → B)
      → ((t : Table) (q : Query) → table_in l.memory ≡ Ok t → f (Ok (by t q)) ≡ g (Ok (to t q)))
      → f (revoke_call_by by link l a) ≡ g (revoke_call_by to link l a)
  revoke-told link l a by to e =
      then_same (table_in l.memory) _ _ (λ t held.
      then_same (room_in 1 link l.words) _ _ (λ room _.
      then_same (run_in link l.number) _ _ (λ numbers _.
      then_same (given a.descriptor a.given a.cwd) _ _ (λ q _.
      unless-same (carry_cause numbers t (Some (revoke_act q))) (by t q) (to t q) (e t q held)))))

-- and the one of a revoke, made with `revoke_desc`, is `revoke_call`
module _ {link : Link} {l : Lent} {a : About} {l' : Lent} {r : Result Revoked} (R : RevokesBy revokes link l a l' r) where
  same_answer : revoked_answer r ≡ answer_in (revoke_call link l a)
  unfolding revoke_call carried_out revoke_desc answer_in
  same_answer = R.answer ∙ revoke-told (λ x. x) answer_in (λ cause. refl) link l a _ revoke_desc (λ t q held. refl)

  same_memory : l'.memory ≡ do_acts l.memory (decided_acts (revoke_call link l a))
  unfolding table_in revoke_call carried_out revoke_desc put_in decided_acts acts_of do_acts do_act
  same_memory =
      R.memory
      ∙ revoke-told (λ u. put_in u l.memory) (λ c. do_acts l.memory (decided_acts c)) (λ cause. refl) link l a revokes revoke_desc
      (λ t q held. rw (unless-ok _ (table_of l.memory) held).1)

  revokes-same : Revokes link l a l' r
  revokes-same = record { answer = same_answer; sends = sends-recorded same_memory R.records }

-- promises that imply the calls' own
record Implies (P : Promises) : Type 0 where
  asks : (call : Call) {link : Link} {l : Lent} {s : List ℕ} {a : About} {response : ℕ} {l' : Lent} {s' : List ℕ} {r : Result Asked}
      → P.asks call link l s a response l' s' r → Asks call link l s a response l' s' r
  revokes : {link : Link} {l : Lent} {a : About} {l' : Lent} {r : Result Revoked} → P.revokes link l a l' r → Revokes link l a l' r

module _ {P : Promises} (F : Implies P) where
  step-implies : {may : Operator} {m m' : List ℕ} → Step P may m m' → Step promised may m m'
  step-implies (operator.queries mode a r e same) = operator.queries mode a r e same
  step-implies (operator.asks call link n w s a response n' w' s' r A f) = operator.asks call link n w s a response n' w' s' r (F.asks call A) f
  step-implies (operator.revokes link n w a n' w' r R) = operator.revokes link n w a n' w' r (F.revokes R)

  script-implies : {may : Operator} {m m' : List ℕ} → Script (Step P may) m m' → Script (Step promised may) m m'
  script-implies start = start
  script-implies (then_call R C) = then_call (script-implies R) (step-implies C)

  allowed-implies : {p m m' : List ℕ} → Allowed P p m m' → Allowed promised p m m'
  allowed-implies (operator.allowed call link n w s p cwd response n' w' s' r A Y) =
      operator.allowed call link n w s p cwd response n' w' s' r (F.asks call A) Y

  claim-implies : Claim P
  claim-implies = record {
    no = λ p m m' R S. operator-against-script.no p m m' (script-implies R) S;
    yes = λ p m m' A. operator-against-script.yes p m m' (allowed-implies A);
    seen = operator-against-script.seen;
  }

-- ---- one wrong call, plain

module _ (deciding : Deciding) (t : Table) (v : is_table t ≡ true) (p : List ℕ) (response : ℕ) (decision : Decision)
    (comes : and_then (known_response (response_of response)) (λ known.
    and_then (given Path p []) (λ q. carried_out (numbering Plain 0) t (deciding Request t q known))) ≡ Ok decision) where
  abbrev m : List ℕ
  m = table_memory t

  abbrev a : About
  a = about Path p []

  asked : AsksBy deciding Request Plain (alone m) text_room a response (leaves Plain (decided_acts (Ok decision)) (alone m))
      (begun (text_due (Ok decision) a) text_room) (result_of Plain 0 (Ok decision) a)
  unfolding and_then
  asked =
      let A = plain-admits 1 [] in
      let e : ask_call_by deciding Request Plain (alone m) text_room a response ≡ Ok decision =
      rw (table-in (memory-stands t v), text-room, room-long 1 Plain [] A.roomy, run-known Plain 0 A.run) comes
      in
      record { answers = answers_by Plain 0 text_room e; sends = sends-by (alone m) (ap decided_acts e) }

  -- a request for p opens x, though the operator says no
  request-breaks : (x : List ℕ) (act : Act) → decided_acts (Ok decision) ≡ act ∷ []
      → Answered (says_no x) (asked_in (Ok decision)) (query_of Path (resolve p [])) response
      → IsShut t x → all_fit t (act ∷ []) ≡ true → IsOpen (apply_acts t (act ∷ [])) x → Claim (asking deciding) → ⊥
  unfolding asked_in
  request-breaks x act acts may shut fits opened C =
      let step : Step (asking deciding) (says_no x) m (do_acts m (act ∷ [])) =
      operator.asks Request Plain 0 [] text_room a response _ _ _ _ (rw acts at asked) may
      in
      opens-unkept {Next = λ p. Step (asking deciding) (says_no p)} (opens_by x t (act ∷ []) v shut fits opened step) C.no

-- ---- the tables

-- two grants in front of a denial that has nothing to do with them, and switch 1: a G for `/a` lands in front of them all
abbrev unsorted : Table
unsorted = record { entries = entry G "/c" ∷ entry G "/d" ∷ entry D "/a/b" ∷ []; switches = 1; marks = 1 }

-- a denial, and switch 1
abbrev denying : Table
denying = record { entries = entry D "/a" ∷ []; switches = 1; marks = 1 }

-- and what is left of it without the denial
abbrev allowing : Table
allowing = record { entries = []; switches = 1; marks = 0 }

pub ruled_out : RuledOut
unfolding bytes entry first_cause and_then unless
    same grown parted pieces without_empty components slashed spell
    is_absolute join entered enter_all normalize resolve is_resolved is_bad_directory path_conditions
    shared common depth is_prefix number_order or_else in_turn path_order is_path resolved query_of given
    same_path strictly_extends compare_alike granted_order compare is_after search_from search place_by place placed_at
    has marked any every present marks_of path_bytes is_entry is_table
    inserted inserted_by adds would_add has_room overflows kept_unless without apply_act act_overflows is_act apply_acts
    acts_of do_acts put_in lacks_room room_in numbering lacks_run run_in used_up carry_cause
    matches_kind matches first_match is_flag is_flag_below is_partial allowed decided_by is_denied_mode is_denied without_match by_match query_desc
    response_of known_response grant_act deny_act answer_act unasked state_by asks request_by request_desc decide
    revoke_act carried_out asked_in decided_acts is_open says_no all_fit
    deny_grants partial_grants inserts_partial takes_unasked answers_unasked allow_nothing is_granted_or_denied drops_denied
ruled_out = record {
  -- a request for `/a`, denied
  deny-grants =
      request-breaks deny_grants prompting refl (bytes "/a") 0 (record { state = Denied; asked = true; writes = true; act = Some (insert (entry G "/a")) }) refl
      (bytes "/a") (insert (entry G "/a")) refl (answered-by (says_no (bytes "/a")) (path (bytes "/a")) 0 Deny refl refl) refl refl refl;
  -- a request for `/a`, which is GrantedPartial, opens `/a/b`
  inserts-partial =
      request-breaks inserts_partial unsorted refl (bytes "/a") 0
      (record { state = GrantedPartial; asked = false; writes = false; act = Some (insert (entry G "/a")) }) refl
      (bytes "/a/b") (insert (entry G "/a")) refl (answered-by (says_no (bytes "/a/b")) (path (bytes "/a")) 0 Deny refl refl) refl refl refl;
  -- a request for `/a` that is handed Allow
  answers-unasked =
      request-breaks answers_unasked fresh refl (bytes "/a") 1 (record { state = Granted; asked = false; writes = false; act = Some (insert (entry G "/a")) }) refl
      (bytes "/a") (insert (entry G "/a")) refl (λ e. absurd (false≢true e)) refl refl refl;
  -- a request for `/a`, allowed
  allow-nothing = λ C.
      never_both (shut-on (bytes "/a") (memory-stands prompting refl) refl)
      (C.yes (bytes "/a") (table_memory prompting) (table_memory prompting)
      (operator.allowed Request Plain 0 [] text_room (bytes "/a") [] 1 _ _ _ _
      (asked allow_nothing prompting refl (bytes "/a") 1 (record { state = Granted; asked = true; writes = true; act = None }) refl)
      (record { for = refl; told = refl; answer = refl })));
  -- a revoke of `/a`
  drops-denied = λ C.
      let S = memory-stands denying refl in
      let L = left-put (table_memory denying) _ allowing refl (long_of (table_memory denying) S.holding) refl in
      let r : Result Revoked = Ok (record { state = Granted; words = 0 }) in
      let R : RevokesBy drops_denied Plain (alone (table_memory denying)) (about Path (bytes "/a") []) (alone (put allowing (table_memory denying))) r = record {
        answer = rw (table-in S);
        memory = rw (table-in S);
        records = records-plain _ 0 [] 0;
      }
      in
      opens-unkept {Next = λ p. Step (revoking drops_denied) (says_no p)}
      (opens-to (bytes "/a") denying allowing refl refl (record { holding = L.holding; table = L.table }) refl
      (operator.revokes Plain 0 [] (about Path (bytes "/a") []) 0 [] r R))
      C.no;
  asking-right = claim-implies (record { asks = λ call. asks-same; revokes = λ R. R });
  revoking-right = claim-implies (record { asks = λ call A. A; revokes = revokes-same });
}
