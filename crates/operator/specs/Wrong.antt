-- Wrong versions of check, request and revoke, each of which the claim rules out by itself. Scope, "The operator against the script".
use Rattle.std.specs.Prelude.{ℕ, ◌≡◌, List, Bool, true, false, ◌&&◌, cond, None, Some}
use Rattle.refusals.specs.Refusals.{Result, and_then, unless}
use Rattle.paths.specs.Relations.{is_prefix}
use Rattle.paths.specs.Giving.{Query, no_path, path, given}
use Rattle.table.specs.declared.Kind.{Kind}
use Rattle.table.specs.declared.Kind.TheVariants.{G, D, P, I}
use Rattle.table.specs.Tables.{Table, has, prompt, marks_of}
use Rattle.table.specs.Acts.{without, apply_act}
use Rattle.table.specs.Calls.{table_in, put_in}
use Rattle.link.specs.declared.Link.{Link}
use Rattle.link.specs.Linking.{room_in, run_in, carry_cause}
use Rattle.link.specs.Sending.{Lent, Sends}
use Rattle.link.specs.Steps.{Records}
use Rattle.walk.specs.declared.PermissionState.{PermissionState}
use Rattle.walk.specs.declared.PermissionState.TheVariants.{
  Granted,
  GrantedPartial,
  Prompt,
  Denied,
  DeniedPartial,
  Ignored,
}
use Rattle.walk.specs.declared.AllowPartial.TheVariants.{TreatAsPartialGranted}
use Rattle.walk.specs.Walk.{query_desc}
use Rattle.deciding.specs.declared.PromptResponse.{PromptResponse}
use Rattle.deciding.specs.declared.PromptResponse.TheVariants.{Deny, Allow, AllowAll}
use Rattle.deciding.specs.declared.Call.{Call}
use Rattle.deciding.specs.declared.Call.TheVariants.{Check, Request}
use Rattle.deciding.specs.Decisions.{response_of, known_response, grant_act, answer_act, Decision, state_by, request_by, decide, revoke_act}
use Rattle.deciding.specs.Questions.{text_space}
use Rattle.calls.specs.declared.Asked.{Asked}
use Rattle.calls.specs.declared.Revoked.{Revoked}
use Rattle.calls.specs.Calls.{carried_out, decided_acts, About, words_in, Answers, Asks, revoked_answer, revoked_words, revoke_call, Revokes}
use Rattle.operator.specs.Operator.{Promises, Claim}

-- ---- check and request

-- what a call decides of what is asked about
abbrev pub Deciding : Type 0
Deciding = Call → Table → Query → PromptResponse → Decision

-- the checking order, with `deciding` for the decision; `ask_call` is the one with `decide`
abbrev pub ask_call_by : Deciding → Call → Link → Lent → List ℕ → About → ℕ → Result Decision
ask_call_by deciding call link l s a response =
    and_then (table_in l.memory) (λ t.
    and_then (text_space s) (λ space.
    and_then (room_in 1 link l.words) (λ room.
    and_then (run_in link l.number) (λ numbers.
    and_then (known_response (response_of response)) (λ known.
    and_then (given a.descriptor a.given a.cwd) (λ q.
    carried_out numbers t (deciding call t q known)))))))

-- `Asks` is the one with `decide`
pub record AsksBy (deciding : Deciding) (call : Call) (link : Link) (l : Lent) (s : List ℕ) (a : About) (response : ℕ) (l' : Lent) (s' : List ℕ) (r : Result Asked)
    : Type 0 where
  pub answers : Answers (ask_call_by deciding call link l s a response) a s s' r
  pub sends : Sends link (decided_acts (ask_call_by deciding call link l s a response)) l l' (words_in r)

-- Deny inserts G
unfoldable pub deny_grants : Deciding
deny_grants call t q Deny =
    let right = decide call t q Deny in
    record { state = right.state; asked = right.asked; writes = right.writes; act = cond right.asked (Some (grant_act t q)) right.act }
deny_grants call t q Allow = decide call t q Allow
deny_grants call t q AllowAll = decide call t q AllowAll

-- a request inserts G though the state is GrantedPartial
unfoldable pub partial_grants : Table → Query → PromptResponse → PermissionState → Decision
partial_grants t q response Granted = request_by t q response Granted
partial_grants t q response GrantedPartial = record { state = GrantedPartial; asked = false; writes = false; act = Some (grant_act t q) }
partial_grants t q response Prompt = request_by t q response Prompt
partial_grants t q response Denied = request_by t q response Denied
partial_grants t q response DeniedPartial = request_by t q response DeniedPartial
partial_grants t q response Ignored = request_by t q response Ignored

unfoldable pub inserts_partial : Deciding
inserts_partial Check t q response = decide Check t q response
inserts_partial Request t q response = partial_grants t q response (query_desc t TreatAsPartialGranted q)

-- a request without switch 16 takes the answer that it was handed, and says that it did not ask
unfoldable pub takes_unasked : Table → Query → PromptResponse → PermissionState → Decision
takes_unasked t q response Granted = request_by t q response Granted
takes_unasked t q response GrantedPartial = request_by t q response GrantedPartial
takes_unasked t q response Prompt = record {
  state = state_by response;
  asked = has t.switches prompt;
  writes = has t.switches prompt;
  act = Some (answer_act t q response);
}
takes_unasked t q response Denied = request_by t q response Denied
takes_unasked t q response DeniedPartial = request_by t q response DeniedPartial
takes_unasked t q response Ignored = request_by t q response Ignored

unfoldable pub answers_unasked : Deciding
answers_unasked Check t q response = decide Check t q response
answers_unasked Request t q response = takes_unasked t q response (query_desc t TreatAsPartialGranted q)

-- Allow inserts nothing
unfoldable pub allow_nothing : Deciding
allow_nothing call t q Deny = decide call t q Deny
allow_nothing call t q Allow =
    let right = decide call t q Allow in
    record { state = right.state; asked = right.asked; writes = right.writes; act = cond right.asked None right.act }
allow_nothing call t q AllowAll = decide call t q AllowAll

-- ---- revoke

-- the table that a revoke leaves
abbrev pub Revoking : Type 0
Revoking = Table → Query → Table

-- the checking order, and what it comes to, by the table and what is revoked; `revoke_call` is the one with `revoke_desc`
abbrev pub revoke_call_by : {A : Type 0} → (Table → Query → A) → Link → Lent → About → Result A
revoke_call_by by link l a =
    and_then (table_in l.memory) (λ t.
    and_then (room_in 1 link l.words) (λ room.
    and_then (run_in link l.number) (λ numbers.
    and_then (given a.descriptor a.given a.cwd) (λ q.
    unless (carry_cause numbers t (Some (revoke_act q))) (by t q)))))

-- `Revokes` is the one with `revokes`; what is recorded is the act of a revoke
pub record RevokesBy (revoking : Revoking) (link : Link) (l : Lent) (a : About) (l' : Lent) (r : Result Revoked) : Type 0 where
  pub answer : revoked_answer r ≡ revoke_call_by (λ t q. query_desc (revoking t q) TreatAsPartialGranted q) link l a
  pub memory : l'.memory ≡ put_in (revoke_call_by revoking link l a) l.memory
  pub records : Records link (decided_acts (revoke_call link l a)) l.number l.words 0 l'.number l'.words (revoked_words r)

abbrev pub revokes : Revoking
revokes t q = apply_act t (revoke_act q)

-- a revoke of a path drops D too, and keeps the marks of what is left
unfoldable pub is_granted_or_denied : Kind → Bool
is_granted_or_denied G = true
is_granted_or_denied D = true
is_granted_or_denied P = false
is_granted_or_denied I = false

unfoldable pub drops_denied : Revoking
drops_denied t no_path = revokes t no_path
drops_denied t (path q) =
    let left = without (λ e. is_granted_or_denied e.kind && is_prefix e.path q) t.entries in
    record { entries = left; switches = t.switches; marks = marks_of left }

-- ---- what `proofs/Wrong.antt` shows

-- the calls' own promises, but for check and request, or for revoke
abbrev pub asking : Deciding → Promises
asking deciding = record { asks = AsksBy deciding; revokes = Revokes }

abbrev pub revoking : Revoking → Promises
revoking by = record { asks = Asks; revokes = RevokesBy by }

pub record RuledOut : Type 0 where
  pub deny-grants : Claim (asking deny_grants) → ⊥
  pub inserts-partial : Claim (asking inserts_partial) → ⊥
  pub answers-unasked : Claim (asking answers_unasked) → ⊥
  pub allow-nothing : Claim (asking allow_nothing) → ⊥
  pub drops-denied : Claim (revoking drops_denied) → ⊥
  -- the right ones, in the same form, meet it
  pub asking-right : Claim (asking decide)
  pub revoking-right : Claim (revoking revokes)
