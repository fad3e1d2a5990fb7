-- Single steps on a known table: what a call comes to there and leaves, and one that opens a path which was shut. The witness, the needed premises and the
-- wrong versions rest on these; the claim does not.
use Rattle.std.specs.Prelude.{Some, Ok}
use Prim.Native.Nat.{ℕ, ◌+◌}
use mathlib.Core.Path.{◌≡◌, refl, sym, ap, ◌∙◌}
use mathlib.Core.List.{List, []}
use mathlib.Core.Bool.{Bool, true, true≢false}
use native.Mathlib.Omega.{arith}
use lib.ListN.{length}
use borrow.Author.Tests.{le-ltb}
use Rattle.refusals.specs.Refusals.{first_cause, Result, and_then, unless}
use Rattle.paths.specs.Copying.{begun}
use Rattle.paths.specs.Giving.{Query, given}
use Rattle.table.specs.Tables.{Table, is_table}
use Rattle.table.specs.Acts.{Act, apply_acts}
use Rattle.table.specs.Memory.{do_acts}
use Rattle.table.proofs.StandingLaws.{all_fit, Stands, stands-then, table-in, space_of, length-space, table_memory, memory-stands}
use Rattle.records.specs.Records.{all_words}
use Rattle.link.specs.declared.Link.{Link}
use Rattle.link.specs.Linking.{numbering}
use Rattle.link.specs.Sending.{changes_of, Lent, lent, Sends}
use Rattle.link.specs.Steps.{Admits}
use Rattle.link.proofs.LinkLaws.{room-long, run-known}
use Rattle.link.proofs.SendingLaws.{no-changes}
use Rattle.walk.specs.Walk.{mode_of, known_mode, query_desc}
use Rattle.walk.specs.Calls.{query_call}
use Rattle.deciding.specs.declared.Call.{Call}
use Rattle.deciding.specs.declared.PromptResponse.{PromptResponse}
use Rattle.deciding.specs.Decisions.{response_of, known_response, Decision, revoke_desc}
use Rattle.deciding.specs.Questions.{text_bytes, text_space}
use Rattle.calls.specs.declared.Asked.{Asked}
use Rattle.calls.specs.declared.Revoked.{Revoked}
use Rattle.calls.specs.Calls.{carried_out, answer_in, decided_acts, settled, About, ask_call, text_due, Answers, Asks, revoke_call, Revokes}
use Rattle.calls.proofs.AnswerLaws.{asked_by, asked-state, asked-told, asked-text, asked-words, revoked_by, revoked-state, revoked-words}
use Rattle.operator.specs.Operator.{Shut, Open, Operator, Answered, start, then_call, KeepsShut}
use Rattle.operator.specs.Needed.{Opens}
use Rattle.operator.proofs.OpenLaws.{IsShut, IsOpen}

-- ---- the calls on memory that holds a table

-- no entry, and switch 16 alone
abbrev pub prompting : Table
prompting = record { entries = []; switches = 16; marks = 0 }

-- a text space
abbrev pub text_room : List ℕ
text_room = space_of text_bytes

pub text-room : text_space text_room ≡ Ok text_room
unfolding text_space first_cause unless
text-room = rw (le-ltb (length text_room) text_bytes (omega (arith, length-space text_bytes)))

module _ {m : List ℕ} {t : Table} (S : Stands m t) (a : About) where
  module _ {link : Link} {w : List ℕ} (A : Admits 1 link w) (n : ℕ) where
    pub ask-on : (call : Call) (response : ℕ) → ask_call call link (lent m n w) text_room a response
        ≡ and_then (known_response (response_of response)) (λ known. settled call (numbering link n) t a.descriptor a.given a.cwd known)
    unfolding ask_call and_then
    ask-on call response = rw (table-in S, text-room, room-long 1 link w A.roomy, run-known link n A.run)

    pub revoke-on : revoke_call link (lent m n w) a
        ≡ and_then (given a.descriptor a.given a.cwd) (λ q. carried_out (numbering link n) t (revoke_desc t q))
    unfolding revoke_call and_then
    revoke-on = rw (table-in S, room-long 1 link w A.roomy, run-known link n A.run)

  pub query-on : (mode : ℕ) → query_call m mode a.descriptor a.given a.cwd
      ≡ and_then (known_mode (mode_of mode)) (λ known. and_then (given a.descriptor a.given a.cwd) (λ q. Ok (query_desc t known q)))
  unfolding query_call and_then
  query-on mode = rw (table-in S)

-- ---- a call's promise settles everything that it answers and leaves, so that there is a step for what it comes to

-- what is lent, after acts
abbrev pub leaves : Link → List Act → Lent → Lent
leaves link acts l =
    lent (do_acts l.memory acts) (l.number + length (changes_of link l.number acts)) (begun (all_words (changes_of link l.number acts)) l.words)

-- the words that hold their records
abbrev pub words_of : Link → ℕ → List Act → ℕ
words_of link n acts = length (all_words (changes_of link n acts))

pub sends-by : {link : Link} (l : Lent) {made acts : List Act} → made ≡ acts → Sends link made l (leaves link acts l) (words_of link l.number acts)
sends-by l e = rw e (record { memory = refl; number = refl; words = refl; count = refl })

pub no-words : (link : Link) (n : ℕ) → 0 ≡ words_of link n []
unfolding all_words
no-words link n = rw (no-changes link n)

-- what check or request answers that comes to c, and what revoke does
abbrev pub result_of : Link → ℕ → Result Decision → About → Result Asked
result_of link n c a = asked_by (words_of link n) (no-words link n) c a

abbrev pub revoked_of : Link → ℕ → Result Decision → Result Revoked
revoked_of link n c = revoked_by (words_of link n) (no-words link n) c

pub answers_by : (link : Link) (n : ℕ) {a : About} {call c : Result Decision} (s : List ℕ) → call ≡ c
    → Answers call a s (begun (text_due c a) s) (result_of link n c a)
answers_by link n {a} {c = c} s e =
    let size = words_of link n in
    let none = no-words link n in
    rw e (record { answer = asked-state size none a c; asked = asked-told size none a c; size = asked-text size none a c; space = refl })

pub asks-by : {call : Call} {link : Link} {l : Lent} {s : List ℕ} {a : About} {response : ℕ} {c : Result Decision} → ask_call call link l s a response ≡ c
    → Asks call link l s a response (leaves link (decided_acts c) l) (begun (text_due c a) s) (result_of link l.number c a)
asks-by {link = link} {l = l} {s = s} {a = a} {c = c} e =
    let told = asked-words (words_of link l.number) (no-words link l.number) a c in
    record { answers = answers_by link l.number s e; sends = rw told (sends-by l (ap decided_acts e)) }

pub revokes-by : {link : Link} {l : Lent} {a : About} {c : Result Decision} → revoke_call link l a ≡ c
    → Revokes link l a (leaves link (decided_acts c) l) (revoked_of link l.number c)
revokes-by {link} {l} {c = c} e =
    let size = words_of link l.number in
    let none = no-words link l.number in
    record { answer = revoked-state size none c ∙ sym (ap answer_in e); sends = rw (revoked-words size none c) (sends-by l (ap decided_acts e)) }

-- the answer that the number names is one that the operator may give
pub answered-by : (operator : Operator) {asked : Bool} (q : Query) (response : ℕ) (answer : PromptResponse) → response_of response ≡ Some answer
    → operator q answer ≡ true → Answered operator asked q response
answered-by operator q response answer known may told other also = let same : answer ≡ other = cc (known, also) in rw (← same) may

-- ---- a known table, on which p is shut

pub shut-on : {m : List ℕ} {t : Table} (p : List ℕ) → Stands m t → IsShut t p → Shut p m
shut-on p S e = record { holding = S.holding; state = rw S.table e }

pub open-on : {m : List ℕ} {t : Table} (p : List ℕ) → Stands m t → IsOpen t p → Open p m
open-on p S e = record { holding = S.holding; state = rw S.table e }

pub never_both : {p m : List ℕ} → Shut p m → Open p m → ⊥
never_both S O = true≢false (sym O.state ∙ S.state)

-- memory with the table t, and memory with the table u, which a step leaves
pub opens-to : {Next : List ℕ → List ℕ → List ℕ → Type 0} (p : List ℕ) (t u : Table) {m : List ℕ} → is_table t ≡ true → IsShut t p → Stands m u
    → IsOpen u p → Next p (table_memory t) m → Opens Next
opens-to p t u {m} v shut S opened next = record {
  p = p;
  before = table_memory t;
  after = m;
  shut = shut-on p (memory-stands t v) shut;
  step = next;
  opened = open-on p S opened;
}

-- the same by acts
pub opens_by : {Next : List ℕ → List ℕ → List ℕ → Type 0} (p : List ℕ) (t : Table) (acts : List Act) → is_table t ≡ true → IsShut t p
    → all_fit t acts ≡ true → IsOpen (apply_acts t acts) p → Next p (table_memory t) (do_acts (table_memory t) acts) → Opens Next
opens_by p t acts v shut fits opened next = opens-to p t (apply_acts t acts) v shut (stands-then (memory-stands t v) acts fits) opened next

-- then p is not kept shut
pub opens-unkept : {Next : List ℕ → List ℕ → List ℕ → Type 0} → Opens Next → KeepsShut Next → ⊥
opens-unkept O keeps = never_both (keeps O.p O.before O.after (then_call start O.step) O.shut) O.opened
