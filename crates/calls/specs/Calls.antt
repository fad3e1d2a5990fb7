-- The calls check, request and revoke, plain and linked: for each its checking order, its answer, and the lent bytes after it. Scope, "A call comes in".
use Rattle.std.specs.Prelude.{ℕ, ◌+◌, ◌≤◌, ◌≡◌, List, [], Bool, false, cond, length, None, Ok, Err}
use Rattle.refusals.specs.Refusals.{Result, and_then, unless}
use Rattle.paths.specs.declared.Descriptor.{Descriptor}
use Rattle.paths.specs.Resolving.{resolve}
use Rattle.paths.specs.Copying.{begun}
use Rattle.paths.specs.Giving.{given, given_size, given_into}
use Rattle.table.specs.Tables.{Table}
use Rattle.table.specs.Acts.{Act}
use Rattle.table.specs.Memory.{table_of, do_acts}
use Rattle.table.specs.Carrying.{acts_of}
use Rattle.table.specs.Calls.{table_in}
use Rattle.records.specs.Numbers.{record_space}
use Rattle.link.specs.declared.Link.{Link}
use Rattle.link.specs.Linking.{room_in, Numbering, numbering, run_in, carry_cause}
use Rattle.link.specs.Sending.{Lent, Sends}
use Rattle.link.specs.Steps.{Records}
use Rattle.walk.specs.declared.PermissionState.{PermissionState}
use Rattle.deciding.specs.declared.PromptResponse.{PromptResponse}
use Rattle.deciding.specs.declared.Call.{Call}
use Rattle.calls.specs.declared.Settled.{Settled}
use Rattle.calls.specs.declared.Asked.{Asked}
use Rattle.calls.specs.declared.Revoked.{Revoked}
use Rattle.deciding.specs.Decisions.{response_of, known_response, Decision, decide, revoke_desc}
use Rattle.deciding.specs.Texts.{text_of}
use Rattle.deciding.specs.Questions.{text_space}

-- ---- what a call comes to: it is refused, or decides, and its act is carried out

-- 8 and 9: the act that is decided on, on the table t
unfoldable pub carried_out : Numbering → Table → Decision → Result Decision
carried_out numbers t decision = unless (carry_cause numbers t decision.act) decision

-- the same on what is lent
abbrev pub carried_on : Link → Lent → Decision → Result Decision
carried_on link l decision = carried_out (numbering link l.number) (table_of l.memory) decision

unfoldable pub answer_in : Result Decision → Result PermissionState
answer_in (Err cause) = Err cause
answer_in (Ok decision) = Ok decision.state

unfoldable pub asked_in : Result Decision → Bool
asked_in (Err cause) = false
asked_in (Ok decision) = decision.asked

unfoldable pub decided_acts : Result Decision → List Act
decided_acts (Err cause) = []
decided_acts (Ok decision) = acts_of None decision.act

-- the text that is written; a refused call writes none
unfoldable pub text_in : Result Decision → List ℕ → List ℕ
text_in (Err cause) text = []
text_in (Ok decision) text = cond decision.writes text []

-- ---- check and request of what is given, on the table t: 4 to 9

unfoldable pub settled : Call → Numbering → Table → Descriptor → List ℕ → List ℕ → PromptResponse → Result Decision
settled call numbers t d p cwd response =
    and_then (given d p cwd) (λ q.
    carried_out numbers t (decide call t q response))

-- the same on what is lent
abbrev pub settled_on : Call → Link → Lent → Descriptor → List ℕ → List ℕ → PromptResponse → Result Decision
settled_on call link l d p cwd response = settled call (numbering link l.number) (table_of l.memory) d p cwd response

-- what it comes to as an answer of the code, with the resolved path's length and where the record ends
unfoldable pub settled_as : Result Decision → ℕ → ℕ → Result Settled
settled_as (Err cause) n k = Err cause
settled_as (Ok decision) n k =
    Ok (record { state = decision.state; asked = decision.asked; writes = decision.writes; size = n; words = k })

-- what is lent, l, and the space s become l' and s'; a record stands from `at` on, and ends at `words`
pub record Settles (call : Call) (link : Link) (l : Lent) (at : ℕ) (d : Descriptor) (p cwd : List ℕ) (response : PromptResponse)
    (s : List ℕ) (l' : Lent) (s' : List ℕ) (r : Result Settled) : Type 0 where
  pub words : ℕ
  pub answer : r ≡ settled_as (settled_on call link l d p cwd response) (given_size d p cwd) words
  pub memory : l'.memory ≡ do_acts l.memory (decided_acts (settled_on call link l d p cwd response))
  pub records : Records link (decided_acts (settled_on call link l d p cwd response)) l.number l.words at l'.number l'.words words
  pub few : words ≤ at + record_space
  pub bytes : s' ≡ given_into d p cwd s

-- ---- check and request

-- no path or a path as given, and the working directory
pub record About : Type 0 where
  pub descriptor : Descriptor
  pub given : List ℕ
  pub cwd : List ℕ

abbrev pub about : Descriptor → List ℕ → List ℕ → About
about d p cwd = record { descriptor = d; given = p; cwd = cwd }

-- 1, 2 of both spaces, 3, and then what is given, with 4 to 9; l is what is lent, s the lent text space
unfoldable pub ask_call : Call → Link → Lent → List ℕ → About → ℕ → Result Decision
ask_call call link l s a response =
    and_then (table_in l.memory) (λ t.
    and_then (text_space s) (λ space.
    and_then (room_in 1 link l.words) (λ room.
    and_then (run_in link l.number) (λ numbers.
    and_then (known_response (response_of response)) (λ known.
    settled call numbers t a.descriptor a.given a.cwd known)))))

-- the text that is due for a call of what is given
unfoldable pub text_due : Result Decision → About → List ℕ
text_due c a = text_in c (text_of a.descriptor a.given (resolve a.given a.cwd))

-- what the code's answer says: its state or why the call is refused, whether the operator was asked, and how many bytes of text and words of records
-- stand there; a refused call asks nobody and writes nothing
abbrev pub answered : Result Asked → Result PermissionState
answered (Err cause) = Err cause
answered (Ok a) = Ok a.state

abbrev pub told : Result Asked → Bool
told (Err cause) = false
told (Ok a) = a.asked

abbrev pub text_size : Result Asked → ℕ
text_size (Err cause) = 0
text_size (Ok a) = a.text

abbrev pub words_in : Result Asked → ℕ
words_in (Err cause) = 0
words_in (Ok a) = a.words

-- what a call that comes to c answers, and the text space s after it: the text stands at its start, and a refused call leaves it as it was
pub record Answers (c : Result Decision) (a : About) (s s' : List ℕ) (r : Result Asked) : Type 0 where
  pub answer : answered r ≡ answer_in c
  pub asked : told r ≡ asked_in c
  pub size : text_size r ≡ length (text_due c a)
  pub space : s' ≡ begun (text_due c a) s

-- what is lent, l, and the text space s become l' and s': the act is done and, if the call is linked, recorded, and the text written; or the call is refused
-- and nothing changes
pub record Asks (call : Call) (link : Link) (l : Lent) (s : List ℕ) (a : About) (response : ℕ) (l' : Lent) (s' : List ℕ) (r : Result Asked) : Type 0 where
  pub answers : Answers (ask_call call link l s a response) a s s' r
  pub sends : Sends link (decided_acts (ask_call call link l s a response)) l l' (words_in r)

-- ---- revoke

-- 1, 2 and 3 of the link, 4 to 7, 9
unfoldable pub revoke_call : Link → Lent → About → Result Decision
revoke_call link l a =
    and_then (table_in l.memory) (λ t.
    and_then (room_in 1 link l.words) (λ room.
    and_then (run_in link l.number) (λ numbers.
    and_then (given a.descriptor a.given a.cwd) (λ q.
    carried_out numbers t (revoke_desc t q)))))

-- what the code's answer says: its state or why the call is refused, and how many words hold the record, none of a refused call
abbrev pub revoked_answer : Result Revoked → Result PermissionState
revoked_answer (Err cause) = Err cause
revoked_answer (Ok a) = Ok a.state

abbrev pub revoked_words : Result Revoked → ℕ
revoked_words (Err cause) = 0
revoked_words (Ok a) = a.words

pub record Revokes (link : Link) (l : Lent) (a : About) (l' : Lent) (r : Result Revoked) : Type 0 where
  pub answer : revoked_answer r ≡ answer_in (revoke_call link l a)
  pub sends : Sends link (decided_acts (revoke_call link l a)) l l' (revoked_words r)
