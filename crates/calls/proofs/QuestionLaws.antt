-- A call after a look at what it would ask: it asks exactly where the look says so, whatever the operator answers.
use Rattle.std.specs.Prelude.{Some, Ok, Err}
use Prim.Native.Nat.{ℕ}
use mathlib.Core.Path.{◌≡◌, refl}
use mathlib.Core.List.{List}
use mathlib.Core.Bool.{Bool, true, false}
use Rattle.refusals.specs.declared.Refusal.{Refusal}
use Rattle.refusals.specs.Refusals.{Result, and_then}
use Rattle.paths.specs.Giving.{Query, given}
use Rattle.table.specs.Tables.{Table}
use Rattle.table.specs.Memory.{table_of, holds}
use Rattle.table.specs.Calls.{table_in}
use Rattle.link.specs.declared.Link.{Link}
use Rattle.link.specs.Linking.{room_in, Numbering, numbering, run_in}
use Rattle.link.specs.Steps.{Admits}
use Rattle.link.proofs.LinkLaws.{room-long, run-known}
use Rattle.link.specs.Sending.{Lent}
use Rattle.table.proofs.CallLaws.{no_table, a-table}
use Rattle.deciding.specs.declared.PromptResponse.{PromptResponse}
use Rattle.deciding.specs.declared.Call.{Call}
use Rattle.deciding.specs.Decisions.{response_of, known_response, Decision, decide}
use Rattle.deciding.specs.Questions.{text_space, would_ask, question_call}
use Rattle.deciding.proofs.QuestionLaws.{asked-whatever}
use Rattle.calls.specs.Calls.{carried_out, settled, About, ask_call}

-- with a known answer, and room for its record if it is linked, the call is what the question finds: refused by the same cause, or a decision that asks exactly where the question says so
-- and is still to be carried out (8 and 9)
pub data Follows (numbers : Numbering) (t : Table) : Result Bool → Result Decision → Type 0 where
  stops : {cause : Refusal} → Follows numbers t (Err cause) (Err cause)
  goes : (decision : Decision) → Follows numbers t (Ok decision.asked) (carried_out numbers t decision)

module _ (call : Call) (link : Link) (l : Lent) (s : List ℕ) (a : About) (response : ℕ) {known : PromptResponse}
    (A : Admits 1 link l.words) (e : response_of response ≡ Some known) where
  follows-given : (numbers : Numbering) (t : Table) (g : Result Query)
      → Follows numbers t (and_then g (λ q. Ok (would_ask call t q))) (and_then g (λ q. carried_out numbers t (decide call t q known)))
  unfolding and_then
  follows-given numbers t (Err cause) = stops
  follows-given numbers t (Ok q) = rw (← asked-whatever call t q known) (goes (decide call t q known))

  follows-space : (numbers : Numbering) (t : Table) (found : Result (List ℕ))
      → Follows numbers t (and_then found (λ space. and_then (given a.descriptor a.given a.cwd) (λ q. Ok (would_ask call t q))))
      (and_then found (λ space. settled call numbers t a.descriptor a.given a.cwd known))
  unfolding and_then settled
  follows-space numbers t (Err cause) = stops
  follows-space numbers t (Ok space) = follows-given numbers t (given a.descriptor a.given a.cwd)

  pub question-follows : Follows (numbering link l.number) (table_of l.memory) (question_call call l.memory s a.descriptor a.given a.cwd) (ask_call call link l s a response)
  unfolding question_call ask_call and_then known_response
  question-follows = by (holds l.memory) refl
    where
      by : (b : Bool) → holds l.memory ≡ b
          → Follows (numbering link l.number) (table_of l.memory)
          (and_then (table_in l.memory) (λ t. and_then (text_space s) (λ space. and_then (given a.descriptor a.given a.cwd) (λ q. Ok (would_ask call t q)))))
          (and_then (table_in l.memory) (λ t. and_then (text_space s) (λ space. and_then (room_in 1 link l.words) (λ room. and_then (run_in link l.number) (λ numbers. and_then (known_response (response_of response)) (λ known. settled call numbers t a.descriptor a.given a.cwd known))))))
      by false h = rw (no_table l.memory h) stops
      by true h =
          rw (a-table l.memory h, room-long 1 link l.words A.roomy, run-known link l.number A.run, e)
          (follows-space (numbering link l.number) (table_of l.memory) (text_space s))
