-- What the functions inside the crate ensure, step by step; `Calls.antt` has what they come to.
use Rattle.std.specs.Prelude.{ℕ, ◌+◌, ◌≤◌, ◌≡◌, List, [], cond, length}
use Rattle.refusals.specs.Refusals.{Result}
use Rattle.paths.specs.declared.Descriptor.{Descriptor}
use Rattle.paths.specs.Copying.{begun}
use Rattle.paths.specs.Giving.{Query}
use Rattle.table.specs.Memory.{table_of, do_acts}
use Rattle.records.specs.Numbers.{record_space}
use Rattle.link.specs.declared.Link.{Link}
use Rattle.link.specs.Sending.{Lent, Sends}
use Rattle.link.specs.Steps.{Records}
use Rattle.deciding.specs.declared.PromptResponse.{PromptResponse}
use Rattle.deciding.specs.declared.Call.{Call}
use Rattle.calls.specs.declared.Settled.{Settled}
use Rattle.calls.specs.declared.Asked.{Asked}
use Rattle.calls.specs.declared.Revoked.{Revoked}
use Rattle.deciding.specs.Decisions.{Decision, decide, revoke_desc}
use Rattle.deciding.specs.Texts.{text_of}
use Rattle.calls.specs.Calls.{carried_on, answer_in, decided_acts, settled_as, revoked_answer, revoked_words}

-- what a check or request of what is resolved decides, carried out on what is lent
abbrev pub decided_on : Call → Link → Lent → Query → PromptResponse → Result Decision
decided_on call link l q response = carried_on link l (decide call (table_of l.memory) q response)

-- a check or request of what is resolved to n bytes
pub record SettlesQuery (call : Call) (link : Link) (l : Lent) (at : ℕ) (q : Query) (response : PromptResponse) (n : ℕ) (l' : Lent) (r : Result Settled) : Type 0
  where
    pub words : ℕ
    pub answer : r ≡ settled_as (decided_on call link l q response) n words
    pub memory : l'.memory ≡ do_acts l.memory (decided_acts (decided_on call link l q response))
    pub records : Records link (decided_acts (decided_on call link l q response)) l.number l.words at l'.number l'.words words
    pub few : words ≤ at + record_space

-- a revoke of what is resolved
pub record RevokesQuery (link : Link) (q : Query) (l l' : Lent) (r : Result Revoked) : Type 0 where
  pub answer : revoked_answer r ≡ answer_in (carried_on link l (revoke_desc (table_of l.memory) q))
  pub sends : Sends link (decided_acts (carried_on link l (revoke_desc (table_of l.memory) q))) l l' (revoked_words r)

-- the answer of a call that is settled, and the text space s after it
pub record Finishes (settled : Settled) (d : Descriptor) (given resolved s s' : List ℕ) (r : Asked) : Type 0 where
  pub state : r.state ≡ settled.state
  pub told : r.asked ≡ settled.asked
  pub sent : r.words ≡ settled.words
  pub size : r.text ≡ length (cond settled.writes (text_of d given resolved) [])
  pub space : s' ≡ begun (cond settled.writes (text_of d given resolved) []) s
