-- What check and request would ask, before the operator's answer is known: checking order, answer, and the text space after it. Scope, "A call comes in".
use Rattle.std.specs.Prelude.{ℕ, ◌≡◌, List, [], ◌∷◌, Bool, true, false, cond, length, ltb, Option, None, Some, Ok, Err}
use Rattle.refusals.specs.declared.Refusal.TheVariants.{NoSpace}
use Rattle.refusals.specs.Refusals.{when, first_cause, Result, and_then, unless}
use Rattle.paths.specs.declared.Descriptor.{Descriptor}
use Rattle.paths.specs.Resolving.{resolve}
use Rattle.paths.specs.Copying.{begun}
use Rattle.paths.specs.Giving.{Query, given}
use Rattle.table.specs.Tables.{Table}
use Rattle.table.specs.Calls.{table_in}
use Rattle.deciding.specs.declared.PromptResponse.TheVariants.{Deny}
use Rattle.deciding.specs.declared.Call.{Call}
use Rattle.deciding.specs.Decisions.{decide}
use Rattle.deciding.specs.Texts.{text_of}

-- ---- the text space

-- `read access to `, a name of 1,024 bytes and two quotes
abbrev pub text_bytes : ℕ
text_bytes = 1041

-- 2: the lent text space
unfoldable pub text_space : List ℕ → Result (List ℕ)
text_space s = unless (first_cause (when (ltb (length s) text_bytes) NoSpace ∷ [])) s

-- ---- what check and request would ask, before the operator's answer is known

-- whether the operator is asked about q; it is the same for every answer (`asked-whatever`)
unfoldable pub would_ask : Call → Table → Query → Bool
would_ask call t q = (decide call t q Deny).asked

-- 1, 2, and 4 to 7
unfoldable pub question_call : Call → List ℕ → List ℕ → Descriptor → List ℕ → List ℕ → Result Bool
question_call call m s d p cwd =
    and_then (table_in m) (λ t.
    and_then (text_space s) (λ room.
    and_then (given d p cwd) (λ q.
    Ok (would_ask call t q))))

-- the length of the question, if one would be asked
unfoldable pub question_by : Bool → List ℕ → Option ℕ
question_by true text = Some (length text)
question_by false text = None

unfoldable pub question_in : Result Bool → List ℕ → Result (Option ℕ)
question_in (Err cause) text = Err cause
question_in (Ok asks) text = Ok (question_by asks text)

unfoldable pub question_text : Result Bool → List ℕ → List ℕ
question_text (Err cause) text = []
question_text (Ok asks) text = cond asks text []

-- the text space s becomes s': the question stands at its start, or nothing changes
pub record Questions (call : Call) (m s : List ℕ) (d : Descriptor) (p cwd s' : List ℕ) (r : Result (Option ℕ)) : Type 0 where
  pub answer : r ≡ question_in (question_call call m s d p cwd) (text_of d p (resolve p cwd))
  pub space : s' ≡ begun (question_text (question_call call m s d p cwd) (text_of d p (resolve p cwd))) s
