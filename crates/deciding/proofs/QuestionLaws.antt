-- Laws of the question that a call would ask: it is asked exactly where the call itself asks, whatever the operator answers.
use Rattle.std.specs.Prelude.{Option, Some, None, Ok, Err}
use Prim.Native.Nat.{ℕ, ◌≤◌, ◌<◌}
use mathlib.Core.Path.{◌≡◌, refl, ap}
use mathlib.Core.List.{List, []}
use mathlib.Core.Bool.{Bool, true, false, cond}
use native.Mathlib.Omega.{arith}
use lib.ListN.{length, take}
use lib.Seq.{length-take-le}
use borrow.Author.Tests.{lt-ltb, le-ltb}
use Rattle.refusals.specs.declared.Refusal.{Refusal}
use Rattle.refusals.specs.declared.Refusal.TheVariants.{NoSpace}
use Rattle.refusals.specs.Refusals.{Result, first_cause, and_then, unless}
use Rattle.paths.specs.declared.Descriptor.{Descriptor}
use Rattle.paths.specs.Copying.{begun, Appends}
use Rattle.paths.specs.Giving.{Query, query_of, Gives}
use Rattle.paths.proofs.GivingLaws.{Stands, gives-refused, gives-stands}
use Rattle.paths.specs.Resolving.{resolve}
use Rattle.paths.specs.declared.Descriptor.TheVariants.{NoPath, Path}
use Rattle.table.specs.Tables.{Table, has, prompt}
use Rattle.table.specs.Calls.{table_in}
use Rattle.table.proofs.Overwrites.{from_start}
use Rattle.walk.specs.declared.PermissionState.{PermissionState}
use Rattle.walk.specs.declared.PermissionState.TheVariants as state
use Rattle.walk.specs.declared.AllowPartial.TheVariants.{TreatAsPartialGranted}
use Rattle.walk.specs.Walk.{query_desc, is_allow_all}
use Rattle.deciding.specs.declared.PromptResponse.{PromptResponse}
use Rattle.deciding.specs.declared.Call.{Call}
use Rattle.deciding.specs.declared.Call.TheVariants.{Check, Request}
use Rattle.deciding.specs.Decisions.{Decision, asks, check_mode, check_by, check_desc, request_by, request_desc, decide}
use Rattle.deciding.specs.Texts.{text_of}
use Rattle.deciding.specs.Questions.{text_bytes, text_space, would_ask, question_call, question_by, question_in, question_text, Questions}
use Rattle.deciding.specs.Steps.{HasText}

-- ---- the answer does not matter

by-prompt : (b : Bool) (t : Table) (q : Query) (r r' : PromptResponse) (d : Decision)
    → (cond b (asks t q r) d).asked ≡ (cond b (asks t q r') d).asked
unfolding asks
by-prompt true t q r r' d = refl
by-prompt false t q r r' d = refl

check-whatever : (t : Table) (q : Query) (r r' : PromptResponse) (s : PermissionState) → (check_by t q r s).asked ≡ (check_by t q r' s).asked
unfolding check_by
check-whatever t q r r' state.Granted = refl
check-whatever t q r r' state.GrantedPartial = refl
check-whatever t q r r' state.Prompt = by-prompt (has t.switches prompt) t q r r' _
check-whatever t q r r' state.Denied = refl
check-whatever t q r r' state.DeniedPartial = refl
check-whatever t q r r' state.Ignored = refl

request-whatever : (t : Table) (q : Query) (r r' : PromptResponse) (s : PermissionState) → (request_by t q r s).asked ≡ (request_by t q r' s).asked
unfolding request_by
request-whatever t q r r' state.Granted = refl
request-whatever t q r r' state.GrantedPartial = refl
request-whatever t q r r' state.Prompt = by-prompt (has t.switches prompt) t q r r' _
request-whatever t q r r' state.Denied = refl
request-whatever t q r r' state.DeniedPartial = refl
request-whatever t q r r' state.Ignored = refl

by_all : (b : Bool) (d x y : Decision) → x.asked ≡ y.asked → (cond b d x).asked ≡ (cond b d y).asked
by_all true d x y e = refl
by_all false d x y e = e

-- what a call decides says the same of asking for every two answers
decide-whatever : (call : Call) (t : Table) (q : Query) (r r' : PromptResponse) → (decide call t q r).asked ≡ (decide call t q r').asked
unfolding decide check_desc request_desc
decide-whatever Check t q r r' = by_all (is_allow_all t) _ _ _ (check-whatever t q r r' (query_desc t (check_mode q) q))
decide-whatever Request t q r r' = request-whatever t q r r' (query_desc t TreatAsPartialGranted q)

pub asked-whatever : (call : Call) (t : Table) (q : Query) (response : PromptResponse) → (decide call t q response).asked ≡ would_ask call t q
unfolding would_ask
asked-whatever call t q response = decide-whatever call t q response _

-- ---- the text

pub text_same : {d : Descriptor} {p cwd : List ℕ} {n : ℕ} {s : List ℕ} → Stands d p cwd n s → text_of d p (take n s) ≡ text_of d p (resolve p cwd)
text_same {d = NoPath} S = unfold text_of in refl
text_same {d = Path} {p = p} S = ap (text_of Path p) (S.bytes refl)

pub text-room : {d : Descriptor} {p cwd : List ℕ} {n : ℕ} {s t : List ℕ} → text_bytes ≤ length t → Stands d p cwd n s → HasText d p (take n s) t
text-room {n = n} {s = s} h S = record { room = h; short = let e = length-take-le n s S.room in let k = S.short in omega arith; brief = S.brief }

-- ---- what the code answers

module _ {call : Call} {m s : List ℕ} {d : Descriptor} {p cwd : List ℕ} where
  pub question-no-table : {cause : Refusal} {a : Result (Option ℕ)} → table_in m ≡ Err cause → a ≡ Err cause → Questions call m s d p cwd s a
  unfolding question_call and_then question_in question_text begun
  question-no-table h f = record { answer = rw h f; space = rw h }

  module _ {t : Table} (h : table_in m ≡ Ok t) where
    pub question-no-space : length s < text_bytes → Questions call m s d p cwd s (Err NoSpace)
    unfolding question_call and_then text_space first_cause unless question_in question_text begun
    question-no-space short = record { answer = rw (h, lt-ltb _ _ short); space = rw (h, lt-ltb _ _ short) }

    module _ (room : text_bytes ≤ length s) {z z' : List ℕ} {r : Result ℕ} (G : Gives d p cwd z r z') where
      pub question-refused : {cause : Refusal} {a : Result (Option ℕ)} → r ≡ Err cause → a ≡ Err cause → Questions call m s d p cwd s a
      unfolding question_call and_then text_space first_cause unless question_in question_text begun
      question-refused e f = record { answer = rw (h, le-ltb _ _ room, gives-refused G e) f; space = rw (h, le-ltb _ _ room, gives-refused G e) }

      module _ {n : ℕ} (e : r ≡ Ok n) where
        -- the answer and the space, by whether it would ask and the text that stands at the space's start
        question-by : {told : Bool} {s' : List ℕ} {a : Option ℕ} → told ≡ would_ask call t (query_of d (take n z'))
            → a ≡ question_by told (text_of d p (take n z')) → s' ≡ begun (cond told (text_of d p (take n z')) []) s
            → Questions call m s d p cwd s' (Ok a)
        unfolding question_call and_then text_space first_cause unless question_in question_text
        question-by asked f g =
            let S = gives-stands G e in
            let text = text_same S in
            record {
              answer = rw (h, le-ltb _ _ room, S.query, ← text, ← asked, f);
              space = rw (h, le-ltb _ _ room, S.query, ← text, ← asked) g;
            }

        pub question-asked : {s' : List ℕ} {k : ℕ} → true ≡ would_ask call t (query_of d (take n z'))
            → Appends (text_of d p (take n z')) s 0 s' k → Questions call m s d p cwd s' (Ok (Some k))
        unfolding question_by
        question-asked asked W = question-by asked (ap (λ (k : ℕ). Some k) (from_start W).1) (from_start W).0

        pub question-none : false ≡ would_ask call t (query_of d (take n z')) → Questions call m s d p cwd s (Ok None)
        unfolding question_by begun
        question-none asked = question-by asked refl refl
