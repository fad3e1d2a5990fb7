-- Laws of check, request and revoke: what carrying out a decision comes to, each way through the checking order, and what is handed on.
use Rattle.std.specs.Prelude.{Option, None, Some, Ok, Err}
use Prim.Native.Nat.{ℕ, ◌+◌, ◌≤◌, ◌<◌}
use mathlib.Core.Path.{◌≡◌, refl, sym, ap, ◌∙◌}
use mathlib.Core.List.{List, []}
use mathlib.Core.Bool.{Bool, true, false, cond}
use native.Mathlib.Omega.{arith}
use lib.ListN.{length, take}
use lib.Seq.{length-take-le}
use borrow.Author.Tests.{lt-ltb, le-ltb}
use Rattle.refusals.specs.declared.Refusal.{Refusal}
use Rattle.refusals.specs.declared.Refusal.TheVariants.{NoTable, NoSpace}
use Rattle.refusals.specs.Refusals.{first_cause, Result, and_then, unless}
use Rattle.refusals.proofs.CauseLaws.{unless-ok, unless-refused}
use Rattle.paths.specs.declared.Descriptor.{Descriptor}
use Rattle.paths.specs.declared.Descriptor.TheVariants.{NoPath, Path}
use Rattle.paths.specs.Resolving.{resolve}
use Rattle.paths.specs.Copying.{begun, Appends}
use Rattle.paths.specs.Giving.{Query, is_query, query_of, given, given_size, given_into, Gives}
use Rattle.paths.proofs.GivingLaws.{Stands, gives-refused, gives-stands, given-stands}
use Rattle.table.specs.Tables.{Table}
use Rattle.table.specs.Acts.{Act, apply_act, apply_acts}
use Rattle.table.specs.Memory.{table_of, holds, do_acts}
use Rattle.table.specs.Carrying.{acts_of, act_of, fits}
use Rattle.table.specs.Calls.{table_in}
use Rattle.table.proofs.Overwrites.{from_start}
use Rattle.table.proofs.CallLaws.{no_table, a-table}
use Rattle.records.specs.Records.{all_words}
use Rattle.link.specs.declared.Link.{Link}
use Rattle.link.specs.Linking.{admit, room_in, Numbering, numbering, run_in}
use Rattle.link.specs.Sending.{Lent, Sends}
use Rattle.link.specs.Steps.{Records, Admits, cause_on, Performs}
use Rattle.link.proofs.LinkLaws.{not_admitted, room-long, run-known, acted-carried}
use Rattle.link.proofs.SendingLaws.{no-changes, records-none, sends-nothing, sends-recorded}
use Rattle.walk.specs.declared.PermissionState.{PermissionState}
use Rattle.walk.specs.declared.AllowPartial.TheVariants.{TreatAsPartialGranted}
use Rattle.walk.specs.Walk.{query_desc}
use Rattle.deciding.specs.declared.PromptResponse.{PromptResponse}
use Rattle.deciding.specs.declared.Call.{Call}
use Rattle.deciding.specs.declared.Decided.{Decided}
use Rattle.calls.specs.declared.Settled.{Settled}
use Rattle.calls.specs.declared.Asked.{Asked}
use Rattle.calls.specs.declared.Revoked.{Revoked}
use Rattle.deciding.specs.Decisions.{response_of, known_response, Decision, decide, revoke_act, revoke_desc}
use Rattle.deciding.specs.Questions.{text_bytes, text_space}
use Rattle.deciding.specs.Steps.{Decides}
use Rattle.deciding.specs.Texts.{text_of}
use Rattle.calls.specs.Calls.{
  carried_out,
  carried_on,
  answer_in,
  asked_in,
  decided_acts,
  text_in,
  settled,
  settled_on,
  settled_as,
  Settles,
  About,
  ask_call,
  text_due,
  Answers,
  text_size,
  Asks,
  revoke_call,
  Revokes,
}
use Rattle.calls.specs.Steps.{SettlesQuery, RevokesQuery, Finishes}
use Rattle.deciding.proofs.TextLaws.{length-text}
use Rattle.deciding.proofs.QuestionLaws.{text_same}
use Rattle.deciding.proofs.FittingLaws.{revoke-fits}

-- ---- a decision that is carried out

pub acts-by : (cause : Option Refusal) (decision : Decision) → acts_of cause decision.act ≡ decided_acts (unless cause decision)
unfolding decided_acts unless acts_of
acts-by None decision = refl
acts-by (Some cause) decision = refl

module _ (decision : Decision) {link : Link} {l : Lent} {at : ℕ} {l' : Lent} {o : Result ℕ}
    (P : Performs link decision.act l at l' o) where
  same-acts : acts_of (cause_on link l decision.act) decision.act ≡ decided_acts (carried_on link l decision)
  unfolding carried_out
  same-acts = acts-by (cause_on link l decision.act) decision

  pub carried-memory : l'.memory ≡ do_acts l.memory (decided_acts (carried_on link l decision))
  carried-memory = P.memory ∙ ap (do_acts l.memory) same-acts

  pub carried-records : Records link (decided_acts (carried_on link l decision)) l.number l.words at l'.number l'.words P.end
  carried-records = rw same-acts at P.records

  pub carried-stops : {cause : Refusal} → o ≡ Err cause → carried_on link l decision ≡ Err cause
  unfolding carried_out unless
  carried-stops e = rw (unless-refused _ P.end (sym P.answer ∙ e))

  module _ {end : ℕ} (e : o ≡ Ok end) where
    pub carried-goes : carried_on link l decision ≡ Ok decision
    unfolding carried_out unless
    carried-goes = rw ((unless-ok _ P.end (sym P.answer ∙ e)).0)

    pub carried-end : P.end ≡ end
    carried-end = (unless-ok _ P.end (sym P.answer ∙ e)).1

-- the act of the code's decision is the decision's
carries-decided : {link : Link} {decision : Decision} {z : List ℕ} {r : Decided} {l : Lent} {at : ℕ} {l' : Lent} {o : Result ℕ}
    → Decides decision z r → Performs link (act_of r.action z) l at l' o → Performs link decision.act l at l' o
carries-decided D P = rw D.act at P

-- ---- check and request of what is resolved

module _ {call : Call} {link : Link} {l : Lent} {at : ℕ} {l' : Lent} {q : Query} {response : PromptResponse} {z : List ℕ} {r : Decided} {o : Result ℕ}
    (D : Decides (decide call (table_of l.memory) q response) z r) (P : Performs link (act_of r.action z) l at l' o) {n : ℕ} where
  pub query-refused : {cause : Refusal} → o ≡ Err cause → SettlesQuery call link l at q response n l' (Err cause)
  unfolding settled_as
  query-refused e =
      let decision = decide call (table_of l.memory) q response in
      let C = carries-decided D P in
      record {
        words = C.end;
        answer = rw (carried-stops decision C e);
        memory = carried-memory decision C;
        records = carried-records decision C;
        few = C.few;
      }

  pub query-decided : {end : ℕ} → o ≡ Ok end
      → SettlesQuery call link l at q response n l' (Ok (record { state = r.state; asked = r.asked; writes = r.writes; size = n; words = end }))
  unfolding settled_as
  query-decided e =
      let decision = decide call (table_of l.memory) q response in
      let C = carries-decided D P in
      record {
        words = C.end;
        answer = rw (carried-goes decision C e, carried-end decision C e, ← D.state, ← D.asked, ← D.writes);
        memory = carried-memory decision C;
        records = carried-records decision C;
        few = C.few;
      }

-- ---- and of what is given

module _ {call : Call} {link : Link} {d : Descriptor} {p cwd : List ℕ} {response : PromptResponse} {l : Lent} {at : ℕ} {s s' : List ℕ} {r : Result ℕ}
    (G : Gives d p cwd s r s') where
  pub settles-refused : {cause : Refusal} → r ≡ Err cause → Settles call link l at d p cwd response s l s' (Err cause)
  unfolding settled and_then settled_as decided_acts do_acts
  settles-refused e = record {
    words = at;
    answer = rw (gives-refused G e);
    memory = rw (gives-refused G e);
    records = rw (gives-refused G e) (records-none link l.number l.words at);
    few = omega arith;
    bytes = G.bytes;
  }

  pub settles-query : {n : ℕ} {l' : Lent} {o : Result Settled} → r ≡ Ok n
      → SettlesQuery call link l at (query_of d (take n s')) response (length (take n s')) l' o → Settles call link l at d p cwd response s l' s' o
  unfolding settled and_then
  settles-query {n} e Q =
      let S = gives-stands G e in
      let size = length-take-le n s' S.room ∙ S.size in
      record {
        words = Q.words;
        answer = rw (S.query, ← size) Q.answer;
        memory = rw S.query Q.memory;
        records = rw S.query Q.records;
        few = Q.few;
        bytes = G.bytes;
      }

-- ---- what a settled call tells

refused-by : (c : Result Decision) (n k : ℕ) {cause : Refusal} → settled_as c n k ≡ Err cause → c ≡ Err cause
unfolding settled_as
refused-by (Err cause) n k e = cc
refused-by (Ok decision) n k e = cc

-- the decision that the code's answer speaks of
pub record Told (c : Result Decision) (n k : ℕ) (r : Settled) : Type 0 where
  pub decision : Decision
  pub is : c ≡ Ok decision
  pub state-is : r.state ≡ decision.state
  pub asked_is : r.asked ≡ decision.asked
  pub writes-is : r.writes ≡ decision.writes
  pub size-is : r.size ≡ n
  pub words-is : r.words ≡ k

told-by : (c : Result Decision) (n k : ℕ) {r : Settled} → settled_as c n k ≡ Ok r → Told c n k r
unfolding settled_as
told-by (Err cause) n k e = let z : ◌≡◌ {A = ℕ} 0 1 = cc in absurd (omega arith)
told-by (Ok decision) n k {r} e =
    let same : record { state = decision.state; asked = decision.asked; writes = decision.writes; size = n; words = k } ≡ r = cc in
    rw (← same) (record { decision = decision; is = refl; state-is = refl; asked_is = refl; writes-is = refl; size-is = refl; words-is = refl })

record IsOk (g : Result Query) : Type 0 where
  query : Query
  is : g ≡ Ok query

given-ok : (g : Result Query) (f : Query → Result Decision) {decision : Decision} → and_then g f ≡ Ok decision → IsOk g
unfolding and_then
given-ok (Err cause) f e = let z : ◌≡◌ {A = ℕ} 0 1 = cc in absurd (omega arith)
given-ok (Ok q) f e = record { query = q; is = refl }

-- what is given is resolved where a call is decided
pub decided-stands : (call : Call) (numbers : Numbering) (t : Table) (d : Descriptor) (p cwd : List ℕ) (response : PromptResponse) (s : List ℕ)
    {decision : Decision} → settled call numbers t d p cwd response ≡ Ok decision → Stands d p cwd (given_size d p cwd) (given_into d p cwd s)
unfolding settled
decided-stands call numbers t d p cwd response s e = given-stands d p cwd s (given-ok (given d p cwd) _ e).is

module _ {call : Call} {link : Link} {l : Lent} {at : ℕ} {d : Descriptor} {p cwd : List ℕ} {response : PromptResponse} {s : List ℕ} {l' : Lent} {s' : List ℕ} {r : Result Settled}
    (S : Settles call link l at d p cwd response s l' s' r) where
  pub settled-refused : {cause : Refusal} → r ≡ Err cause → settled_on call link l d p cwd response ≡ Err cause
  settled-refused e = refused-by (settled_on call link l d p cwd response) _ _ (sym S.answer ∙ e)

  module _ {o : Settled} (e : r ≡ Ok o) where
    pub settled-told : Told (settled_on call link l d p cwd response) (given_size d p cwd) S.words o
    settled-told = told-by (settled_on call link l d p cwd response) _ _ (sym S.answer ∙ e)

    pub settled-stands : Stands d p cwd o.size s'
    settled-stands =
        rw (settled-told.size-is, S.bytes)
        (decided-stands call (numbering link l.number) (table_of l.memory) d p cwd response s settled-told.is)

  -- a call that is refused on the way records nothing
  pub stopped-records : {cause : Refusal} → r ≡ Err cause
      → Records link (decided_acts (settled_on call link l d p cwd response)) l.number l.words at l'.number l'.words at
  unfolding decided_acts all_words
  stopped-records e =
      let silent : S.words ≡ at + 0 = S.records.words.end ∙ rw (settled-refused e, no-changes link l.number) in
      let same : S.words ≡ at = omega (arith, silent) in
      rw same at S.records

-- ---- the checking order of check and request

module _ (call : Call) (link : Link) (l : Lent) (s : List ℕ) (a : About) (response : ℕ) where
  pub ask-no-table : holds l.memory ≡ false → ask_call call link l s a response ≡ Err NoTable
  unfolding ask_call and_then
  ask-no-table h = rw (no_table l.memory h)

  module _ (h : holds l.memory ≡ true) where
    pub ask-no-space : length s < text_bytes → ask_call call link l s a response ≡ Err NoSpace
    unfolding ask_call and_then text_space first_cause unless
    ask-no-space short = rw (a-table l.memory h, lt-ltb _ _ short)

    module _ (space : text_bytes ≤ length s) where
      pub ask-barred : {cause : Refusal} → Err cause ≡ admit 1 link l.words → ask_call call link l s a response ≡ Err cause
      unfolding ask_call and_then text_space first_cause unless
      ask-barred e = rw (a-table l.memory h, le-ltb _ _ space) (not_admitted _ _ _ _ _ e)

      module _ (A : Admits 1 link l.words) where
        pub ask-unknown : {cause : Refusal} → known_response (response_of response) ≡ Err cause → ask_call call link l s a response ≡ Err cause
        unfolding ask_call and_then text_space first_cause unless
        ask-unknown u = rw (a-table l.memory h, le-ltb _ _ space, room-long 1 link l.words A.roomy, run-known link l.number A.run, u)

        pub ask-known : (known : PromptResponse) → known_response (response_of response) ≡ Ok known
            → ask_call call link l s a response ≡ settled_on call link l a.descriptor a.given a.cwd known
        unfolding ask_call and_then text_space first_cause unless
        ask-known known u = rw (a-table l.memory h, le-ltb _ _ space, room-long 1 link l.words A.roomy, run-known link l.number A.run, u)

-- ---- what the call answers and leaves

pub finishes-written : {o : Settled} {d : Descriptor} {given resolved s s' : List ℕ} {n : ℕ} → o.writes ≡ true → Appends (text_of d given resolved) s 0 s' n
    → Finishes o d given resolved s s' (record { state = o.state; asked = o.asked; text = n; words = o.words })
finishes-written e W = record { state = refl; told = refl; sent = refl; size = rw e (from_start W).1; space = rw e (from_start W).0 }

pub finishes-silent : (o : Settled) (d : Descriptor) (given resolved s : List ℕ) → o.writes ≡ false
    → Finishes o d given resolved s s (record { state = o.state; asked = o.asked; text = 0; words = o.words })
unfolding begun
finishes-silent o d given resolved s e = record { state = refl; told = refl; sent = refl; size = rw e; space = rw e }

pub answers-refused : {c : Result Decision} {a : About} {s : List ℕ} {cause : Refusal} → c ≡ Err cause → Answers c a s s (Err cause)
unfolding answer_in asked_in text_due text_in begun
answers-refused e = record { answer = rw e; asked = rw e; size = rw e; space = rw e }

module _ {call : Call} {link : Link} {l : Lent} {a : About} {known : PromptResponse} {z : List ℕ} {l' : Lent} {z' : List ℕ} {r : Result Settled} {c : Result Decision}
    (e : c ≡ settled_on call link l a.descriptor a.given a.cwd known) (S : Settles call link l 0 a.descriptor a.given a.cwd known z l' z' r) where
  pub settled-sends : Sends link (decided_acts c) l l' S.words
  settled-sends = rw e (sends-recorded S.memory S.records)

  -- nothing is sent by a call that is refused on the way
  pub stopped-sends : {cause : Refusal} → r ≡ Err cause → Sends link (decided_acts c) l l' 0
  unfolding decided_acts all_words
  stopped-sends f =
      let stop : c ≡ Err _ = e ∙ settled-refused S f in
      let silent : S.words ≡ 0 = settled-sends.count ∙ rw (stop, no-changes link l.number) in
      rw silent at settled-sends

  pub answers-finished : {o : Settled} {s s' : List ℕ} {x : Asked} → (f : r ≡ Ok o)
      → Finishes o a.descriptor a.given (take o.size z') s s' x → Answers c a s s' (Ok x)
  unfolding answer_in asked_in text_due text_in
  answers-finished f F =
      let T = settled-told S f in
      let text = text_same (settled-stands S f) in
      record {
        answer = rw (e, T.is) (ap Ok (F.state ∙ T.state-is));
        asked = rw (e, T.is) (F.told ∙ T.asked_is);
        size = rw (e, T.is, ← T.writes-is, ← text) F.size;
        space = rw (e, T.is, ← T.writes-is, ← text) F.space;
      }

module _ {call : Call} {link : Link} {l : Lent} {s : List ℕ} {a : About} {response : ℕ} where
  pub asks-refused : {cause : Refusal} → ask_call call link l s a response ≡ Err cause → Asks call link l s a response l s (Err cause)
  unfolding decided_acts
  asks-refused e = record { answers = answers-refused e; sends = sends-nothing (rw e) }

  module _ {known : PromptResponse} (e : ask_call call link l s a response ≡ settled_on call link l a.descriptor a.given a.cwd known)
      {z : List ℕ} {l' : Lent} {z' : List ℕ} {r : Result Settled} (S : Settles call link l 0 a.descriptor a.given a.cwd known z l' z' r) where
    pub asks-stopped : {cause : Refusal} → r ≡ Err cause → Asks call link l s a response l' s (Err cause)
    asks-stopped f = record { answers = answers-refused (e ∙ settled-refused S f); sends = stopped-sends e S f }

    pub asks-finished : {o : Settled} {s' : List ℕ} {x : Asked} → r ≡ Ok o
        → Finishes o a.descriptor a.given (take o.size z') s s' x → Asks call link l s a response l' s' (Ok x)
    asks-finished f F = record { answers = answers-finished e S f F; sends = rw (F.sent ∙ (settled-told S f).words-is) (settled-sends e S) }

-- ---- how long its text is

cut_short : (b : Bool) (text : List ℕ) → length text ≤ text_bytes → length (cond b text []) ≤ text_bytes
cut_short true text h = h
cut_short false text h = omega arith

stands-short : (d : Descriptor) (p cwd : List ℕ) {n : ℕ} {s : List ℕ} → Stands d p cwd n s → length (text_of d p (resolve p cwd)) ≤ text_bytes
unfolding text_of
stands-short NoPath p cwd S = omega arith
stands-short Path p cwd {n} {s} S =
    length-text Path p (resolve p cwd) (S.brief refl) (omega (arith, ap length (S.bytes refl), length-take-le n s S.room, S.short))

module _ (a : About) where
  due-short : (call : Call) (numbers : Numbering) (t : Table) (known : PromptResponse) (c : Result Decision)
      → settled call numbers t a.descriptor a.given a.cwd known ≡ c → length (text_due c a) ≤ text_bytes
  unfolding text_due text_in
  due-short call numbers t known (Err cause) e = omega arith
  due-short call numbers t known (Ok decision) e =
      cut_short decision.writes _ (stands-short a.descriptor a.given a.cwd (decided-stands call numbers t a.descriptor a.given a.cwd known [] e))

  step-short : {A : Type 0} (x : Result A) (f : A → Result Decision) → ((y : A) → length (text_due (f y) a) ≤ text_bytes) → length (text_due (and_then x f) a) ≤ text_bytes
  unfolding and_then
  step-short (Err cause) f h = unfold text_due text_in in omega arith
  step-short (Ok y) f h = h y

pub text-short : {call : Call} {link : Link} {l : Lent} {s : List ℕ} {a : About} {response : ℕ} {l' : Lent} {s' : List ℕ} {r : Result Asked}
    → Asks call link l s a response l' s' r → text_size r ≤ text_bytes
unfolding ask_call
text-short {call} {link} {l} {s} {a} {response} A =
    rw A.answers.size
    (step-short a (table_in l.memory) _ (λ t.
    step-short a (text_space s) _ (λ space.
    step-short a (room_in 1 link l.words) _ (λ room.
    step-short a (run_in link l.number) _ (λ numbers.
    step-short a (known_response (response_of response)) _ (λ known. due-short a call numbers t known _ refl))))))

-- ---- revoke

module _ (q : Query) {link : Link} {l l' : Lent} {o : Result ℕ} {a : Option Act} (f : a ≡ Some (revoke_act q)) (P : Performs link a l 0 l' o) where
  performs-revoke : Performs link (revoke_desc (table_of l.memory) q).act l 0 l' o
  unfolding revoke_desc
  performs-revoke = rw f at P

  revoke-sends : Sends link (decided_acts (carried_on link l (revoke_desc (table_of l.memory) q))) l l' performs-revoke.end
  revoke-sends = sends-recorded (carried-memory (revoke_desc (table_of l.memory) q) performs-revoke) (carried-records (revoke_desc (table_of l.memory) q) performs-revoke)

  -- nothing is sent where it is refused
  pub revoke-refused : {cause : Refusal} → o ≡ Err cause → RevokesQuery link q l l' (Err cause)
  unfolding answer_in decided_acts all_words
  revoke-refused e =
      let stop = carried-stops (revoke_desc (table_of l.memory) q) performs-revoke e in
      let silent : performs-revoke.end ≡ 0 = revoke-sends.count ∙ rw (stop, no-changes link l.number) in
      record { answer = rw stop; sends = rw silent at revoke-sends }

  -- the query asks the table that the act leaves
  module _ (h : holds l.memory ≡ true) (i : is_query q ≡ true) where
    pub revoke-asks : holds l'.memory ≡ true
    unfolding revoke_desc fits
    revoke-asks = rw (P.memory, f) (acted-carried (numbering link l.number) l.memory (Some (revoke_act q)) h (revoke-fits q i)).holding

    pub revoke-state : {state : PermissionState} {end : ℕ} → o ≡ Ok end → state ≡ query_desc (table_of l'.memory) TreatAsPartialGranted q
        → RevokesQuery link q l l' (Ok (record { state = state; words = end }))
    unfolding answer_in revoke_desc fits acts_of apply_acts
    revoke-state e s =
        let decision = revoke_desc (table_of l.memory) q in
        let left = acted-carried (numbering link l.number) l.memory (Some (revoke_act q)) h (revoke-fits q i) in
        let free : cause_on link l (Some (revoke_act q)) ≡ None = (unless-ok _ performs-revoke.end (sym performs-revoke.answer ∙ e)).0 in
        let table : table_of l'.memory ≡ apply_act (table_of l.memory) (revoke_act q) = ap table_of performs-revoke.memory ∙ rw free (rw free at left.table) in
        record {
          answer = rw (carried-goes decision performs-revoke e) (ap Ok (s ∙ ap (λ (t : Table). query_desc t TreatAsPartialGranted q) table));
          sends = rw (carried-end decision performs-revoke e) at revoke-sends;
        }

-- the checking order of a revoke
module _ (link : Link) (l : Lent) (a : About) where
  pub revoke-no-table : holds l.memory ≡ false → revoke_call link l a ≡ Err NoTable
  unfolding revoke_call and_then
  revoke-no-table h = rw (no_table l.memory h)

  module _ (h : holds l.memory ≡ true) where
    pub revoke-barred : {cause : Refusal} → Err cause ≡ admit 1 link l.words → revoke_call link l a ≡ Err cause
    unfolding revoke_call and_then
    revoke-barred e = rw (a-table l.memory h) (not_admitted _ _ _ _ _ e)

    module _ (A : Admits 1 link l.words) where
      pub revoke-ungiven : {cause : Refusal} → given a.descriptor a.given a.cwd ≡ Err cause → revoke_call link l a ≡ Err cause
      unfolding revoke_call and_then
      revoke-ungiven g = rw (a-table l.memory h, room-long 1 link l.words A.roomy, run-known link l.number A.run, g)

      pub revoke-given : (q : Query) → given a.descriptor a.given a.cwd ≡ Ok q
          → revoke_call link l a ≡ carried_on link l (revoke_desc (table_of l.memory) q)
      unfolding revoke_call and_then
      revoke-given q g = rw (a-table l.memory h, room-long 1 link l.words A.roomy, run-known link l.number A.run, g)

module _ {link : Link} {l : Lent} {a : About} where
  pub revokes-refused : {cause : Refusal} → revoke_call link l a ≡ Err cause → Revokes link l a l (Err cause)
  unfolding answer_in decided_acts
  revokes-refused e = record { answer = rw e; sends = sends-nothing (rw e) }

  pub revokes-query : {q : Query} {l' : Lent} {r : Result Revoked}
      → revoke_call link l a ≡ carried_on link l (revoke_desc (table_of l.memory) q)
      → RevokesQuery link q l l' r → Revokes link l a l' r
  revokes-query e Q = record { answer = rw e Q.answer; sends = rw e Q.sends }
