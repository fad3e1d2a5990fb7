-- Laws of carrying an act out and recording it: the records of acts, one act, and what a call leaves that makes one unless it is refused.
use Rattle.std.specs.Prelude.{Option, None, Some, Ok, Err}
use Prim.Native.Nat.{ℕ, ◌+◌, ◌≤◌, ◌<◌}
use mathlib.Core.Path.{◌≡◌, refl, sym, ap, ◌∙◌}
use mathlib.Core.List.{List, [], ◌∷◌, ◌++◌, append-nil}
use mathlib.Core.Bool.{Bool, true, false, cond, false≢true}
use native.Mathlib.Omega.{arith}
use lib.ListN.{length, length-append}
use lib.Dec.{leb}
use borrow.Author.Tests.{le-leb, lt-leb}
use Rattle.refusals.specs.declared.Refusal.{Refusal}
use Rattle.refusals.specs.declared.Refusal.TheVariants.{TableFull, NumbersUsedUp}
use Rattle.refusals.specs.Refusals.{when, first_cause, Result, unless, cause_of}
use Rattle.paths.specs.Copying.{begun, Appends}
use Rattle.table.specs.declared.Action.{Action}
use Rattle.table.specs.declared.Action.TheVariants.{Nothing, Insert, SetSwitches, Revoke, RevokeAll}
use Rattle.table.specs.Tables.{Table}
use Rattle.table.specs.Acts.{Act, act_overflows}
use Rattle.table.specs.Memory.{table_of, do_acts}
use Rattle.table.specs.Carrying.{room_cause, acts_of, outcome_of, act_of, fits, CarriesOut}
use Rattle.table.proofs.Overwrites.{appends-none, appends-more, from_start}
use Rattle.table.proofs.ActLaws.{outcome-done, outcome-refused, carried-done, carried-refused}
use Rattle.records.specs.Numbers.{max_number, record_space}
use Rattle.records.specs.Records.{Change, change_words, numbered, all_words}
use Rattle.records.specs.Answers.{record_words}
use Rattle.records.proofs.RecordLaws.{few_words}
use Rattle.records.proofs.NumberedLaws.{numbered-length, numbered-words}
use Rattle.link.specs.declared.Link.{Link}
use Rattle.link.specs.declared.Link.TheVariants.{Plain, Linked}
use Rattle.link.specs.Linking.{unnumbered, after, numbering, used_up, past, carry_cause, carried, single_act}
use Rattle.link.specs.Sending.{changes_of, Lent, lent, alone, Sends, Does}
use Rattle.link.specs.Steps.{is_none, no_number, Records, SendsAt, Performs}

-- ---- acts in turn

pub no-changes : (link : Link) (n : ℕ) → changes_of link n [] ≡ []
unfolding changes_of numbered
no-changes Plain n = refl
no-changes (Linked run) n = refl

pub records-none : (link : Link) (n : ℕ) (w : List ℕ) (at : ℕ) → Records link [] n w at n w at
unfolding all_words
records-none link n w at = record { number = rw (no-changes link n) (omega arith); words = rw (no-changes link n) (appends-none w at) }

-- a plain call records nothing, whatever its acts
pub records-plain : (acts : List Act) (n : ℕ) (w : List ℕ) (at : ℕ) → Records Plain acts n w at n w at
unfolding changes_of all_words
records-plain acts n w at = record { number = omega arith; words = appends-none w at }

-- how acts are numbered after those that are recorded
past_by : (link : Link) (acts : List Act) (n : ℕ) {n' : ℕ} → n' ≡ n + length (changes_of link n acts) → numbering link n' ≡ past (numbering link n) acts
unfolding numbering past changes_of
past_by Plain acts n e = refl
past_by (Linked run) acts n e = ap after (e ∙ ap (λ (k : ℕ). n + k) (numbered-length run n acts))

pub past-records : {link : Link} {acts : List Act} {n : ℕ} {w : List ℕ} {at n' : ℕ} {w' : List ℕ} {r : ℕ} → Records link acts n w at n' w' r
    → numbering link n' ≡ past (numbering link n) acts
past-records {link} {acts} {n} R = past_by link acts n R.number

-- the records of further acts stand after those of the first
then_by : (link : Link) {a b : List Act} {n : ℕ} {w : List ℕ} {at n₁ : ℕ} {w₁ : List ℕ} {mid n₂ : ℕ} {w₂ : List ℕ} {r : ℕ} → ((run : ℕ) → link ≡ Linked run → mid ≤ length w)
    → Records link a n w at n₁ w₁ mid → Records link b n₁ w₁ mid n₂ w₂ r → Records link (a ++ b) n w at n₂ w₂ r
unfolding changes_of all_words
then_by Plain {a} {b} {n} {w} {at} {n₁} {w₁} {mid} h A B =
    let same : w₁ ≡ w = A.words.content ∙ sym (appends-none w at).content in
    let place : mid ≡ at = A.words.end ∙ sym (appends-none w at).end in
    record { number = omega (arith, A.number, B.number); words = rw (same, place) at B.words }
then_by (Linked run) {a} {b} {n} {w} {at} {n₁} h A B =
    let number = A.number ∙ ap (λ (k : ℕ). n + k) (numbered-length run n a) in
    record {
      number = omega (arith, number, B.number, numbered-length run n (a ++ b), length-append a b, numbered-length run n₁ b);
      words = rw (numbered-words run n a b) (appends-more (omega (arith, A.words.end, h run refl)) A.words (rw number at B.words));
    }

pub records-then : {link : Link} {a b : List Act} {n : ℕ} {w : List ℕ} {at n₁ : ℕ} {w₁ : List ℕ} {mid n₂ : ℕ} {w₂ : List ℕ} {r : ℕ}
    → ((run : ℕ) → link ≡ Linked run → mid ≤ length w) → Records link a n w at n₁ w₁ mid → Records link b n₁ w₁ mid n₂ w₂ r → Records link (a ++ b) n w at n₂ w₂ r
records-then {link} h A B = then_by link h A B

-- ---- one act of a run

-- whatever is not nothing is an act
pub is-act : (action : Action) (q : List ℕ) → (action ≡ Nothing → ⊥) → is_none (act_of action q) ≡ false
unfolding is_none act_of
is-act Nothing q ne = absurd (ne refl)
is-act (Insert kind) q ne = refl
is-act (SetSwitches v) q ne = refl
is-act Revoke q ne = refl
is-act RevokeAll q ne = refl

pub sends_none : (act : Option Act) (run n : ℕ) (w : List ℕ) (at : ℕ) → is_none act ≡ true → SendsAt act run n w at n w at
unfolding is_none acts_of
sends_none None run n w at e = record { records = records-none (Linked run) n w at; few = omega arith }
sends_none (Some act) run n w at e = absurd (false≢true e)

pub sends-record : (act : Option Act) (run n : ℕ) (w : List ℕ) (at : ℕ) {next : ℕ} {w' : List ℕ} {k : ℕ} → is_none act ≡ false → fits act ≡ true → next ≡ n + 1
    → Appends (record_words run next act) w at w' k → SendsAt act run n w at next w' k
unfolding is_none fits acts_of changes_of numbered all_words record_words
sends-record None run n w at e a f W = absurd (false≢true (sym e))
sends-record (Some act) run n w at e a f W =
    let change : Change = record { run = run; number = n + 1; act = act } in
    let Z = rw f at W in
    record { records = record { number = f; words = rw (append-nil (change_words change)) Z }; few = omega (arith, Z.end, few_words change a) }

-- ---- causes 8 and 9 by the number

pub plain-cause : (t : Table) (act : Option Act) → carry_cause unnumbered t act ≡ room_cause t act
unfolding carry_cause room_cause first_cause used_up
plain-cause t None = refl
plain-cause t (Some act) = refl

pub left-cause : (n : ℕ) (t : Table) (act : Option Act) → n < max_number → carry_cause (after n) t act ≡ room_cause t act
unfolding carry_cause room_cause first_cause used_up
left-cause n t None h = refl
left-cause n t (Some act) h = let free : leb max_number n ≡ false = lt-leb max_number n h in rw free

-- no number is left
used-outcome : (n : ℕ) (t : Table) (act : Option Act) → max_number ≤ n → outcome_of (carry_cause (after n) t act) ≡ no_number t act
unfolding carry_cause used_up no_number outcome_of
used-outcome n t None h = refl
used-outcome n t (Some act) h = rw (le-leb max_number n h) (by (act_overflows t act))
  where
    by : (over : Bool) → outcome_of (first_cause (when over TableFull ∷ when true NumbersUsedUp ∷ [])) ≡ cond over (Err TableFull) (Err NumbersUsedUp)
    by true = unfold first_cause in refl
    by false = unfold first_cause in refl

used-acts : (n : ℕ) (t : Table) (act : Option Act) → max_number ≤ n → acts_of (carry_cause (after n) t act) act ≡ []
unfolding carry_cause used_up acts_of
used-acts n t None h = refl
used-acts n t (Some act) h = rw (le-leb max_number n h) (by (act_overflows t act))
  where
    by : (over : Bool) → acts_of (first_cause (when over TableFull ∷ when true NumbersUsedUp ∷ [])) (Some act) ≡ []
    by true = unfold first_cause in refl
    by false = unfold first_cause in refl

-- ---- an act that is carried out, or refused

module _ {link : Link} {act : Option Act} {m : List ℕ} {n : ℕ} {w : List ℕ} {at : ℕ} where
  performs-stopped : {cause : Refusal} → carry_cause (numbering link n) (table_of m) act ≡ Some cause
      → Performs link act (lent m n w) at (lent m n w) (Err cause)
  unfolding acts_of do_acts unless
  performs-stopped e = record { end = at; answer = rw e; memory = rw e; records = rw e (records-none link n w at); few = omega arith }

  -- the number is no cause
  module _ {m' : List ℕ} (free : carry_cause (numbering link n) (table_of m) act ≡ room_cause (table_of m) act) where
    pub performs-refused : {cause : Refusal} → CarriesOut act m m' (Err cause) → Performs link act (lent m n w) at (lent m' n w) (Err cause)
    unfolding acts_of do_acts
    performs-refused C =
        let full = carried-refused C refl in
        let kept : m' ≡ m = C.memory ∙ rw full in
        rw kept (performs-stopped (free ∙ full))

    pub performs-done : {u : Unit} {n' : ℕ} {w' : List ℕ} {k : ℕ} → CarriesOut act m m' (Ok u)
        → Records link (acts_of None act) n w at n' w' k → k ≤ at + record_space → Performs link act (lent m n w) at (lent m' n' w') (Ok k)
    unfolding unless
    performs-done {k = k} C R few =
        let room = carried-done C refl in
        record { end = k; answer = rw (free, room); memory = rw free C.memory; records = rw (free, room) R; few = few }

  -- no number is left
  module _ {run : ℕ} (linked : link ≡ Linked run) (used : max_number ≤ n) where
    pub performs-unnumbered : {cause : Refusal} → Err cause ≡ no_number (table_of m) act → Performs link act (lent m n w) at (lent m n w) (Err cause)
    unfolding numbering
    performs-unnumbered e = performs-stopped (rw linked (outcome-refused _ (used-outcome n (table_of m) act used ∙ sym e)))

    pub performs-nothing : {u : Unit} → Ok u ≡ no_number (table_of m) act → Performs link act (lent m n w) at (lent m n w) (Ok at)
    unfolding numbering do_acts unless
    performs-nothing e = rw linked (record {
      end = at;
      answer = rw (outcome-done _ (used-outcome n (table_of m) act used ∙ sym e));
      memory = rw (used-acts n (table_of m) act used);
      records = rw (used-acts n (table_of m) act used) (records-none (Linked run) n w at);
      few = omega arith;
    })

-- ---- what a call leaves

pub sends-nothing : {link : Link} {acts : List Act} {l : Lent} → acts ≡ [] → Sends link acts l l 0
unfolding do_acts all_words begun
sends-nothing {link} {l = l} e = rw e (record {
  memory = refl;
  number = rw (no-changes link l.number) (omega arith);
  words = rw (no-changes link l.number);
  count = rw (no-changes link l.number);
})

-- no act takes no word
no-words : {link : Link} {l l' : Lent} {k : ℕ} → Sends link [] l l' k → k ≡ 0
unfolding all_words
no-words {link} {l} S = S.count ∙ rw (no-changes link l.number)

pub sends-recorded : {link : Link} {acts : List Act} {l l' : Lent} {k : ℕ} → l'.memory ≡ do_acts l.memory acts
    → Records link acts l.number l.words 0 l'.number l'.words k → Sends link acts l l' k
sends-recorded e R = record { memory = e; number = R.number; words = (from_start R.words).0; count = (from_start R.words).1 }

-- a plain call leaves number and words, so that what it makes of memory is all of it
pub sends-alone : {acts : List Act} {l l' : Lent} {k : ℕ} → Sends Plain acts l l' k → Sends Plain acts (alone l.memory) (alone l'.memory) k
unfolding changes_of all_words begun
sends-alone S = record { memory = S.memory; number = refl; words = refl; count = S.count }

-- ---- a call that makes one act unless it is refused

-- a plain call that comes to the same with memory alone lent
pub does-alone : {call call' : Result Act} {l l' : Lent} {r : Result ℕ} → call ≡ call' → Does Plain call l l' r → Does Plain call' (alone l.memory) (alone l'.memory) r
does-alone e D = rw (← e) (record { outcome = D.outcome; sends = sends-alone D.sends })

module _ {link : Link} {call : Result Act} {l : Lent} where
  pub does-refuse : {cause : Refusal} → call ≡ Err cause → Does link call l l (Err cause)
  unfolding cause_of single_act
  does-refuse e = record { outcome = rw e; sends = sends-nothing (rw e) }

  pub does-perform : {act : Act} {l' : Lent} {r : Result ℕ} → call ≡ carried (numbering link l.number) (table_of l.memory) act
      → Performs link (Some act) l 0 l' r → Does link call l l' r
  unfolding carried
  does-perform {act} {l'} {r} e P =
      rw (e, P.answer) (by (carry_cause (numbering link l.number) (table_of l.memory) (Some act)) (sends-recorded P.memory P.records))
    where
      by : (cause : Option Refusal) → Sends link (acts_of cause (Some act)) l l' P.end → Does link (unless cause act) l l' (unless cause P.end)
      by None S = unfold unless cause_of single_act acts_of in record { outcome = refl; sends = S }
      by (Some cause) S = unfold unless cause_of single_act acts_of in record { outcome = refl; sends = rw (no-words S) at S }
