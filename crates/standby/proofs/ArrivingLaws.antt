-- Laws of an arrival: its checking order, the change that the words are, what is met, and what a change comes to by its run and number.
use Rattle.std.specs.Prelude.{Option, None, Some, Ok, Err}
use Prim.Native.Nat.{ℕ, ◌+◌, ◌≤◌, ◌<◌}
use mathlib.Core.Path.{◌≡◌, refl, sym, ap, ◌∙◌}
use mathlib.Core.List.{List}
use mathlib.Core.Bool.{Bool, true, false, ◌&&◌}
use native.Mathlib.Omega.{arith}
use Rattle.std.proofs.lemmas.Grind.{common_steps}
use lib.ListN.{length, take, drop, length-append}
use lib.Seq.{take_at}
use lib.Dec.{leb, ltb, eqb}
use borrow.Author.Tests.{lt-ltb, le-ltb, ltb-true, ltb-false, le-leb, lt-leb, leb-true, leb-false, eq-eqb, ne_eqb, eqb-true, eqb-false}
use Rattle.refusals.specs.declared.Refusal.{Refusal}
use Rattle.refusals.specs.declared.Refusal.TheVariants.{NoTable, MalformedRecord}
use Rattle.refusals.specs.Refusals.{first_cause, Result, and_then, unless, cause_of}
use Rattle.refusals.proofs.CauseLaws.{Some-injective, unless-ok}
use Rattle.paths.specs.Resolving.{max_path}
use Rattle.paths.specs.Copying.{begun}
use Rattle.paths.specs.Giving.{is_path}
use Rattle.paths.proofs.ComponentLaws.{and_left}
use Rattle.table.specs.Tables.{Table, max_path_bytes, fresh, path_bytes, is_entry}
use Rattle.table.specs.Acts.{Act, insert, set_switches, revoke, revoke_all, is_act, would_add, has_room, overflows, act_overflows}
use Rattle.table.specs.Memory.{table_of, holds, put, do_act, do_acts}
use Rattle.table.specs.Carrying.{room_cause, acts_of, outcome_of, act_of, action_of, fits, CarriesOut}
use Rattle.table.specs.Calls.{with_room, MakesFresh}
use Rattle.table.proofs.ActLaws.{carried-done, carried-refused}
use Rattle.table.proofs.CallLaws.{fresh-long, made-fresh}
use Rattle.table.proofs.Puts.{long_of, table_of-put, holds-put}
use Rattle.table.proofs.TableLaws.{fresh-table}
use Rattle.records.specs.declared.Record.{Record}
use Rattle.records.specs.Records.{Change, Read, act_path, change_words, read_first, read_change}
use Rattle.records.specs.Answers.{record_answer, record_into, ReadsRecord}
use Rattle.records.proofs.WrittenLaws.{written_back, no_record, whole-record, words_left}
use Rattle.standby.specs.declared.Numbers.{Numbers}
use Rattle.standby.specs.declared.Arrival.{Arrival}
use Rattle.standby.specs.declared.Arrival.TheVariants.{Applied, Repeat, Early}
use Rattle.standby.specs.declared.Arrived.{Arrived}
use Rattle.standby.specs.Arriving.{
  conflict,
  standby_in,
  well_formed,
  higher,
  met,
  Left,
  stays,
  applies,
  applied,
  in_run,
  moves,
  moved,
  taken,
  arrival,
  left_by,
  Comes,
  numbers_in,
  arrival_in,
}
use Rattle.standby.specs.Steps.{change_of, Moves, Takes}

-- ---- numbers that a standby has

pub record Agrees (s : Numbers) : Type 0 where
  pub below : s.run ≤ s.highest
  pub ordered : s.run ≡ s.highest → s.n ≤ s.h

pub no-conflict : (s : Numbers) → Agrees s → conflict s ≡ false
unfolding conflict
no-conflict s A = grind (arith, common_steps, A.below, A.ordered)

pub agrees : (s : Numbers) → conflict s ≡ false → Agrees s
unfolding conflict
agrees s e = record { below = grind (arith, common_steps, e); ordered = λ same. grind (arith, common_steps, e) }

-- ---- the checking order

module _ (m : List ℕ) (s : Numbers) where
  pub no-standby : holds m ≡ false → standby_in m s ≡ Err NoTable
  unfolding standby_in first_cause unless
  no-standby h = rw h

  pub in-conflict : holds m ≡ true → conflict s ≡ true → standby_in m s ≡ Err NoTable
  unfolding standby_in first_cause unless
  in-conflict h e = rw (h, e)

  pub a-standby : holds m ≡ true → conflict s ≡ false → standby_in m s ≡ Ok (table_of m)
  unfolding standby_in first_cause unless
  a-standby h e = rw (h, e)

  standby-table : {t : Table} → standby_in m s ≡ Ok t → table_of m ≡ t
  unfolding standby_in
  standby-table e = (unless-ok _ (table_of m) e).1

module _ (m words : List ℕ) (s : Numbers) where
  pub arrival-no-table : holds m ≡ false → arrival m words s ≡ Err NoTable
  unfolding arrival and_then
  arrival-no-table h = rw (no-standby m s h)

  pub arrival-conflict : holds m ≡ true → conflict s ≡ true → arrival m words s ≡ Err NoTable
  unfolding arrival and_then
  arrival-conflict h l = rw (in-conflict m s h l)

  module _ (h : holds m ≡ true) (l : conflict s ≡ false) where
    pub arrival-malformed : read_change words ≡ None → arrival m words s ≡ Err MalformedRecord
    unfolding arrival and_then well_formed
    arrival-malformed e = rw (a-standby m s h l, e)

    pub arrival-taken : {c : Change} → read_change words ≡ Some c → arrival m words s ≡ taken (table_of m) m (met s c.run c.number) c
    unfolding arrival and_then well_formed
    arrival-taken e = rw (a-standby m s h l, e)

  -- what holds of every refusal and of the change that the words are, if they are one, holds of the arrival
  pub arrival-by : (P : Result Left → Type 0) → ((cause : Refusal) → P (Err cause))
      → ((c : Change) → read_change words ≡ Some c → P (taken (table_of m) m (met s c.run c.number) c))
      → P (arrival m words s)
  unfolding arrival and_then well_formed
  arrival-by P stopped goes_on = by-table (standby_in m s) refl
    where
      by-words : (o : Option Change) → read_change words ≡ o → P (and_then (well_formed o) (λ c. taken (table_of m) m (met s c.run c.number) c))
      by-words None e = stopped MalformedRecord
      by-words (Some c) e = goes_on c e

      by-table : (r : Result Table) → standby_in m s ≡ r
          → P (and_then r (λ t. and_then (well_formed (read_change words)) (λ c. taken t m (met s c.run c.number) c)))
      by-table (Err cause) e = stopped cause
      by-table (Ok t) e = rw (sym (standby-table m s e)) (by-words (read_change words) refl)

-- ---- the change that the words are, by what reading answered

-- an act's path, or no byte, stands at the start of the lent space
act-again : (act : Act) (space : List ℕ) → act_of (action_of (Some act)) (take (length (act_path act)) (begun (act_path act) space)) ≡ Some act
unfolding act_of action_of act_path begun
act-again (insert e) space = rw (take_at e.path _ _ refl)
act-again (set_switches v) space = refl
act-again (revoke q) space = rw (take_at q _ _ refl)
act-again revoke_all space = refl

-- the words are the change that was told, and its act is the told action with the path that is the first `size` bytes of the space
pub record IsChange (words : List ℕ) (told : Record) (space : List ℕ) : Type 0 where
  pub act : Act
  pub read : read_change words ≡ Some (change_of told.run told.number act)
  pub acting : act_of told.action (take told.size space) ≡ Some act
  pub fitting : fits (act_of told.action (take told.size space)) ≡ true
  pub room : told.size ≤ length space

is-change : (words : List ℕ) (c : Change) (space : List ℕ) (end : ℕ) → read_change words ≡ Some c
    → IsChange words (record { run = c.run; number = c.number; action = action_of (Some c.act); size = length (act_path c.act); end = end }) (begun (act_path c.act) space)
unfolding begun fits
is-change words c space end e = record {
  act = c.act;
  read = e;
  acting = act-again c.act space;
  fitting = rw (act-again c.act space) (written_back words c e).1.fits;
  room = omega (arith, length-append (act_path c.act) (drop (length (act_path c.act)) space));
}

module _ (words : List ℕ) {space after : List ℕ} {r : Option Record} (R : ReadsRecord 0 (read_first words) space r after) where
  pub reads_none : r ≡ None → read_change words ≡ None
  unfolding record_answer
  reads_none e = go (read_first words) refl (sym R.answer ∙ e)
    where
      go : (o : Option (Read Change)) → read_first words ≡ o → record_answer 0 o ≡ None → read_change words ≡ None
      go None f g = no_record words f
      go (Some d) f g = cc

  module _ {told : Record} (e : r ≡ Some told) where
    -- it ends where the words end
    pub reads-change : told.end ≡ length words → IsChange words told after
    unfolding record_answer record_into
    reads-change l = go (read_first words) refl (sym e ∙ R.answer) R.bytes
      where
        go : (o : Option (Read Change)) → read_first words ≡ o → Some told ≡ record_answer 0 o → after ≡ record_into o space → IsChange words told after
        go None f g b = cc
        go (Some d) f g b =
            let same = Some-injective _ _ g in
            let i : told.end ≡ 0 + length (change_words d.value) = ap (λ (x : Record). x.end) same in
            rw (same, b) (is-change words d.value space _ (whole-record words d f (omega arith)))

    -- words are left over
    pub reads_more : (told.end ≡ length words → ⊥) → read_change words ≡ None
    unfolding record_answer
    reads_more l = go (read_first words) refl (sym e ∙ R.answer)
      where
        go : (o : Option (Read Change)) → read_first words ≡ o → Some told ≡ record_answer 0 o → read_change words ≡ None
        go None f g = no_record words f
        go (Some d) f g =
            let i : told.end ≡ 0 + length (change_words d.value) = ap (λ (x : Record). x.end) (Some-injective _ _ g) in
            words_left words d f (λ k. l (omega arith))

-- ---- what is met

pub higher-least : (h number : ℕ) → (h ≤ higher h number) × (number ≤ higher h number)
unfolding higher
higher-least h number = (grind (arith, common_steps), grind (arith, common_steps))

module _ (s : Numbers) (q k : ℕ) where
  pub met-anew : s.highest < q → met s q k ≡ record { n = s.n; h = k; run = s.run; highest = q }
  unfolding met
  met-anew l = grind (arith, common_steps)

  pub met-same : s.highest ≡ q → met s q k ≡ record { n = s.n; h = higher s.h k; run = s.run; highest = s.highest }
  unfolding met
  met-same e = grind (arith, common_steps)

  pub met-lower : q ≤ s.highest → (s.highest ≡ q → ⊥) → met s q k ≡ s
  unfolding met
  met-lower l ne = grind (arith, common_steps)

-- number k of run q is met: n and the run stay, and neither the highest run nor, within it, h falls
pub record Meets (s : Numbers) (q k : ℕ) (s' : Numbers) : Type 0 where
  pub same-n : s'.n ≡ s.n
  pub same-run : s'.run ≡ s.run
  pub up : s.highest ≤ s'.highest
  pub over : q ≤ s'.highest
  pub keeps : s'.highest ≡ s.highest → s.h ≤ s'.h
  pub reaches : q ≡ s'.highest → k ≤ s'.h

pub meets : (s : Numbers) (q k : ℕ) → Meets s q k (met s q k)
unfolding met higher
meets s q k = record {
  same-n = grind (arith, common_steps);
  same-run = grind (arith, common_steps);
  up = grind (arith, common_steps);
  over = grind (arith, common_steps);
  keeps = λ x. grind (arith, common_steps);
  reaches = λ x. grind (arith, common_steps);
}

-- ---- what a change comes to, by its run and number

-- a fresh table has room for every act that can be recorded
pub fresh-room : (act : Act) → is_act act ≡ true → act_overflows fresh act ≡ false
unfolding act_overflows overflows has_room path_bytes is_act is_entry is_path
fresh-room (insert e) fit =
    let short : length e.path ≤ max_path = leb-true _ _ (and_left (leb (length e.path) max_path) _ fit) in
    rw (le-leb (0 + length e.path) max_path_bytes (omega arith)) (by (would_add fresh e))
  where
    by : (b : Bool) → (b && false) ≡ false
    by true = refl
    by false = refl
fresh-room (set_switches v) fit = refl
fresh-room (revoke q) fit = refl
fresh-room revoke_all fit = refl

module _ (m : List ℕ) (s : Numbers) (c : Change) where
  pub moved-first : c.number ≡ 1 → moved m s c ≡ moves m s c
  unfolding moved
  moved-first e = rw (eq-eqb c.number 1 e)

  pub moved-early : (c.number ≡ 1 → ⊥) → moved m s c ≡ stays Early m s
  unfolding moved
  moved-early ne = rw (ne_eqb c.number 1 ne)

module _ (t : Table) (m : List ℕ) (s : Numbers) (c : Change) where
  pub taken-lower : c.run < s.run → taken t m s c ≡ Ok (stays Repeat m s)
  unfolding taken
  taken-lower l = rw (lt-ltb c.run s.run l)

  pub taken-higher : s.run < c.run → taken t m s c ≡ Ok (moved m s c)
  unfolding taken
  taken-higher l = rw (le-ltb c.run s.run (omega arith), lt-ltb s.run c.run l)

  module _ (same : c.run ≡ s.run) where
    taken-run : taken t m s c ≡ in_run t m s c
    unfolding taken
    taken-run = rw (le-ltb c.run s.run (omega arith), le-ltb s.run c.run (omega arith))

    pub taken-repeat : c.number ≤ s.n → taken t m s c ≡ Ok (stays Repeat m s)
    unfolding in_run
    taken-repeat l = taken-run ∙ rw (le-leb c.number s.n l)

    pub taken-early : s.n + 1 < c.number → taken t m s c ≡ Ok (stays Early m s)
    unfolding in_run
    taken-early l = taken-run ∙ rw (lt-leb c.number s.n (omega arith), ne_eqb c.number (s.n + 1) (λ e. omega arith))

    pub taken_next : c.number ≡ s.n + 1 → taken t m s c ≡ applied t m s c
    unfolding in_run
    taken_next e = taken-run ∙ rw (lt-leb c.number s.n (omega arith), eq-eqb c.number (s.n + 1) e)

  pub applied-room : room_cause t (Some c.act) ≡ None → applied t m s c ≡ Ok (applies m s c.act)
  unfolding applied with_room unless and_then
  applied-room e = rw e

  pub applied-full : {cause : Refusal} → room_cause t (Some c.act) ≡ Some cause → applied t m s c ≡ Err cause
  unfolding applied with_room unless and_then
  applied-full e = rw e

-- the ways that there are
pub data Taking (t : Table) (m : List ℕ) (s : Numbers) (c : Change) : Result Left → Type 0 where
  lower : c.run < s.run → Taking t m s c (Ok (stays Repeat m s))
  waits : s.run < c.run → (c.number ≡ 1 → ⊥) → Taking t m s c (Ok (stays Early m s))
  comes : s.run < c.run → c.number ≡ 1 → Taking t m s c (Ok (moves m s c))
  repeats : c.run ≡ s.run → c.number ≤ s.n → Taking t m s c (Ok (stays Repeat m s))
  early : c.run ≡ s.run → s.n + 1 < c.number → Taking t m s c (Ok (stays Early m s))
  next : c.run ≡ s.run → c.number ≡ s.n + 1 → Taking t m s c (applied t m s c)

pub taking : (t : Table) (m : List ℕ) (s : Numbers) (c : Change) → Taking t m s c (taken t m s c)
taking t m s c = by-run (ltb c.run s.run) refl (ltb s.run c.run) refl
  where
    higher-run : s.run < c.run → (b : Bool) → eqb c.number 1 ≡ b → Taking t m s c (taken t m s c)
    higher-run l true e = let one = eqb-true c.number 1 e in rw (taken-higher t m s c l, moved-first m s c one) (comes l one)
    higher-run l false e = let other = eqb-false c.number 1 e in rw (taken-higher t m s c l, moved-early m s c other) (waits l other)

    same-run : c.run ≡ s.run → (b : Bool) → leb c.number s.n ≡ b → (d : Bool) → eqb c.number (s.n + 1) ≡ d → Taking t m s c (taken t m s c)
    same-run q true e d f = let l = leb-true c.number s.n e in rw (taken-repeat t m s c q l) (repeats q l)
    same-run q false e true f = let n = eqb-true c.number (s.n + 1) f in rw (taken_next t m s c q n) (next q n)
    same-run q false e false f =
        let l : s.n + 1 < c.number = omega (arith, leb-false c.number s.n e, eqb-false c.number (s.n + 1) f) in
        rw (taken-early t m s c q l) (early q l)

    by-run : (b : Bool) → ltb c.run s.run ≡ b → (d : Bool) → ltb s.run c.run ≡ d → Taking t m s c (taken t m s c)
    by-run true e d f = let l = ltb-true c.run s.run e in rw (taken-lower t m s c l) (lower l)
    by-run false e true f = higher-run (ltb-true s.run c.run f) _ refl
    by-run false e false f =
        same-run (omega (arith, ltb-false c.run s.run e, ltb-false s.run c.run f)) (leb c.number s.n) refl (eqb c.number (s.n + 1)) refl

-- ---- by the promise

module _ {m : List ℕ} {s : Numbers} where
  pub comes-refused : {call : Result Left} {cause : Refusal} → call ≡ Err cause → Comes call m s m s (Err cause)
  unfolding left_by
  comes-refused e = rw e (record { answer = refl; memory = refl; numbers = refl })

  pub comes-left : {call : Result Left} {left : Left} {m' : List ℕ} {s' : Numbers} {r : Result Arrival} → call ≡ Ok left
      → r ≡ left.answer → m' ≡ left.memory → s' ≡ left.numbers → Comes call m s m' s' r
  unfolding left_by
  comes-left e f g h = rw e (record { answer = f; memory = g; numbers = h })

  pub comes-taken : {words : List ℕ} {told : Record} {space m' : List ℕ} (r : Result Arrived) → IsChange words told space
      → Takes told.run told.number (act_of told.action (take told.size space)) m s m' r → holds m ≡ true → conflict s ≡ false
      → Comes (arrival m words s) m s m' (numbers_in s r) (arrival_in r)
  comes-taken r C T h l = rw (arrival-taken _ _ _ h l C.read) (T C.act C.acting)

-- a change of a higher run: first the table is cleared, and then every act that can be recorded has room
module _ {m : List ℕ} (h : holds m ≡ true) {clear : List ℕ} {o : Result Unit} (F : MakesFresh m clear o) where
  cleared : clear ≡ put fresh m
  cleared = made-fresh (long_of m h) F

  pub cleared-ok : o ≡ Ok tt
  unfolding outcome_of cause_of
  cleared-ok = F.outcome ∙ rw (fresh-long m (long_of m h))

  pub cleared-holds : holds clear ≡ true
  cleared-holds = ap holds cleared ∙ holds-put fresh m fresh-table (long_of m h)

  cleared-table : table_of clear ≡ fresh
  cleared-table = ap table_of cleared ∙ table_of-put fresh m

  pub cleared-room : (act : Option Act) → fits act ≡ true → room_cause (table_of clear) act ≡ None
  unfolding fits room_cause first_cause
  cleared-room None f = refl
  cleared-room (Some a) f = rw (cleared-table, fresh-room a f)

module _ (m : List ℕ) (s : Numbers) (run number : ℕ) (act : Option Act) where
  pub moves-early : (number ≡ 1 → ⊥) → Moves run number act m s m (record { arrival = Early; numbers = s })
  moves-early ne a e = comes-left (ap Ok (moved-early m s (change_of run number a) ne)) refl refl refl

  pub moves-first : {clear m' : List ℕ} {o r : Result Unit} → number ≡ 1 → holds m ≡ true → fits act ≡ true → MakesFresh m clear o
      → CarriesOut act clear m' r
      → Moves run number act m s m' (record { arrival = Applied; numbers = record { n = 1; h = s.h; run = run; highest = s.highest } })
  unfolding acts_of do_acts
  moves-first {clear} {m'} first h fit F C a e =
      let done : m' ≡ do_act (put fresh m) a = C.memory ∙ rw (cleared-room h F act fit, e, cleared h F) in
      comes-left (ap Ok (moved-first m s (change_of run number a) first)) refl done refl

-- a change of any run; `after` are the numbers once it is met
module _ (m : List ℕ) (s : Numbers) (run number : ℕ) (act : Option Act) {after : Numbers} (M : after ≡ met s run number) where
  pub takes-lower : run < after.run → Takes run number act m s m (Ok (record { arrival = Repeat; numbers = after }))
  takes-lower l a e = comes-left (taken-lower _ m _ (change_of run number a) (rw M at l)) refl refl M

  pub takes-higher : {m' : List ℕ} (r : Arrived) → after.run < run → Moves run number act m after m' r → Takes run number act m s m' (Ok r)
  unfolding left_by
  takes-higher r l K a e =
      let call = taken-higher (table_of m) m (met s run number) (change_of run number a) (rw M at l) in
      let C = rw M at (K a e) in
      comes-left call C.answer C.memory C.numbers

  module _ (same : run ≡ after.run) where
    pub takes-repeat : number ≤ after.n → Takes run number act m s m (Ok (record { arrival = Repeat; numbers = after }))
    takes-repeat l a e = comes-left (taken-repeat _ m _ (change_of run number a) (rw M at same) (rw M at l)) refl refl M

    pub takes-early : after.n + 1 < number → Takes run number act m s m (Ok (record { arrival = Early; numbers = after }))
    takes-early l a e = comes-left (taken-early _ m _ (change_of run number a) (rw M at same) (rw M at l)) refl refl M

    module _ (next : number ≡ after.n + 1) where
      next-taken : (a : Act) → taken (table_of m) m (met s run number) (change_of run number a) ≡ applied (table_of m) m (met s run number) (change_of run number a)
      next-taken a = taken_next _ m _ (change_of run number a) (rw M at same) (rw M at next)

      pub takes-full : {m' : List ℕ} {cause : Refusal} → CarriesOut act m m' (Err cause) → Takes run number act m s m' (Err cause)
      unfolding acts_of do_acts
      takes-full {m'} C a e =
          let full = carried-refused C refl in
          let kept : m' ≡ m = C.memory ∙ rw full in
          rw kept (comes-refused (next-taken a ∙ applied-full _ m _ (change_of run number a) (rw e at full)))

      pub takes-applied : {m' : List ℕ} {u : Unit} {n : ℕ} → n ≡ after.n + 1 → CarriesOut act m m' (Ok u)
          → Takes run number act m s m' (Ok (record { arrival = Applied; numbers = record { n = n; h = after.h; run = after.run; highest = after.highest } }))
      unfolding acts_of do_acts
      takes-applied {m'} up C a e =
          let room = carried-done C refl in
          let made : m' ≡ do_act m a = C.memory ∙ rw (room, e) in
          comes-left (next-taken a ∙ applied-room _ m _ (change_of run number a) (rw e at room)) refl made (rw (up, M))
