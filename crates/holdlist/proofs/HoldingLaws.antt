-- Laws of holding: a record that arrives, the record that bytes begin with, and the loop over records.
use Rattle.std.specs.Prelude.{Option, None, Some, Ok, Err}
use Prim.Native.Nat.{ℕ, zero, suc, ◌+◌, ◌*◌, ◌-◌, ◌/◌, ◌≤◌, ◌<◌}
use mathlib.Core.Path.{◌≡◌, refl, sym, ap, subst, ◌∙◌}
use mathlib.Core.List.{List}
use mathlib.Core.Bool.{Bool, true, false, ◌||◌, cond, or-true, false≢true}
use native.Mathlib.Omega.{arith}
use lib.ListN.{length, take, length-append, length-drop}
use lib.Seq.{take-take, take_at, length-take-le}
use lib.Dec.{leb}
use borrow.Author.Tests.{le-leb, lt-leb, leb-false}
use Rattle.paths.specs.Copying.{Appends}
use Rattle.table.proofs.Overwrites.{starts-inside}
use Rattle.records.specs.declared.Record.{Record}
use Rattle.records.specs.Answers.{record_answer, ReadsRecord}
use Rattle.records.proofs.WrittenLaws.{written-first}
use Rattle.records.proofs.FirstLaws.{same_first}
use Rattle.refusals.specs.declared.Refusal.{Refusal}
use Rattle.refusals.specs.Refusals.{Result, and_then}
use Rattle.table.specs.Tables.{Table}
use Rattle.table.specs.Acts.{Act}
use Rattle.table.specs.Memory.{table_of}
use Rattle.table.specs.Calls.{with_room}
use Rattle.records.specs.Records.{Change, Read, change_words, read_first}
use Rattle.standby.specs.declared.Numbers.{Numbers}
use Rattle.standby.specs.declared.Arrival.{Arrival}
use Rattle.standby.specs.Arriving.{met, Left, applies, applied, arrival, left_by, Comes, Arrives}
use Rattle.standby.proofs.ArrivingLaws.{Taking, lower, waits, comes, repeats, early, next, taking, arrival-by}
use Rattle.input.specs.Words.{words_of}
use Rattle.input.proofs.WordLaws.{words-after, taken-words}
use Rattle.holdlist.specs.declared.Held.{Held}
use Rattle.holdlist.specs.Holding.{record_space, Standing, stop, after_arrival, after_record, untaken, after_next, held_from, beginning, counted, held_on, held_arrived, standing, Holds}

-- ---- a record that arrives

-- the answer says whether an arrival is refused
data Tells : Result Left → Type 0 where
  stops : {cause : Refusal} → Tells (Err cause)
  leaves : {left : Left} {a : Arrival} → left.answer ≡ Ok a → Tells (Ok left)

tells-applied : (m : List ℕ) (s : Numbers) (r : Result Act) → Tells (and_then r (λ act. Ok (applies m s act)))
unfolding and_then
tells-applied m s (Err cause) = stops
tells-applied m s (Ok act) = leaves refl

tells-taken : {t : Table} {m : List ℕ} {s : Numbers} {c : Change} {call : Result Left} → Taking t m s c call → Tells call
tells-taken (lower l) = leaves refl
tells-taken (waits l other) = leaves refl
tells-taken (comes l one) = leaves refl
tells-taken (repeats q l) = leaves refl
tells-taken (early q l) = leaves refl
tells-taken {t} {m} {s} {c} (next q k) = unfold applied in tells-applied m s (with_room t c.act)

tells-arrival : (m words : List ℕ) (s : Numbers) → Tells (arrival m words s)
tells-arrival m words s = arrival-by m words s Tells (λ cause. stops) (λ c e. tells-taken (taking (table_of m) m (met s c.run c.number) c))

holds-told : {m : List ℕ} (k : ℕ) (held : Held) {m' : List ℕ} {n' : Numbers} {a : Result Arrival} {call : Result Left} → Tells call → Comes call m held.numbers m' n' a
    → {r : Held} → r ≡ held_arrived held k n' a → Holds (after_arrival call k (standing m held)) m' r
unfolding left_by held_arrived after_arrival stop
holds-told k held stops C f = rw (f, C.answer) (record { memory = C.memory; numbers = refl; words = refl; stopped = refl })
holds-told k held (leaves e) C f = rw (f, C.answer, e) (record { memory = C.memory; numbers = C.numbers; words = refl; stopped = refl })

pub holds-arrived : {m : List ℕ} (words : List ℕ) (held : Held) {m' : List ℕ} {n' : Numbers} {a : Result Arrival} → Arrives m words held.numbers m' n' a
    → {r : Held} → r ≡ held_arrived held (length words) n' a → Holds (after_arrival (arrival m words held.numbers) (length words) (standing m held)) m' r
holds-arrived {m} words held A f = holds-told (length words) held (tells-arrival m words held.numbers) A f

-- ---- the record that bytes begin with

-- as many words as the longest record has decide
pub first-decides : (ws ws' : List ℕ) (s : Standing) → take record_space ws ≡ take record_space ws' → after_record (read_first ws) s ≡ after_record (read_first ws') s
unfolding after_record
first-decides ws ws' s same = go (read_first ws) refl (read_first ws') refl
  where
    go : (o : Option (Read Change)) → read_first ws ≡ o → (o' : Option (Read Change)) → read_first ws' ≡ o' → after_record o s ≡ after_record o' s
    go None e None e' = refl
    go None e (Some r) e' =
        let f = same_first ws' ws (sym same) r e' in
        let z : ◌≡◌ {A = ℕ} 0 1 = cc in
        absurd (omega arith)
    go (Some r) e o e' = rw (sym e' ∙ same_first ws ws' same r e)

-- what taking the first `end` of the words comes to
pub record NextRecord (s : Standing) (bytes words : List ℕ) (count end : ℕ) : Type 0 where
  pub inside : end ≤ count
  pub few : end ≤ length words
  pub after : after_next s bytes ≡ after_arrival (arrival s.memory (take end words) s.numbers) (length (take end words)) s

module _ (s : Standing) (bytes : List ℕ) {space words : List ℕ} {count : ℕ} (W : Appends (take record_space (words_of (untaken s bytes))) space 0 words count) where
  -- they say what the record is
  next-by : after_next s bytes ≡ after_record (read_first (take count words)) s
  unfolding after_next
  next-by =
      let ws = words_of (untaken s bytes) in
      first-decides ws (take count words) s (rw (taken-words (take record_space ws) W) (sym (take-take record_space record_space ws (omega arith))))

  pub words_inside : count ≤ length words
  words_inside = starts-inside W

  module _ {room after : List ℕ} {r : Option Record} (R : ReadsRecord 0 (read_first (take count words)) room r after) where
    next-malformed : r ≡ None → after_next s bytes ≡ stop s
    unfolding record_answer after_record
    next-malformed e = go (read_first (take count words)) refl (sym R.answer ∙ e)
      where
        go : (o : Option (Read Change)) → read_first (take count words) ≡ o → record_answer 0 o ≡ None → after_next s bytes ≡ stop s
        go None f g = next-by ∙ rw f
        go (Some d) f g = let z : ◌≡◌ {A = ℕ} 0 1 = cc in absurd (omega arith)

    pub next-record : {read : Record} → r ≡ Some read → NextRecord s bytes words count read.end
    unfolding record_answer after_record
    next-record {read} e = go (read_first (take count words)) refl (sym e ∙ R.answer)
      where
        end_of : Option Record → ℕ
        end_of None = 0
        end_of (Some x) = x.end

        go : (o : Option (Read Change)) → read_first (take count words) ≡ o → Some read ≡ record_answer 0 o → NextRecord s bytes words count read.end
        go None f g = let z : ◌≡◌ {A = ℕ} 0 1 = cc in absurd (omega arith)
        go (Some d) f g =
            let c = change_words d.value in
            let there = (written-first (take count words) d f).words in
            let i : read.end ≡ 0 + length c = ap end_of g in
            let few : read.end ≤ count = omega (arith, sym (length-take-le count words words_inside) ∙ ap length there ∙ length-append c d.rest) in
            let whole : take read.end words ≡ c = sym (take-take read.end count words few) ∙ ap (take read.end) there ∙ take_at c d.rest read.end (omega arith) in
            record { inside = few; few = omega (arith, words_inside); after = next-by ∙ rw (f, whole) }

-- reading stops where it is
pub holds-malformed : (held : Held) (bytes : List ℕ) {m space words : List ℕ} {count : ℕ} {room after : List ℕ} {r : Option Record} {q : Held}
    → Appends (take record_space (words_of (untaken (standing m held) bytes))) space 0 words count → ReadsRecord 0 (read_first (take count words)) room r after
    → r ≡ None → q ≡ record { numbers = held.numbers; words = held.words; stopped = true }
    → Holds (after_next (standing m held) bytes) m q
unfolding stop
holds-malformed held bytes {m} W R e f =
    rw (next-malformed (standing m held) bytes W R e, f) (record { memory = refl; numbers = refl; words = refl; stopped = refl })

-- ---- record after record

-- a record has words, and they are there; one that ends reading takes none
pub record Advances (s s' : Standing) (left : ℕ) : Type 0 where
  pub more : s'.stopped ≡ false → s.words < s'.words
  pub most : s'.words ≤ s.words + left

advances-stopped : (s : Standing) (left : ℕ) → Advances s (stop s) left
unfolding stop
advances-stopped s left = record { more = λ e. absurd (false≢true (sym e)); most = omega arith }

advances-arrival : (call : Result Left) (k : ℕ) (s : Standing) (left : ℕ) → 1 ≤ k → k ≤ left → Advances s (after_arrival call k s) left
unfolding after_arrival
advances-arrival (Err cause) k s left some_word few = advances-stopped s left
advances-arrival (Ok r) k s left some_word few = record { more = λ e. omega arith; most = omega arith }

advances-record : (ws : List ℕ) (s : Standing) (o : Option (Read Change)) → read_first ws ≡ o → Advances s (after_record o s) (length ws)
unfolding after_record change_words
advances-record ws s None e = advances-stopped s (length ws)
advances-record ws s (Some r) e =
    advances-arrival _ _ s (length ws) (omega arith)
    (omega (arith, ap length (written-first ws r e).words ∙ length-append (change_words r.value) r.rest))

pub advances-next : (s : Standing) (bytes : List ℕ) → Advances s (after_next s bytes) ((length bytes - 4 * s.words) / 4)
unfolding after_next
advances-next s bytes =
    rw (sym (words-after bytes (4 * s.words))) (advances-record (words_of (untaken s bytes)) s (read_first (words_of (untaken s bytes))) refl)

-- nothing more is taken
unfoldable pub rests : ℕ → Standing → List ℕ → Bool
rests keep s bytes = s.stopped || leb (length (untaken s bytes)) keep

module _ (keep : ℕ) (s : Standing) (bytes : List ℕ) where
  pub rests-stopped : s.stopped ≡ true → rests keep s bytes ≡ true
  unfolding rests
  rests-stopped e = ap (λ (b : Bool). b || leb (length (untaken s bytes)) keep) e

  pub rests-kept : length bytes - 4 * s.words ≤ keep → rests keep s bytes ≡ true
  unfolding rests
  rests-kept h = rw (length-drop (4 * s.words) bytes, le-leb _ _ h) (or-true s.stopped)

  pub goes_on : s.stopped ≡ false → keep < length bytes - 4 * s.words → rests keep s bytes ≡ false
  unfolding rests
  goes_on e h =
      ap (λ (b : Bool). b || leb (length (untaken s bytes)) keep) e
      ∙ rw (length-drop (4 * s.words) bytes) (lt-leb _ _ h)

  pub going_on : rests keep s bytes ≡ false → (s.stopped ≡ false) × (keep < length bytes - 4 * s.words)
  unfolding rests
  going_on e =
      let t = or-false s.stopped (leb (length (untaken s bytes)) keep) e in
      (t.0, rw (sym (length-drop (4 * s.words) bytes)) (leb-false _ _ t.1))
    where
      or-false : (b d : Bool) → b || d ≡ false → (b ≡ false) × (d ≡ false)
      or-false true d e = absurd (false≢true (sym e))
      or-false false d e = (refl, e)

  pub held-still : (turns : ℕ) → rests keep s bytes ≡ true → held_from keep turns s bytes ≡ s
  unfolding held_from rests
  held-still zero e = refl
  held-still (suc turns) e = rw e

  pub held-step : (turns : ℕ) → rests keep s bytes ≡ false → held_from keep (suc turns) s bytes ≡ held_from keep turns (after_next s bytes) bytes
  unfolding held_from rests
  held-step turns e = rw e

holds-self : (m : List ℕ) (held : Held) → Holds (standing m held) m held
holds-self m held = record { memory = refl; numbers = refl; words = refl; stopped = refl }

pub holds_as : {s s' : Standing} {m : List ℕ} {r : Held} → s ≡ s' → Holds s m r → Holds s' m r
holds_as {m = m} {r = r} e H = subst (λ (x : Standing). Holds x m r) e H

-- the standing that a promise says
pub holds-is : {s : Standing} {m' : List ℕ} {r : Held} → Holds s m' r → standing m' r ≡ s
holds-is H = λ i. record { memory = H.memory i; numbers = H.numbers i; words = H.words i; stopped = H.stopped i }

-- what the rest comes to, the whole comes to; there are turns enough
pub record Going (whole : Standing) (keep : ℕ) (bytes first : List ℕ) (s : Standing) : Type 0 where
  pub turns : ℕ
  pub rest : whole ≡ held_from keep turns s bytes
  pub enough : s.stopped ≡ false → length bytes - 4 * s.words ≤ turns
  pub inside : 4 * s.words ≤ length bytes
  pub same : length s.memory ≡ length first

-- the turns that are left
pub to_go : Standing → List ℕ → ℕ
to_go s bytes = cond s.stopped 0 (suc (length bytes - 4 * s.words))

less_by : (left left' : ℕ) (b : Bool) → (b ≡ false → left' < left) → cond b 0 (suc left') < suc left
less_by left left' true h = omega arith
less_by left left' false h = omega (arith, h refl)

module _ {whole : Standing} {keep : ℕ} {bytes first m : List ℕ} {held : Held} (G : Going whole keep bytes first (standing m held)) where
  pub going-stopped : held.stopped ≡ true → Holds whole m held
  going-stopped e = holds_as (sym (G.rest ∙ held-still keep (standing m held) bytes G.turns (rests-stopped keep (standing m held) bytes e))) (holds-self m held)

  pub going-kept : length bytes - 4 * held.words ≤ keep → Holds whole m held
  going-kept e = holds_as (sym (G.rest ∙ held-still keep (standing m held) bytes G.turns (rests-kept keep (standing m held) bytes e))) (holds-self m held)

  module _ (e : held.stopped ≡ false) (more : keep < length bytes - 4 * held.words) {m' : List ℕ} {r : Held} (H : Holds (after_next (standing m held) bytes) m' r) where
    pub going_less : to_go (standing m' r) bytes < to_go (standing m held) bytes
    unfolding to_go
    going_less =
        rw e (less_by (length bytes - 4 * held.words) (length bytes - 4 * r.words) r.stopped (λ f.
        let A = advances-next (standing m held) bytes in
        omega (arith, A.more (sym H.stopped ∙ f), A.most, H.words)))

    pub going_next : length m' ≡ length m → Going whole keep bytes first (standing m' r)
    going_next l = go G.turns G.rest (G.enough e)
      where
        go : (turns : ℕ) → whole ≡ held_from keep turns (standing m held) bytes → length bytes - 4 * held.words ≤ turns → Going whole keep bytes first (standing m' r)
        go zero f g = absurd (omega arith)
        go (suc turns) f g =
            let s = standing m held in
            let A = advances-next s bytes in
            record {
              turns = turns;
              rest =
                  f ∙ held-step keep s bytes turns (goes_on keep s bytes e more)
                  ∙ ap (λ (x : Standing). held_from keep turns x bytes) (sym (holds-is H));
              enough = λ d. omega (arith, A.more (sym H.stopped ∙ d), A.most, H.words);
              inside = omega (arith, A.most, H.words, G.inside);
              same = l ∙ G.same;
            }

-- ---- on from what was held before

-- no more words are taken than are there
next-inside : (s : Standing) (bytes : List ℕ) → 4 * s.words ≤ length bytes → 4 * (after_next s bytes).words ≤ length bytes
next-inside s bytes h = omega (arith, (advances-next s bytes).most)

pub held-inside : (keep turns : ℕ) (s : Standing) (bytes : List ℕ) → 4 * s.words ≤ length bytes → 4 * (held_from keep turns s bytes).words ≤ length bytes
unfolding held_from
held-inside keep zero s bytes h = h
held-inside keep (suc turns) s bytes h =
    by (rests keep s bytes) refl (held-inside keep turns (after_next s bytes) bytes (next-inside s bytes h))
  where
    by : (b : Bool) → rests keep s bytes ≡ b → 4 * (held_from keep turns (after_next s bytes) bytes).words ≤ length bytes
        → 4 * (held_from keep (suc turns) s bytes).words ≤ length bytes
    by true e g = rw (held-still keep s bytes (suc turns) e) h
    by false e g = rw (held-step keep s bytes turns e) g

pub on-by : (keep : ℕ) (s : Standing) (bytes : List ℕ) (b : Bool) → s.stopped ≡ b
    → held_on keep s bytes ≡ cond b s (counted s.words (held_from keep (length bytes) (beginning s.memory s.numbers) bytes))
unfolding held_on
on-by keep s bytes b e = ap (λ (x : Bool). cond x s (counted s.words (held_from keep (length bytes) (beginning s.memory s.numbers) bytes))) e

module _ (keep : ℕ) (bytes m : List ℕ) (held : Held) where
  pub on-stopped : held.stopped ≡ true → Holds (held_on keep (standing m held) bytes) m held
  on-stopped e = holds_as (sym (on-by keep (standing m held) bytes true e)) (holds-self m held)

  pub on-held : {m' : List ℕ} {r : Held} → held.stopped ≡ false → Holds (held_from keep (length bytes) (beginning m held.numbers) bytes) m' r
      → Holds (held_on keep (standing m held) bytes) m' (record { numbers = r.numbers; words = held.words + r.words; stopped = r.stopped })
  unfolding counted
  on-held e H =
      holds_as (sym (on-by keep (standing m held) bytes false e))
      (record { memory = H.memory; numbers = H.numbers; words = ap (λ (k : ℕ). held.words + k) H.words; stopped = H.stopped })
