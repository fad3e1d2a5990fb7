-- What holds of the standby after any list of arrivals of what the main sent.
use Rattle.std.specs.Prelude.{Ok, Err}
use Prim.Native.Nat.{ℕ, ◌+◌, ◌≤◌}
use mathlib.Core.Path.{◌≡◌, refl, sym, ap, subst, ◌∙◌}
use mathlib.Core.List.Memᴰ
use mathlib.Core.List.{List, [], ◌∷◌, ◌++◌, Memᴰ}
use mathlib.Core.Bool.{true, false}
use mathlib.Core.Logic.{⊎_elim}
use native.Mathlib.Numerals.{add-one}
use native.Mathlib.Omega.{arith}
use lib.ListN.{length, take}
use lib.Seq.{take-suc}
use borrow.Author.Tests.{eq-eqb, ne_eqb}
use Rattle.refusals.specs.declared.Refusal.{Refusal}
use Rattle.refusals.specs.Refusals.{first_cause, Result}
use Rattle.table.specs.Tables.{fresh}
use Rattle.table.specs.Acts.{revoke_all, act_overflows, apply_act, apply_acts}
use Rattle.table.specs.Memory.{table_of, holds, put, do_act}
use Rattle.table.specs.Carrying.{room_cause}
use Rattle.table.proofs.ActLaws.{applied-append, left-act}
use Rattle.table.proofs.Puts.{long_of, left-put}
use Rattle.table.proofs.TableLaws.{fresh-table}
use Rattle.records.specs.Records.{Change, change_words}
use Rattle.records.proofs.RecordLaws.{read_back}
use Rattle.images.specs.Images.{Image, image_words}
use Rattle.images.proofs.ImageLaws.{image-read}
use Rattle.standby.specs.declared.Numbers.{Numbers}
use Rattle.standby.specs.declared.Arrival.{Arrival}
use Rattle.standby.specs.declared.Arrival.TheVariants.{Applied, Repeat, Early, Taken}
use Rattle.standby.specs.Arriving.{met, Left, applied, left_by, Comes, Arrives}
use Rattle.standby.specs.Loading.{takes, Loads}
use Rattle.standby.proofs.ArrivingLaws.{
  Agrees,
  no-conflict,
  arrival-taken,
  Meets,
  meets,
  applied-room,
  Taking,
  lower,
  waits,
  comes,
  repeats,
  early,
  next,
  taking,
}
use Rattle.standby.proofs.LoadingLaws.{loading-image, Loading, taken, passed, loading-as}
use Rattle.handover.specs.Handover.{
  Message,
  changed,
  image,
  Run,
  acts_in,
  Standby,
  Arrivals,
  fresh_standby,
  then_record,
  then_load,
  run_of,
  number_of,
  Opened,
  Greatest,
  reach,
  Judged,
  judged_by,
  judged_from,
  judged,
  InSequence,
  Unmoved,
}
use Rattle.handover.proofs.SequenceLaws.{reach-more, sequence-kept, sequence-next, sequence-none}
use Rattle.handover.proofs.CameLaws.{MetIs, met-none, met-more}
use Rattle.handover.proofs.JudgedLaws.{
  reach_of,
  with_change,
  taken_as,
  judged-moved,
  judged-same,
  judged-still,
  judged-taken,
  judged-passed,
  judged-more,
  judged-opened,
}
use Rattle.handover.proofs.MainLaws.{Imaged}
use Rattle.handover.proofs.SentLaws.{ChangeIs, Genuine, change-is, image-is}

-- ---- the table and n, by what is judged

pub record Stands (runs : List Run) (m : List ℕ) (n : ℕ) (j : Judged) : Type 0 where
  pub holding : holds m ≡ true
  pub table : table_of m ≡ apply_acts fresh (take n (acts_in runs j.run))
  pub number : n ≡ reach_of j
  pub reached : InSequence j.run (acts_in runs j.run) j.base j.since n

-- the next change
module _ {runs : List Run} {m : List ℕ} {n : ℕ} {j : Judged} {c : Change} (S : Stands runs m n j) (C : ChangeIs j.run (acts_in runs j.run) n c) where
  next-room : act_overflows (table_of m) c.act ≡ false
  next-room = rw S.table C.room

  next-table : apply_act (table_of m) c.act ≡ apply_acts fresh (take (n + 1) (acts_in runs j.run))
  unfolding apply_acts
  next-table = rw (S.table, add-one, take-suc (acts_in runs j.run) n revoke_all C.within, applied-append, C.is)

  stands-next : Stands runs (do_act m c.act) (n + 1) (with_change j c)
  stands-next =
      let L = left-act m c.act S.holding C.readable.fits next-room in
      let e : c.number ≡ n + 1 = ap (λ (x : Change). x.number) C.is in
      record {
        holding = L.holding;
        table = L.table ∙ next-table;
        number = rw (reach-more j.base j.since c, ← S.number, eq-eqb c.number (n + 1) e);
        reached = rw C.is (sequence-next S.reached C.within);
      }

-- any other of the run
stands-other : {runs : List Run} {m : List ℕ} {n : ℕ} {j : Judged} (c : Change) → Stands runs m n j → (c.number ≡ n + 1 → ⊥) → Stands runs m n (with_change j c)
stands-other {n = n} {j = j} c S ne = record {
  holding = S.holding;
  table = S.table;
  number = rw (reach-more j.base j.since c, ← S.number, ne_eqb c.number (n + 1) ne);
  reached = sequence-kept S.reached c;
}

stands-image : {runs : List Run} {i : Image} (m : List ℕ) → holds m ≡ true → Imaged runs i → Stands runs (put i.table m) i.number (taken_as i)
unfolding reach
stands-image {i = i} m h I =
    let L = left-put m _ i.table I.writable.within (long_of m h) refl in
    record { holding = L.holding; table = L.table ∙ I.is.table; number = refl; reached = sequence-none I.is.made }

abbrev begun_at : ℕ → Judged
begun_at q = record { run = q; base = 0; since = [] }

stands-fresh : {runs : List Run} {m : List ℕ} {q : ℕ} → holds m ≡ true → table_of m ≡ fresh → Stands runs m 0 (begun_at q)
unfolding reach apply_acts
stands-fresh h e = record { holding = h; table = e; number = refl; reached = sequence-none (omega arith) }

stands-cleared : {runs : List Run} (m : List ℕ) {q : ℕ} → holds m ≡ true → Stands runs (put fresh m) 0 (begun_at q)
stands-cleared m h = let L = left-put m _ fresh fresh-table (long_of m h) refl in stands-fresh L.holding L.table

-- ---- numbers agree once number k of run q is met

agrees-met : {s : Numbers} → Agrees s → (q k : ℕ) → Agrees (met s q k)
agrees-met {s} A q k =
    let M = meets s q k in
    let below : (met s q k).run ≤ (met s q k).highest = omega (arith, A.below, M.same-run, M.up) in
    record { below = below; ordered = λ e. by M (omega (arith, A.below, M.same-run, M.up)) }
  where
    by : {s' : Numbers} → Meets s q k s' → (s'.highest ≡ s.highest) × (s.run ≡ s.highest) → s'.n ≤ s'.h
    by M e = omega (arith, M.same-n, M.keeps e.0, A.ordered e.1)

-- also of a standby that comes to that run and number
agrees-here : (s : Numbers) {q k q' k' : ℕ} → q' ≡ q → k' ≡ k → Agrees (record { n = k'; h = (met s q k).h; run = q'; highest = (met s q k).highest })
agrees-here s {q} {k} e f =
    let M = meets s q k in
    record { below = omega (arith, M.over); ordered = λ x. omega (arith, M.reaches (omega arith)) }

-- ---- any list of arrivals

-- memory and numbers of the standby, what is judged from the arrivals, and what arrived
pub record StandbyIs (runs : List Run) (m : List ℕ) (s : Numbers) (j : Judged) (came : List Message) (answers : List (Result Arrival)) : Type 0 where
  pub stands : Stands runs m s.n j
  pub run : s.run ≡ j.run
  pub met : MetIs came s.highest s.h
  pub agrees : Agrees s
  pub unrefused : (cause : Refusal) → Memᴰ (Err cause) answers → ⊥

unrefused-more : {answers : List (Result Arrival)} {r : Result Arrival} → ((cause : Refusal) → Memᴰ (Err cause) answers → ⊥)
    → ((cause : Refusal) → Err cause ≡ r → ⊥) → (cause : Refusal) → Memᴰ (Err cause) (answers ++ r ∷ []) → ⊥
unrefused-more {answers} f g cause m = ⊎_elim (f cause) (λ x. g cause (Memᴰ.eq_of_singleton x)) (Memᴰ.append_cases answers m)

-- the numbers of a standby that the message x leaves at n in run q
abbrev left_at : Numbers → Message → ℕ → ℕ → Numbers
left_at s x n q = record { n = n; h = (met s (run_of x) (number_of x)).h; run = q; highest = (met s (run_of x) (number_of x)).highest }

-- a message arrives, and leaves memory m' and such numbers; or the standby stays where it is
module _ {runs : List Run} {m : List ℕ} {s : Numbers} {j : Judged} {came : List Message} {answers : List (Result Arrival)} (S : StandbyIs runs m s j came answers)
    (x : Message) {r : Result Arrival} (unrefused : (cause : Refusal) → Err cause ≡ r → ⊥) {k : Judged} (e : judged_by j x ≡ k) where
  then-left : {m' : List ℕ} {n q : ℕ} → Stands runs m' n k → q ≡ k.run → Agrees (left_at s x n q)
      → StandbyIs runs m' (left_at s x n q) (judged_by j x) (came ++ x ∷ []) (answers ++ r ∷ [])
  then-left T f A = rw e (record { stands = T; run = f; met = met-more x s S.met; agrees = A; unrefused = unrefused-more S.unrefused unrefused })

  then-stays : Stands runs m s.n k → s.run ≡ k.run → StandbyIs runs m (met s (run_of x) (number_of x)) (judged_by j x) (came ++ x ∷ []) (answers ++ r ∷ [])
  then-stays T f =
      let M = meets s (run_of x) (number_of x) in
      then-left (rw M.same-n T) (M.same-run ∙ f) (agrees-met S.agrees (run_of x) (number_of x))

never : (a : Arrival) (cause : Refusal) → Err cause ≡ Ok a → ⊥
never a cause e = let z : ◌≡◌ {A = ℕ} 0 1 = cc in omega arith

module _ {runs : List Run} {m : List ℕ} {s : Numbers} {j : Judged} {came : List Message} {answers : List (Result Arrival)} (S : StandbyIs runs m s j came answers) where
  met-run : (q k : ℕ) → (met s q k).run ≡ j.run
  met-run q k = (meets s q k).same-run ∙ S.run

  met-reach : (q k : ℕ) → (met s q k).n ≡ reach_of j
  met-reach q k = (meets s q k).same-n ∙ S.stands.number

  -- a record
  module _ {c : Change} {k : ℕ} (C : ChangeIs c.run (acts_in runs c.run) k c) where
    -- it is the change after n of the run q
    change-in : {q n : ℕ} → c.run ≡ q → c.number ≡ n + 1 → ChangeIs q (acts_in runs q) n c
    change-in {q} {n} e f =
        let at : k ≡ n = omega (arith, ap (λ (x : Change). x.number) C.is) in
        subst (λ (q : ℕ). ChangeIs q (acts_in runs q) n c) e (subst (λ (n : ℕ). ChangeIs c.run (acts_in runs c.run) n c) at C)

    same-run : (met s c.run c.number).run ≡ j.run
    same-run = met-run c.run c.number

    same-n : (met s c.run c.number).n ≡ s.n
    same-n = (meets s c.run c.number).same-n

    arrived-next : {m' : List ℕ} {s' : Numbers} {r : Result Arrival} → c.run ≡ (met s c.run c.number).run → c.number ≡ (met s c.run c.number).n + 1
        → Comes (applied (table_of m) m (met s c.run c.number) c) m s m' s' r
        → StandbyIs runs m' s' (judged_by j (changed c)) (came ++ changed c ∷ []) (answers ++ r ∷ [])
    unfolding left_by run_of number_of room_cause first_cause
    arrived-next q e D =
        let N = change-in {n = s.n} (q ∙ same-run) (omega (arith, same-n)) in
        let A = rw (applied-room (table_of m) m (met s c.run c.number) c (rw (next-room S.stands N))) at D in
        rw (A.memory, A.numbers, A.answer)
        (then-left S (changed c) (never Applied) (judged-same j c (omega (arith, same-run))) (rw same-n (stands-next S.stands N)) same-run
        (agrees-here s (sym q) (sym e)))

    arrived-by : {call : Result Left} {m' : List ℕ} {s' : Numbers} {r : Result Arrival} → Taking (table_of m) m (met s c.run c.number) c call
        → Comes call m s m' s' r
        → StandbyIs runs m' s' (judged_by j (changed c)) (came ++ changed c ∷ []) (answers ++ r ∷ [])
    unfolding left_by run_of number_of
    arrived-by (lower l) D =
        rw (D.memory, D.numbers, D.answer)
        (then-stays S (changed c) (never Repeat) (judged-still j c (λ e. omega (arith, same-run)) (λ one. omega (arith, same-run))) S.stands S.run)
    arrived-by (waits l ne) D =
        rw (D.memory, D.numbers, D.answer)
        (then-stays S (changed c) (never Early) (judged-still j c (λ e. omega (arith, same-run)) (λ one. absurd (ne one))) S.stands S.run)
    arrived-by (comes l one) D =
        rw (D.memory, D.numbers, D.answer)
        (then-left S (changed c) (never Applied) (judged-moved j c (omega (arith, same-run)) one)
        (stands-next (stands-cleared m S.stands.holding) (change-in refl one)) refl (agrees-here s refl (sym one)))
    arrived-by (repeats q l) D =
        rw (D.memory, D.numbers, D.answer)
        (then-stays S (changed c) (never Repeat) (judged-same j c (omega (arith, same-run))) (stands-other c S.stands (λ e. omega (arith, same-n))) S.run)
    arrived-by (early q l) D =
        rw (D.memory, D.numbers, D.answer)
        (then-stays S (changed c) (never Early) (judged-same j c (omega (arith, same-run))) (stands-other c S.stands (λ e. omega (arith, same-n))) S.run)
    arrived-by (next q e) D = arrived-next q e D

    arrived : {m' : List ℕ} {s' : Numbers} {r : Result Arrival} → Arrives m (change_words c) s m' s' r
        → StandbyIs runs m' s' (judged_by j (changed c)) (came ++ changed c ∷ []) (answers ++ r ∷ [])
    arrived D =
        arrived-by (taking (table_of m) m (met s c.run c.number) c)
        (rw (arrival-taken m (change_words c) s S.stands.holding (no-conflict s S.agrees) (read_back c C.readable)) at D)

  -- an image
  module _ {i : Image} (I : Imaged runs i) where
    loaded-by : {l : Left} {m' : List ℕ} {s' : Numbers} {r : Result Arrival} → Loading m (met s i.run i.number) i l → Comes (Ok l) m s m' s' r
        → StandbyIs runs m' s' (judged_by j (image i)) (came ++ image i ∷ []) (answers ++ r ∷ [])
    unfolding left_by run_of number_of takes
    loaded-by (taken l less) D =
        let same = met-run i.run i.number in
        rw (D.memory, D.numbers, D.answer)
        (then-left S (image i) (never Taken) (judged-taken j i (omega arith) (λ e. omega (arith, met-reach i.run i.number, less (omega arith))))
        (stands-image m S.stands.holding I) refl (agrees-here s refl refl))
    loaded-by (passed l few) D =
        let same = met-run i.run i.number in
        rw (D.memory, D.numbers, D.answer)
        (then-stays S (image i) (never Repeat) (judged-passed j i (omega arith) (λ e. omega (arith, met-reach i.run i.number, few (omega arith))))
        S.stands S.run)

    loads : {m' : List ℕ} {s' : Numbers} {r : Result Arrival} → Loads m (image_words i) s m' s' r
        → StandbyIs runs m' s' (judged_by j (image i)) (came ++ image i ∷ []) (answers ++ r ∷ [])
    loads D =
        loaded-by (loading-as m (met s i.run i.number) i)
        (rw (loading-image m (image_words i) s S.stands.holding (no-conflict s S.agrees) (image-read I.writable)) at D)

-- what was sent arrives
module _ {runs : List Run} {m : List ℕ} {s : Numbers} {came : List Message} {answers : List (Result Arrival)} (S : StandbyIs runs m s (judged came) came answers)
    {m' : List ℕ} {s' : Numbers} {r : Result Arrival} {all : List Message} {told : List (Result Arrival)} where
  then-record : {c : Change} → Genuine runs (changed c) → Arrives m (change_words c) s m' s' r → all ≡ came ++ changed c ∷ [] → told ≡ answers ++ r ∷ []
      → StandbyIs runs m' s' (judged all) all told
  then-record {c} (change-is k C) D e f = rw (e, f, judged-more came (changed c)) (arrived S C D)

  then-load : {i : Image} → Genuine runs (image i) → Loads m (image_words i) s m' s' r → all ≡ came ++ image i ∷ [] → told ≡ answers ++ r ∷ []
      → StandbyIs runs m' s' (judged all) all told
  then-load {i} (image-is I) D e f = rw (e, f, judged-more came (image i)) (loads S I D)

pub standby-is : {runs : List Run} {sent : List Message} {s : Standby} {came : List Message} {answers : List (Result Arrival)}
    → ((m : Message) → Memᴰ m sent → Genuine runs m) → Arrivals Arrives Loads sent s came answers
    → StandbyIs runs s.memory s.numbers (judged came) came answers
unfolding judged_from
standby-is G (fresh_standby F e) = rw e (record {
  stands = stands-fresh F.holding F.table;
  run = refl;
  met = met-none;
  agrees = record { below = omega arith; ordered = λ x. omega arith };
  unrefused = λ cause m. Memᴰ.not-nil m;
})
standby-is G (then_record {c = c} A x D e f) = then-record (standby-is G A) (G (changed c) x) D e f
standby-is G (then_load {i = i} A x D e f) = then-load (standby-is G A) (G (image i) x) D e f

-- ---- before a run is opened

module _ {runs : List Run} {s : Standby} {came : List Message} {answers : List (Result Arrival)}
    (S : StandbyIs runs s.memory s.numbers (judged came) came answers) where
  pub opened : Greatest (Opened came) s.numbers.run
  opened = rw S.run (judged-opened came)

  unmoved : acts_in runs 0 ≡ [] → s.numbers.run ≡ 0 → Unmoved s
  unfolding apply_acts
  unmoved nought e =
      let acts : acts_in runs (judged came).run ≡ [] = rw (← S.run, e) nought in
      let n : s.numbers.n ≡ 0 = omega (arith, S.stands.reached.made, ap length acts) in
      record { run = e; n = n; table = S.stands.table ∙ rw n }

  pub before-opened : acts_in runs 0 ≡ [] → ((q : ℕ) → Opened came q → ⊥) → Unmoved s
  before-opened nought lacks = ⊎_elim (unmoved nought) (λ O. absurd (lacks _ O)) opened.one
