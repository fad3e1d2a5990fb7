-- Laws of what is judged from the arrivals: the run is the highest that was opened, and the number reached is the greatest that is reached in it from any
-- image, or from 0.
use Prim.Native.Nat.{ℕ, ◌≤◌, ◌<◌}
use mathlib.Core.Path.{◌≡◌, refl, sym, ◌∙◌}
use mathlib.Core.List.{List, [], ◌∷◌, ◌++◌, append-nil, append_assoc}
use mathlib.Core.Bool.{Bool, true, false, ◌&&◌, ◌||◌, cond}
use native.Mathlib.Omega.{arith}
use lib.Dec.{ltb, eqb}
use borrow.Author.Tests.{ltb-true, ltb-false, eqb-true, eqb-false, lt-ltb, le-ltb, eq-eqb, ne_eqb}
use Rattle.table.specs.Acts.{Act}
use Rattle.records.specs.Records.{Change}
use Rattle.images.specs.Images.{Image}
use Rattle.handover.specs.Handover.{
  Message,
  changed,
  image,
  kept_if,
  changes_of,
  run_of,
  opens,
  Opened,
  Greatest,
  reach,
  Judged,
  is_taken,
  judged_by,
  judged_from,
  judged,
  InSequence,
  Start,
  from_nothing,
  from_image,
  Reached,
}
use Rattle.handover.proofs.MessageLaws.{changes-append, change-own, change-other}
use Rattle.handover.proofs.SequenceLaws.{step, reach-more, step-monotone, within-reach, sequence-front}
use Rattle.handover.proofs.CameLaws.{came-none, greatest-none, greatest-kept, greatest-last}

-- the number reached
abbrev pub reach_of : Judged → ℕ
reach_of j = reach j.base j.since

-- ---- what one message makes of it

-- change 1 of a higher run, a change of the same run, an image that is taken
abbrev pub moved_by : Change → Judged
moved_by c = record { run = c.run; base = 0; since = c ∷ [] }

abbrev pub with_change : Judged → Change → Judged
with_change j c = record { run = j.run; base = j.base; since = j.since ++ c ∷ [] }

abbrev pub taken_as : Image → Judged
taken_as i = record { run = i.run; base = i.number; since = [] }

module _ (j : Judged) (c : Change) where
  pub judged-moved : j.run < c.run → c.number ≡ 1 → judged_by j (changed c) ≡ moved_by c
  unfolding judged_by
  judged-moved l e = rw (lt-ltb j.run c.run l, eq-eqb c.number 1 e)

  pub judged-same : j.run ≡ c.run → judged_by j (changed c) ≡ with_change j c
  unfolding judged_by
  judged-same e = rw (le-ltb j.run c.run (omega arith), eq-eqb j.run c.run e)

  pub judged-still : (j.run ≡ c.run → ⊥) → (c.number ≡ 1 → c.run ≤ j.run) → judged_by j (changed c) ≡ j
  unfolding judged_by
  judged-still ne low = rw (ne_eqb j.run c.run ne) (go (ltb j.run c.run) refl)
    where
      go : (b : Bool) → ltb j.run c.run ≡ b → cond (b && eqb c.number 1) (moved_by c) j ≡ j
      go true e = let l = ltb-true j.run c.run e in rw (ne_eqb c.number 1 (λ one. omega (arith, low one)))
      go false e = refl

module _ (j : Judged) (i : Image) where
  is-taken : j.run ≤ i.run → (j.run ≡ i.run → reach_of j < i.number) → is_taken j i ≡ true
  unfolding is_taken
  is-taken l less = go (ltb j.run i.run) refl
    where
      go : (b : Bool) → ltb j.run i.run ≡ b → (b || (eqb j.run i.run && ltb (reach_of j) i.number)) ≡ true
      go true e = refl
      go false e =
          let same : j.run ≡ i.run = omega (arith, ltb-false j.run i.run e) in
          rw (eq-eqb j.run i.run same, lt-ltb (reach_of j) i.number (less same))

  is-passed : i.run ≤ j.run → (j.run ≡ i.run → i.number ≤ reach_of j) → is_taken j i ≡ false
  unfolding is_taken
  is-passed l few = rw (le-ltb j.run i.run l) (go (eqb j.run i.run) refl)
    where
      go : (b : Bool) → eqb j.run i.run ≡ b → (b && ltb (reach_of j) i.number) ≡ false
      go true e = le-ltb (reach_of j) i.number (few (eqb-true j.run i.run e))
      go false e = refl

  pub judged-taken : j.run ≤ i.run → (j.run ≡ i.run → reach_of j < i.number) → judged_by j (image i) ≡ taken_as i
  unfolding judged_by
  judged-taken l less = rw (is-taken l less)

  pub judged-passed : i.run ≤ j.run → (j.run ≡ i.run → i.number ≤ reach_of j) → judged_by j (image i) ≡ j
  unfolding judged_by
  judged-passed l few = rw (is-passed l few)

-- the ways that there are
data ByChange (j : Judged) (c : Change) : Judged → Type 0 where
  moved : j.run < c.run → c.number ≡ 1 → ByChange j c (moved_by c)
  same : j.run ≡ c.run → ByChange j c (with_change j c)
  still : (j.run ≡ c.run → ⊥) → (c.number ≡ 1 → c.run ≤ j.run) → ByChange j c j

by-change : (j : Judged) (c : Change) → ByChange j c (judged_by j (changed c))
by-change j c = go (eqb j.run c.run) refl (ltb j.run c.run) refl (eqb c.number 1) refl
  where
    stays : (j.run ≡ c.run → ⊥) → (c.number ≡ 1 → c.run ≤ j.run) → ByChange j c (judged_by j (changed c))
    stays ne low = rw (judged-still j c ne low) (still ne low)

    go : (a : Bool) → eqb j.run c.run ≡ a → (b : Bool) → ltb j.run c.run ≡ b → (d : Bool) → eqb c.number 1 ≡ d
        → ByChange j c (judged_by j (changed c))
    go true e b f d g = let q = eqb-true j.run c.run e in rw (judged-same j c q) (same q)
    go false e true f true g =
        let l = ltb-true j.run c.run f in
        let one = eqb-true c.number 1 g in
        rw (judged-moved j c l one) (moved l one)
    go false e true f false g = stays (eqb-false j.run c.run e) (λ one. absurd (eqb-false c.number 1 g one))
    go false e false f d g = stays (eqb-false j.run c.run e) (λ one. ltb-false j.run c.run f)

data ByImage (j : Judged) (i : Image) : Judged → Type 0 where
  taken : j.run ≤ i.run → (j.run ≡ i.run → reach_of j < i.number) → ByImage j i (taken_as i)
  passed : i.run ≤ j.run → (j.run ≡ i.run → i.number ≤ reach_of j) → ByImage j i j

by-image : (j : Judged) (i : Image) → ByImage j i (judged_by j (image i))
by-image j i = go (ltb j.run i.run) refl (ltb i.run j.run) refl (ltb (reach_of j) i.number) refl
  where
    takes : j.run ≤ i.run → (j.run ≡ i.run → reach_of j < i.number) → ByImage j i (judged_by j (image i))
    takes l less = rw (judged-taken j i l less) (taken l less)

    passes : i.run ≤ j.run → (j.run ≡ i.run → i.number ≤ reach_of j) → ByImage j i (judged_by j (image i))
    passes l few = rw (judged-passed j i l few) (passed l few)

    go : (a : Bool) → ltb j.run i.run ≡ a → (b : Bool) → ltb i.run j.run ≡ b → (d : Bool) → ltb (reach_of j) i.number ≡ d
        → ByImage j i (judged_by j (image i))
    go true e b f d g = let l = ltb-true j.run i.run e in takes (omega arith) (λ q. absurd (omega arith))
    go false e true f d g = let l = ltb-true i.run j.run f in passes (omega arith) (λ q. absurd (omega arith))
    go false e false f true g = takes (ltb-false i.run j.run f) (λ q. ltb-true (reach_of j) i.number g)
    go false e false f false g = passes (ltb-false j.run i.run e) (λ q. ltb-false (reach_of j) i.number g)

-- ---- one arrival more

judged-from : (j : Judged) (came : List Message) (m : Message) → judged_from j (came ++ m ∷ []) ≡ judged_by (judged_from j came) m
unfolding judged_from
judged-from j [] m = refl
judged-from j (x ∷ came) m = judged-from (judged_by j x) came m

pub judged-more : (came : List Message) (m : Message) → judged (came ++ m ∷ []) ≡ judged_by (judged came) m
judged-more came m = judged-from _ came m

-- ---- the run is the highest that was opened, and the number is reached from some start

abbrev IsOpened : ℕ → Message → Type 0
IsOpened q m = (run_of m ≡ q) × (opens m ≡ true)

-- `front` are changes of the run that arrived before it was opened
record Starts (came : List Message) (j : Judged) : Type 0 where
  opened : Greatest (Opened came) j.run
  later : List Message
  start : Start j.run came j.base later
  front : List Change
  since : changes_of j.run later ≡ front ++ j.since

start-more : {q : ℕ} {came : List Message} {base : ℕ} {later : List Message} (m : Message) → Start q came base later
    → Start q (came ++ m ∷ []) base (later ++ m ∷ [])
start-more m (from_nothing e f) = from_nothing e (rw f)
start-more {later = later} m (from_image earlier i e f g) = from_image earlier i (rw e (append_assoc earlier (image i ∷ later) (m ∷ []))) f g

module _ {came : List Message} {j : Judged} (S : Starts came j) where
  starts-kept : (m : Message) → (opens m ≡ true → run_of m ≤ j.run) → changes_of j.run (m ∷ []) ≡ [] → Starts (came ++ m ∷ []) j
  starts-kept m low none = record {
    opened = greatest-kept came m IsOpened (λ k e. omega (arith, low e.1)) S.opened;
    later = S.later ++ m ∷ [];
    start = start-more m S.start;
    front = S.front;
    since = rw (changes-append j.run S.later (m ∷ []), none, append-nil) S.since;
  }

  starts-change : (c : Change) {k : Judged} → ByChange j c k → Starts (came ++ changed c ∷ []) k
  unfolding run_of opens changes_of
  starts-change c (moved l e) = record {
    opened = greatest-last came (changed c) IsOpened (λ k f. omega arith) (refl, cc (eq-eqb c.number 1 e)) (λ k C. omega (arith, S.opened.above k C));
    later = came ++ changed c ∷ [];
    start = from_nothing refl refl;
    front = changes_of c.run came;
    since = rw (changes-append c.run came (changed c ∷ []), change-own c.run c [] refl);
  }
  starts-change c (same e) = record {
    opened = greatest-kept came (changed c) IsOpened (λ k f. omega arith) S.opened;
    later = S.later ++ changed c ∷ [];
    start = start-more (changed c) S.start;
    front = S.front;
    since =
        rw (changes-append j.run S.later (changed c ∷ []), change-own j.run c [] (sym e), S.since) (append_assoc S.front j.since (c ∷ []));
  }
  starts-change c (still ne low) = starts-kept (changed c) (λ o. low (eqb-true c.number 1 o)) (change-other j.run c [] (λ e. ne (sym e)))

  starts-image : (i : Image) {k : Judged} → ByImage j i k → Starts (came ++ image i ∷ []) k
  unfolding run_of opens changes_of
  starts-image i (taken l less) = record {
    opened = greatest-last came (image i) IsOpened (λ k f. omega arith) (refl, refl) (λ k C. omega (arith, S.opened.above k C));
    later = [];
    start = from_image came i refl refl refl;
    front = [];
    since = refl;
  }
  starts-image i (passed l few) = starts-kept (image i) (λ o. l) refl

  starts_more : (m : Message) → Starts (came ++ m ∷ []) (judged_by j m)
  starts_more (changed c) = starts-change c (by-change j c)
  starts_more (image i) = starts-image i (by-image j i)

starts-all : {came : List Message} {j : Judged} (more : List Message) → Starts came j → Starts (came ++ more) (judged_from j more)
unfolding judged_from
starts-all {came} [] S = rw (append-nil came) S
starts-all {came} (m ∷ more) S = rw (← append_assoc came (m ∷ []) more) (starts-all {came = came ++ m ∷ []} more (starts_more S m))

starts : (came : List Message) → Starts came (judged came)
unfolding changes_of
starts came =
    starts-all {came = []} came
    (record { opened = greatest-none (λ k C. came-none C); later = []; start = from_nothing refl refl; front = []; since = refl })

pub judged-opened : (came : List Message) → Greatest (Opened came) (judged came).run
judged-opened came = (starts came).opened

-- ---- and no start reaches further

change-rises : {j : Judged} {c : Change} {k : Judged} → ByChange j c k → j.run ≤ k.run
change-rises (moved l e) = omega arith
change-rises (same e) = omega arith
change-rises (still ne low) = omega arith

image-rises : {j : Judged} {i : Image} {k : Judged} → ByImage j i k → j.run ≤ k.run
image-rises (taken l less) = l
image-rises (passed l few) = omega arith

run-rises : (came : List Message) (j : Judged) → j.run ≤ (judged_from j came).run
unfolding judged_from
run-rises [] j = omega arith
run-rises (changed c ∷ came) j = omega (arith, change-rises (by-change j c), run-rises came (judged_by j (changed c)))
run-rises (image i ∷ came) j = omega (arith, image-rises (by-image j i), run-rises came (judged_by j (image i)))

-- n is not above the number reached in run q, and is 0 before that run
record AtMost (q n : ℕ) (j : Judged) : Type 0 where
  inside : j.run ≡ q → n ≤ reach_of j
  before : j.run < q → n ≡ 0

-- a change of the run, and of any other
own-at-most : {q n : ℕ} {j : Judged} {c : Change} {k : Judged} → ByChange j c k → k.run ≤ q → c.run ≡ q → AtMost q n j → AtMost q (step n c) k
unfolding reach
own-at-most {c = c} (moved l e) most own A = rw (A.before (omega arith)) (record { inside = λ f. omega arith; before = λ f. absurd (omega arith) })
own-at-most {j = j} {c = c} (same e) most own A = record {
  inside = λ f. rw (reach-more j.base j.since c) (step-monotone c (A.inside f));
  before = λ f. absurd (omega arith);
}
own-at-most {c = c} (still ne low) most own A =
    rw (A.before (omega arith), ne_eqb c.number 1 (λ one. omega (arith, low one))) (record { inside = λ f. omega arith; before = λ f. refl })

other-at-most : {q n : ℕ} {j : Judged} {c : Change} {k : Judged} → ByChange j c k → k.run ≤ q → (c.run ≡ q → ⊥) → AtMost q n j → AtMost q n k
other-at-most (moved l e) most ne A = record { inside = λ f. absurd (ne f); before = λ f. A.before (omega arith) }
other-at-most (same e) most ne A = record { inside = λ f. absurd (ne (omega arith)); before = A.before }
other-at-most (still x y) most ne A = A

change-at-most : {q n : ℕ} {j : Judged} {c : Change} {k : Judged} → ByChange j c k → k.run ≤ q → AtMost q n j → AtMost q (cond (eqb c.run q) (step n c) n) k
change-at-most {q} {n} {c = c} {k = k} x most A = go (eqb c.run q) refl
  where
    go : (b : Bool) → eqb c.run q ≡ b → AtMost q (cond b (step n c) n) k
    go true e = own-at-most x most (eqb-true c.run q e) A
    go false e = other-at-most x most (eqb-false c.run q e) A

-- an image: what was reached before, and its own number
image-at-most : {q n : ℕ} {j : Judged} {i : Image} {k : Judged} → ByImage j i k → k.run ≤ q → AtMost q n j → AtMost q n k
unfolding reach
image-at-most {q} {n} {j} {i} (taken l less) most A = record { inside = λ e. go (eqb j.run q) refl e; before = λ e. A.before (omega arith) }
  where
    go : (b : Bool) → eqb j.run q ≡ b → i.run ≡ q → n ≤ i.number
    go true f e = let here = eqb-true j.run q f in omega (arith, A.inside here, less (omega arith))
    go false f e = omega (arith, A.before (omega (arith, eqb-false j.run q f)))
image-at-most (passed l few) most A = A

own-image-at-most : {q : ℕ} {j : Judged} {i : Image} {k : Judged} → ByImage j i k → k.run ≤ q → i.run ≡ q → AtMost q i.number k
unfolding reach
own-image-at-most (taken l less) most own = record { inside = λ e. omega arith; before = λ e. absurd (omega arith) }
own-image-at-most (passed l few) most own = record { inside = λ e. few (omega arith); before = λ e. absurd (omega arith) }

reach-kept : (b : Bool) (n : ℕ) (c : Change) (rest : List Change) → reach n (kept_if b c rest) ≡ reach (cond b (step n c) n) rest
unfolding reach kept_if
reach-kept true n c rest = refl
reach-kept false n c rest = refl

-- changes from n on
no-further : (came : List Message) (j : Judged) {q n : ℕ} → (judged_from j came).run ≡ q → AtMost q n j → reach n (changes_of q came) ≤ reach_of (judged_from j came)
unfolding changes_of judged_from reach
no-further [] j e A = A.inside e
no-further (changed c ∷ came) j {q} {n} e A =
    rw (reach-kept (eqb c.run q) n c (changes_of q came))
    (no-further came (judged_by j (changed c)) e (change-at-most (by-change j c) (omega (arith, run-rises came (judged_by j (changed c)))) A))
no-further (image i ∷ came) j e A =
    no-further came (judged_by j (image i)) e (image-at-most (by-image j i) (omega (arith, run-rises came (judged_by j (image i)))) A)

no-further-image : (earlier : List Message) (i : Image) (later : List Message) (j : Judged) → (judged_from j (earlier ++ image i ∷ later)).run ≡ i.run
    → reach i.number (changes_of i.run later) ≤ reach_of (judged_from j (earlier ++ image i ∷ later))
unfolding judged_from
no-further-image [] i later j e =
    no-further later (judged_by j (image i)) e (own-image-at-most (by-image j i) (omega (arith, run-rises later (judged_by j (image i)))) refl)
no-further-image (m ∷ earlier) i later j e = no-further-image earlier i later (judged_by j m) e

start-reaches : {q : ℕ} {came : List Message} {base : ℕ} {later : List Message} → (judged came).run ≡ q → Start q came base later
    → reach base (changes_of q later) ≤ reach_of (judged came)
start-reaches {came = came} r (from_nothing e f) = rw (e, f) (no-further came _ r (record { inside = λ x. unfold reach in omega arith; before = λ x. refl }))
start-reaches {later = later} r (from_image earlier i e f g) = rw (e, ← f, ← g) (no-further-image earlier i later _ (rw (← e) (r ∙ sym f)))

-- ---- both ways of saying n

module _ {acts : List Act} {came : List Message} {k : ℕ} where
  pub reached-some : InSequence (judged came).run acts (judged came).base (judged came).since k → Reached (judged came).run acts came k
  reached-some I =
      let S = starts came in
      record { base = _; later = S.later; start = S.start; sequence = rw S.since (sequence-front I S.front) }

  pub reached-most : Reached (judged came).run acts came k → k ≤ reach_of (judged came)
  reached-most R = omega (arith, within-reach R.sequence, start-reaches refl R.start)
