-- What holds of the main after any list of its calls, run after run.
use Rattle.std.specs.Prelude.{Ok, Err}
use Prim.Native.Nat.{ℕ, ◌+◌, ◌≤◌}
use mathlib.Core.Path.{◌≡◌, refl, sym, ap, ◌∙◌, subst}
use mathlib.Core.List.Memᴰ
use mathlib.Core.List.{
  List,
  [],
  ◌∷◌,
  ◌++◌,
  append-nil,
  Memᴰ,
}
use mathlib.Core.Bool.{Bool, true, false, cond}
use mathlib.Core.Logic.{⊎_elim}
use native.Mathlib.Omega.{arith}
use lib.ListN.{length, take, length-append}
use lib.Seq.{take_at, take-length, take-append-le}
use lib.Dec.{eqb}
use borrow.Author.Tests.{ltb-false, eq-eqb, ne_eqb, eqb-true, eqb-false}
use Rattle.refusals.specs.declared.Refusal.{Refusal}
use Rattle.refusals.specs.declared.Refusal.TheVariants.{NoTable}
use Rattle.refusals.specs.Refusals.{Result, cause_of}
use Rattle.refusals.proofs.CauseLaws.{no-cause-head, Hands, stops, hands, hands_then, hands-unless}
use Rattle.paths.specs.Components.{Bytes}
use Rattle.paths.specs.Copying.{begun}
use Rattle.table.specs.Tables.{Table, fresh}
use Rattle.table.specs.Acts.{Act, apply_acts}
use Rattle.table.specs.Memory.{table_bytes, table_of, holds, do_acts}
use Rattle.table.specs.Carrying.{outcome_of}
use Rattle.table.specs.Calls.{fresh_in, put_in}
use Rattle.table.proofs.ActLaws.{applied-append}
use Rattle.table.proofs.CallLaws.{a-table}
use Rattle.table.proofs.Puts.{valid-of, left-put}
use Rattle.table.proofs.TableLaws.{fresh-table}
use Rattle.records.specs.Records.{numbered, all_words}
use Rattle.images.specs.Images.{Image, image_words, image_size, Writable}
use Rattle.images.proofs.ImageLaws.{image-length, entries-bytes}
use Rattle.link.specs.declared.Link.TheVariants.{Linked}
use Rattle.link.specs.declared.ImageSent.{ImageSent}
use Rattle.link.specs.Sending.{Sends}
use Rattle.link.specs.Sending as sending
use Rattle.link.specs.Beginning.{begin_call, number_in, BeginsRun}
use Rattle.link.specs.Imaging.{image_call, words_in, size_in, WritesImage, wrote_by}
use Rattle.handover.specs.Handover.{
  Main,
  lends,
  Step,
  inserts,
  switches,
  asks,
  revokes,
  creates,
  queries,
  Message,
  image,
  changes_sent,
  image_sent,
  Run,
  Above,
  Handed,
  Calls,
  no_run,
  then_run,
  then_no_run,
  then_call,
  then_image,
  acts_in,
  changes,
  all_message_words,
  changes_of,
  HadRun,
  presently,
  formerly,
  IsImageOf,
  MainIn,
}
use Rattle.handover.proofs.RecordableLaws.{Recorded, no-act, act-more, recorded-append, recorded-acted}
use Rattle.handover.proofs.CallLaws.{
  ImageOf,
  switches-recorded,
  insert-recorded,
  ask-recorded,
  revoke-recorded,
  create-recorded,
  image-made,
}
use Rattle.handover.proofs.MessageLaws.{
  changes-append,
  words_append,
  changes-sent,
  changes-sent-other,
  words-sent,
  no-image-sent,
  changes-image,
  words-image,
}
use Rattle.records.proofs.NumberedLaws.{numbered-append, numbered-length}

-- ---- one call

-- its acts are done, numbered on and written, and can be recorded
pub record Advances (run : ℕ) (a : Main) (acts : List Act) (wrote : List ℕ) (a' : Main) : Type 0 where
  pub memory : a'.memory ≡ do_acts a.memory acts
  pub number : a'.number ≡ a.number + length acts
  pub words : wrote ≡ all_words (numbered run a.number acts)
  pub recorded : Recorded run a.number (table_of a.memory) acts

sends-advance : {run : ℕ} {a a' : Main} {acts : List Act} {wrote w w' : List ℕ} {k : ℕ}
    → Sends (Linked run) acts (lends a w) (lends a' w') k → wrote ≡ take k w' → Recorded run a.number (table_of a.memory) acts
    → Advances run a acts wrote a'
unfolding begun sending.changes_of
sends-advance {run} {a} {acts = acts} {k = k} S e R = record {
  memory = S.memory;
  number = S.number ∙ ap (λ (j : ℕ). a.number + j) (numbered-length run a.number acts);
  words = e ∙ ap (take k) S.words ∙ take_at _ _ k (sym S.count);
  recorded = R;
}

pub step-advances : {run : ℕ} {a a' : Main} {acts : List Act} {wrote : List ℕ} → holds a.memory ≡ true → Step run a acts wrote a'
    → Advances run a acts wrote a'
step-advances {run} {a} h (inserts w kind p cwd w' r B C L e f) = rw e (sends-advance L.sends f (insert-recorded run (lends a w) h kind p cwd B C))
step-advances {run} {a} h (switches w v w' r L e f) = rw e (sends-advance L.sends f (switches-recorded run (lends a w) h v))
step-advances {run} {a} h (asks call w s what response w' s' r B C L e f) =
    rw e (sends-advance L.sends f (ask-recorded run (lends a w) h what B C call s response))
step-advances {run} {a} h (revokes w what w' r B C L e f) = rw e (sends-advance L.sends f (revoke-recorded run (lends a w) h what B C))
step-advances {run} {a} h (creates w c code list cwd w' c' r B C L e f) =
    rw e (sends-advance L.sends f (create-recorded run (lends a w) h c code list cwd B C))
step-advances {run} {a} h (queries mode d p cwd r q same e f) =
    rw (same, e, f) (unfold do_acts numbered all_words in record { memory = refl; number = omega arith; words = refl; recorded = no-act })

-- a call that makes an act was handed its run's own number
record Own (q run n : ℕ) (t : Table) (acts : List Act) : Type 0 where
  told : numbered run n acts ≡ numbered q n acts
  recorded : Recorded q n t acts

own-run : {q run n : ℕ} {t : Table} {acts : List Act} → Handed q run → Recorded run n t acts → Own q run n t acts
unfolding numbered
own-run H no-act = record { told = refl; recorded = no-act }
own-run {run = run} {n = n} {t = t} {acts = acts} H (act-more R A) =
    let e = H.own R.readable.of_run in
    let all : Recorded run n t acts = act-more R A in
    record { told = ap (λ (r : ℕ). numbered r n acts) e; recorded = subst (λ (r : ℕ). Recorded r n t acts) e all }

own-advances : {q run : ℕ} {a a' : Main} {acts : List Act} {wrote : List ℕ} → Handed q run → Advances run a acts wrote a' → Advances q a acts wrote a'
own-advances H W =
    let O = own-run H W.recorded in
    record { memory = W.memory; number = W.number; words = W.words ∙ ap all_words O.told; recorded = O.recorded }

-- ---- one image

-- the words that the call writes are the image's
pub image-wrote : {m : List ℕ} {run n : ℕ} {w w' : List ℕ} {r : ImageSent} → holds m ≡ true → WritesImage m run n w w' r
    → wrote_by r.outcome r.words w' ≡ words_in (image_call m run n w)
unfolding size_in words_in wrote_by outcome_of cause_of begun
image-wrote {m} {run} {n} {w} h W = rw (W.outcome, W.words, W.size, a-table m h) (by (image-made run n m w h))
  where
    by : {call : Result Image} → Hands (ImageOf m run n) call
        → wrote_by (outcome_of (cause_of call)) (image_size (table_of m)) (begun (words_in call) w) ≡ words_in call
    by stops = refl
    by (hands {x = i} I) = take_at (image_words i) _ _ (image-length i ∙ ap (λ (j : Image). image_size j.table) I.is)

-- ---- the beginning of a run

-- a table that is put is a fresh one, and memory is large enough for it
pub record Begun (m : List ℕ) (t : Table) : Type 0 where
  pub is : t ≡ fresh
  pub long : table_bytes ≤ length m

pub begin-hands : (m : List ℕ) (q : ℕ) → Hands (Begun m) (begin_call m q)
unfolding begin_call fresh_in
begin-hands m q =
    hands_then (hands-unless {P = Begun m} _ _ (λ e. record { is = refl; long = ltb-false _ _ (no-cause-head _ NoTable [] e) })) (λ t B.
    hands-unless _ _ (λ _. B))

pub begins : {m : List ℕ} {q n : ℕ} {a : Main} → BeginsRun m q n a.memory a.number (Ok tt) → MainIn a (record { number = q; acts = [] })
unfolding outcome_of cause_of put_in number_in apply_acts
begins {m} {q} {n} {a} W = by (begin-hands m q) W.outcome W.memory W.number
  where
    by : {call : Result Table} → Hands (Begun m) call → Ok tt ≡ outcome_of (cause_of call) → a.memory ≡ put_in call m → a.number ≡ number_in call n
        → MainIn a (record { number = q; acts = [] })
    by stops e f g = let z : ◌≡◌ {A = ℕ} 0 1 = cc in absurd (omega arith)
    by (hands {x = t} B) e f g =
        let L = left-put m a.memory fresh fresh-table B.long (rw B.is at f) in
        record { holding = L.holding; table = L.table; counted = g }

-- one that is refused changes nothing
refused-begin : {m : List ℕ} {q n : ℕ} {m' : List ℕ} {n' : ℕ} {cause : Refusal} → BeginsRun m q n m' n' (Err cause) → (m' ≡ m) × (n' ≡ n)
unfolding outcome_of cause_of put_in number_in
refused-begin {m} {q} {n} {m'} {n'} {cause} W = by (begin_call m q) W.outcome W.memory W.number
  where
    by : (call : Result Table) → Err cause ≡ outcome_of (cause_of call) → m' ≡ put_in call m → n' ≡ number_in call n → (m' ≡ m) × (n' ≡ n)
    by (Err c) e f g = (f, g)
    by (Ok t) e f g = let z : ◌≡◌ {A = ℕ} 0 1 = cc in absurd (omega arith)

-- ---- the acts of each run

module _ (r : Run) (runs : List Run) where
  acts-own : acts_in (r ∷ runs) r.number ≡ r.acts
  unfolding acts_in
  acts-own = rw (eq-eqb r.number r.number refl)

  -- a call adds to those of the present run
  acts-more : (new : List Act) (q : ℕ)
      → acts_in (record { number = r.number; acts = r.acts ++ new } ∷ runs) q ≡ acts_in (r ∷ runs) q ++ cond (eqb r.number q) new []
  unfolding acts_in
  acts-more new q = go (eqb r.number q)
    where
      go : (b : Bool) → cond b (r.acts ++ new) (acts_in runs q) ≡ cond b r.acts (acts_in runs q) ++ cond b new []
      go true = refl
      go false = sym (append-nil (acts_in runs q))

acts-above : (q : ℕ) (runs : List Run) → Above q runs → acts_in runs q ≡ []
unfolding acts_in
acts-above q [] A = refl
acts-above q (r ∷ runs) A =
    let below = A.each r (Memᴰ.head refl) in
    rw (ne_eqb r.number q (λ e. omega arith)) (acts-above q runs (record { each = λ x m. A.each x (Memᴰ.tail m) }))

-- a run that begins adds none
acts-new : {q : ℕ} {runs : List Run} → Above q runs → (p : ℕ) → acts_in (record { number = q; acts = [] } ∷ runs) p ≡ acts_in runs p
unfolding acts_in
acts-new {q} {runs} A p = go (eqb q p) refl
  where
    go : (b : Bool) → eqb q p ≡ b → cond b [] (acts_in runs p) ≡ acts_in runs p
    go true e = rw (← eqb-true q p e) (sym (acts-above q runs A))
    go false e = refl

-- ---- any list of calls

-- the main's memory and number, in its present run
pub data Present (a : Main) : List Run → Type 0 where
  no-run : Present a []
  in-run : {r : Run} {runs : List Run} → MainIn a r → Present a (r ∷ runs)

pub present-in : {a : Main} {r : Run} {runs : List Run} → Present a (r ∷ runs) → MainIn a r
present-in (in-run M) = M

-- the acts of run q can be recorded, and their changes are those that were sent of it
pub record RunIs (q : ℕ) (acts : List Act) (sent : List Message) : Type 0 where
  pub recorded : Recorded q 0 fresh acts
  pub records : changes_of q sent ≡ changes q acts

-- an image that was sent
pub record Imaged (runs : List Run) (i : Image) : Type 0 where
  pub is : IsImageOf runs i
  pub writable : Writable i

pub record MainIs (a : Main) (runs : List Run) (sent : List Message) (wrote : List ℕ) : Type 0 where
  pub present : Present a runs
  pub each : (q : ℕ) → RunIs q (acts_in runs q) sent
  pub images : (i : Image) → Memᴰ (image i) sent → Imaged runs i
  pub written : wrote ≡ all_message_words sent

-- a call leaves the runs that the main had
had-still : {q : ℕ} {r : Run} {runs : List Run} (new : List Act) → HadRun q (r ∷ runs) → HadRun q (record { number = r.number; acts = r.acts ++ new } ∷ runs)
had-still new (presently e) = presently e
had-still new (formerly H) = formerly H

imaged-more : {runs all : List Run} {i : Image} (new : List Act) → (HadRun i.run runs → HadRun i.run all)
    → acts_in all i.run ≡ acts_in runs i.run ++ new
    → Imaged runs i → Imaged all i
imaged-more {runs} {all} {i} new had e I = record {
  is = record {
    run = had I.is.run;
    made = rw e (omega (arith, I.is.made, length-append (acts_in runs i.run) new));
    table = rw (e, take-append-le i.number (acts_in runs i.run) new I.is.made) I.is.table;
  };
  writable = I.writable;
}

-- a run begins
main-begins : {a a' : Main} {q : ℕ} {runs : List Run} {sent : List Message} {wrote : List ℕ} → MainIs a runs sent wrote → Above q runs
    → MainIn a' (record { number = q; acts = [] }) → MainIs a' (record { number = q; acts = [] } ∷ runs) sent wrote
main-begins {runs = runs} M A N = record {
  present = in-run N;
  each = λ p. rw (acts-new A p) (M.each p);
  images = λ i m. imaged-more [] formerly (acts-new A i.run ∙ sym (append-nil (acts_in runs i.run))) (M.images i m);
  written = M.written;
}

present-same : {a a' : Main} {runs : List Run} → (a'.memory ≡ a.memory) × (a'.number ≡ a.number) → Present a runs → Present a' runs
present-same e no-run = no-run
present-same e (in-run {r = r} M) =
    in-run {r = r} (record { holding = rw e.0 M.holding; table = rw e.0 M.table; counted = e.1 ∙ M.counted })

-- a call, whose acts are the run's own
module _ {a a' : Main} {r : Run} {runs : List Run} {sent : List Message} {wrote words : List ℕ} {new : List Act} (M : MainIs a (r ∷ runs) sent wrote)
    (W : Advances r.number a new words a') where
  here : a.number ≡ 0 + length r.acts
  here = omega (arith, (present-in M.present).counted)

  abbrev told : List Message
  told = changes_sent (numbered r.number a.number new)

  present-more : MainIn a' (record { number = r.number; acts = r.acts ++ new })
  present-more =
      let P = present-in M.present in
      let A = recorded-acted P.holding refl W.recorded in
      record {
        holding = ap holds W.memory ∙ A.holding;
        table = ap table_of W.memory ∙ A.table ∙ ap (λ (t : Table). apply_acts t new) P.table ∙ sym (applied-append fresh r.acts new);
        counted = W.number ∙ omega (arith, P.counted, length-append r.acts new);
      }

  own-more : RunIs r.number r.acts sent → RunIs r.number (r.acts ++ new) (sent ++ told)
  own-more R = record {
    recorded = recorded-append R.recorded (rw (here, (present-in M.present).table) at W.recorded);
    records =
        rw (changes-append r.number sent told, changes-sent r.number a.number new, R.records, here, numbered-append r.number 0 r.acts new);
  }

  other-more : {q : ℕ} {acts : List Act} → (r.number ≡ q → ⊥) → RunIs q acts sent → RunIs q acts (sent ++ told)
  other-more {q} ne R = record {
    recorded = R.recorded;
    records = rw (changes-append q sent told, changes-sent-other q r.number a.number new ne, append-nil) R.records;
  }

  each_more : (q : ℕ) → RunIs q (acts_in (record { number = r.number; acts = r.acts ++ new } ∷ runs) q) (sent ++ told)
  unfolding acts_in
  each_more q = go (eqb r.number q) refl (M.each q)
    where
      go : (b : Bool) → eqb r.number q ≡ b → RunIs q (cond b r.acts (acts_in runs q)) sent
          → RunIs q (cond b (r.acts ++ new) (acts_in runs q)) (sent ++ told)
      go true e R = let same = eqb-true r.number q e in rw (← same) (own-more (rw (← same) at R))
      go false e R = other-more (eqb-false r.number q e) R

  main-more : MainIs a' (record { number = r.number; acts = r.acts ++ new } ∷ runs) (sent ++ told) (wrote ++ words)
  main-more = record {
    present = in-run present-more;
    each = each_more;
    images = λ i m. imaged-more _ (had-still new) (acts-more r runs new i.run)
        (⊎_elim (M.images i) (λ x. absurd (no-image-sent _ x)) (Memᴰ.append_cases sent m));
    written = rw (M.written, W.words, words_append sent told, words-sent (numbered r.number a.number new));
  }

-- an image call, handed the run's own number unless it is refused
module _ {a : Main} {r : Run} {runs : List Run} {sent : List Message} {wrote : List ℕ} {run : ℕ} (M : MainIs a (r ∷ runs) sent wrote) (B : Bytes a.memory)
    (H : Handed r.number run) where
  imaged : {i : Image} → ImageOf a.memory run a.number i → Imaged (r ∷ runs) i
  imaged I =
      let P = present-in M.present in
      let acts : acts_in (r ∷ runs) run ≡ r.acts = ap (acts_in (r ∷ runs)) (H.own I.known) ∙ acts-own r runs in
      rw I.is (record {
        is = record {
          run = presently (sym (H.own I.known));
          made = rw acts (omega (arith, P.counted));
          table = rw (acts, P.counted, take-length r.acts) P.table;
        };
        writable = record { of_run = I.known; few = I.few; within = valid-of a.memory P.holding; bytes = entries-bytes a.memory B };
      })

  main-image : {call : Result Image} → Hands (ImageOf a.memory run a.number) call
      → MainIs a (r ∷ runs) (sent ++ image_sent call) (wrote ++ words_in call)
  unfolding image_sent words_in
  main-image stops = rw (append-nil sent, append-nil wrote) M
  main-image (hands {x = i} I) = record {
    present = M.present;
    each = λ q. record {
      recorded = (M.each q).recorded;
      records = rw (changes-append q sent (image i ∷ []), changes-image q (Ok i), append-nil) (M.each q).records;
    };
    images = λ j m. ⊎_elim (M.images j) (λ x. last j (Memᴰ.eq_of_singleton x)) (Memᴰ.append_cases sent m);
    written = rw (M.written, words_append sent (image i ∷ []), words-image (Ok i));
  }
    where
      last : (j : Image) → image j ≡ image i → Imaged (r ∷ runs) j
      last j e = let same : j ≡ i = cc in rw same (imaged I)

pub main-is : {a : Main} {runs : List Run} {sent : List Message} {wrote : List ℕ} → Calls a runs sent wrote → MainIs a runs sent wrote
unfolding acts_in numbered all_message_words changes_of
main-is no_run = record {
  present = no-run;
  each = λ q. record { recorded = no-act; records = refl };
  images = λ i m. absurd (Memᴰ.not-nil m);
  written = refl;
}
main-is (then_run R m n q A W e) = rw e (main-begins (main-is R) A (begins W))
main-is (then_no_run R q cause W) =
    let M = main-is R in
    record { present = present-same (refused-begin W) M.present; each = M.each; images = M.images; written = M.written }
main-is (then_call R run H S e f g) =
    let M = main-is R in
    let W = step-advances (present-in M.present).holding S in
    rw (e, f, g, (own-run H W.recorded).told) (main-more M (own-advances H W))
main-is (then_image {a = a} R run H w w' r B W e f) =
    let M = main-is R in
    let held = (present-in M.present).holding in
    rw (e, f, image-wrote held W) (main-image M B H (image-made run a.number a.memory w held))
