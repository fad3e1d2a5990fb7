-- What the runs of `Witness.antt` and `Wrong.antt` are made of: each call has a next main, and what goes on from a main or a standby whose table is known. The
-- proof of demand 3 does not use it.
use Rattle.std.specs.Prelude.{Some, Ok, Err}
use Prim.Native.Nat.{ℕ, zero, suc, ◌+◌, ◌*◌, ◌≤◌, ◌<◌}
use mathlib.Core.Path.{◌≡◌, refl, sym, ap, ◌∙◌}
use mathlib.Core.List.Memᴰ
use mathlib.Core.List.{List, [], ◌∷◌, ◌++◌, Memᴰ}
use mathlib.Core.Bool.{Bool, true}
use native.Mathlib.Omega.{arith}
use lib.ListN.{length, take}
use lib.Seq.{take-append_seam}
use borrow.Author.Tests.{le-ltb}
use Rattle.refusals.specs.declared.Refusal.{Refusal}
use Rattle.refusals.specs.declared.Refusal.TheVariants.{NoTable}
use Rattle.refusals.specs.Refusals.{when, first_cause, Result, and_then, unless, cause_of}
use Rattle.paths.specs.declared.Descriptor.{Descriptor}
use Rattle.paths.specs.Components.{Bytes}
use Rattle.paths.specs.Copying.{begun, overwrite}
use Rattle.paths.proofs.ByteLaws.{bytes-none, bytes-cons}
use Rattle.table.specs.Tables.{Table, fresh, is_table}
use Rattle.table.specs.Acts.{Act, apply_act, apply_acts}
use Rattle.table.specs.Memory.{table_bytes, encode, encode_all, put, do_act, do_acts}
use Rattle.table.specs.Carrying.{outcome_of}
use Rattle.table.specs.Calls.{table_in}
use Rattle.table.proofs.CallLaws.{makes-fresh}
use Rattle.table.proofs.Puts.{long_of, left-put}
use Rattle.table.proofs.TableLaws.{fresh-table}
use Rattle.table.proofs.StandingLaws.{all_fit, Stands, stands-then, table-in, space_of, table_memory, memory-stands}
use Rattle.records.specs.Numbers.{is_run, record_space}
use Rattle.records.specs.Records.{Change, change_words, numbered, all_words, read_change}
use Rattle.records.proofs.RecordLaws.{read_back}
use Rattle.images.specs.Images.{Image, image_words, image_size, read_image}
use Rattle.images.proofs.ImageLaws.{image-read}
use Rattle.link.specs.declared.Link.TheVariants.{Linked}
use Rattle.link.specs.declared.ImageSent.{ImageSent}
use Rattle.link.specs.Linking.{at_least_one, lacks_room, room_in, single_act}
use Rattle.link.specs.Sending.{changes_of, Sends}
use Rattle.link.specs.Beginning.{begin_call, BeginsRun}
use Rattle.link.specs.Imaging.{image_call, words_in, size_in, WritesImage}
use Rattle.link.proofs.LinkLaws.{room-long}
use Rattle.link.proofs.BeginningLaws.{begins-refused, begins-fresh}
use Rattle.walk.specs.declared.PermissionState.{PermissionState}
use Rattle.walk.specs.Calls.{query_call}
use Rattle.deciding.specs.declared.Call.{Call}
use Rattle.deciding.specs.Decisions.{Decision}
use Rattle.items.specs.Items.{ItemList}
use Rattle.calls.specs.Calls.{answer_in, decided_acts, About, ask_call, text_due, revoke_call}
use Rattle.calls.specs.Changes.{switches_call, insert_call}
use Rattle.calls.proofs.AnswerLaws.{
  asked_by,
  asked-state,
  asked-told,
  asked-text,
  asked-words,
  revoked_by,
  revoked-state,
  revoked-words,
  sent_by,
  sent-cause,
  sent-size,
}
use Rattle.child.specs.Calls.{Creation, child_call, refusal_in, times_asked, child_acts, child_after}
use Rattle.standby.specs.declared.Numbers.{Numbers}
use Rattle.standby.specs.declared.Arrival.{Arrival}
use Rattle.standby.specs.Arriving.{conflict, standby_in, well_formed, Left, left_by, Comes}
use Rattle.standby.specs.Loading.{is_image}
use Rattle.handover.specs.Handover.{
  IsFresh,
  Main,
  lends,
  inserts,
  switches,
  asks,
  revokes,
  creates,
  queries,
  Message,
  changed,
  image,
  changes_sent,
  image_sent,
  Run,
  Above,
  Handed,
  Calls,
  no_run,
  then_run,
  then_no_run,
  then_call,
  then_image,
  all_message_words,
  Promise,
  Arrivals,
  fresh_standby,
  then_record,
  then_load,
  MainIn,
}
use Rattle.handover.specs.Witness.{
  done,
  Line,
  beginning,
  inserting,
  switching,
  asking,
  revoking,
  creating,
  querying,
  imaging,
  line_of,
  script,
  after,
  Steps,
}
use Rattle.handover.specs.Wrong.{Taking, arrival_by, By, Bringing, loading_by, LoadBy}
use Rattle.handover.proofs.MessageLaws.{words_append, words-sent, words-image}
use Rattle.records.proofs.NumberedLaws.{numbered-length}
use Rattle.handover.proofs.MainLaws.{image-wrote, present-in, main-is}
use Rattle.handover.proofs.BytesLaws.{begin-bytes, step-bytes}
use Rattle.handover.proofs.SentLaws.{Genuine, change-is, image-is, genuine}

-- ---- each promise says all that its call leaves, so that any call on any main has a step, whatever it is lent, handed and answered; `call` is what the
-- call comes to

abbrev sent : ℕ → Main → List Act → List ℕ
sent run a acts = all_words (numbered run a.number acts)

-- the words that stand at the start of a space
at-start : (x w : List ℕ) → x ≡ take (length x) (begun x w)
unfolding begun
at-start x w = sym (take-append_seam x _)

module _ (run : ℕ) (a : Main) (w : List ℕ) where
  -- the record space after acts, and how many words their records take
  abbrev space : List Act → List ℕ
  space acts = begun (sent run a acts) w

  abbrev size : List Act → ℕ
  size acts = length (sent run a acts)

  size-none : 0 ≡ size []
  unfolding numbered all_words
  size-none = refl

  sends-left : {made : List Act} (acts : List Act) → made ≡ acts → Sends (Linked run) made (lends a w) (lends (after a acts) (space acts)) (size acts)
  unfolding changes_of
  sends-left acts e = rw e (record {
    memory = refl;
    number = ap (λ (k : ℕ). a.number + k) (sym (numbered-length run a.number acts));
    words = refl;
    count = refl;
  })

  pub insert-steps : (kind : ℕ) (p cwd : List ℕ) → Bytes p → Bytes cwd → (call : Result Act) → insert_call (Linked run) (lends a w) kind p cwd ≡ call
      → Steps run a (single_act call) (inserting run kind p (outcome_of (cause_of call)))
  unfolding line_of
  insert-steps kind p cwd b c call e =
      let acts = single_act call in
      record {
        step =
            inserts w kind p cwd (space acts) (sent_by size size-none call) b c
            (record { outcome = rw e (sent-cause size size-none call); sends = rw (sent-size size size-none call) (sends-left acts (rw e)) }) (rw e)
            (rw (sent-size size size-none call) (at-start _ _));
        is = rw (sent-cause size size-none call);
      }

  pub switches-steps : (v : ℕ) (call : Result Act) → switches_call (Linked run) (lends a w) v ≡ call
      → Steps run a (single_act call) (switching run v (outcome_of (cause_of call)))
  unfolding line_of
  switches-steps v call e =
      let acts = single_act call in
      record {
        step =
            switches w v (space acts) (sent_by size size-none call)
            (record { outcome = rw e (sent-cause size size-none call); sends = rw (sent-size size size-none call) (sends-left acts (rw e)) }) (rw e)
            (rw (sent-size size size-none call) (at-start _ _));
        is = rw (sent-cause size size-none call);
      }

  pub ask-steps : (kind : Call) (s : List ℕ) (what : About) (response : ℕ) → Bytes what.given → Bytes what.cwd → (call : Result Decision)
      → ask_call kind (Linked run) (lends a w) s what response ≡ call
      → Steps run a (decided_acts call) (asking run kind what.descriptor what.given response (answer_in call))
  unfolding line_of
  ask-steps kind s what response b c call e =
      let acts = decided_acts call in
      let text = text_due call what in
      record {
        step =
            asks kind w s what response (space acts) (begun text s) (asked_by size size-none call what) b c
            (record {
              answers = rw e (record {
                answer = asked-state size size-none what call;
                asked = asked-told size size-none what call;
                size = asked-text size size-none what call;
                space = refl;
              });
              sends = rw (asked-words size size-none what call) (sends-left acts (rw e));
            }) (rw e) (rw (asked-words size size-none what call) (at-start _ _));
        is = rw (asked-state size size-none what call);
      }

  pub revoke-steps : (what : About) → Bytes what.given → Bytes what.cwd → (call : Result Decision) → revoke_call (Linked run) (lends a w) what ≡ call
      → Steps run a (decided_acts call) (revoking run what.descriptor what.given (answer_in call))
  unfolding line_of
  revoke-steps what b c call e =
      let acts = decided_acts call in
      record {
        step =
            revokes w what (space acts) (revoked_by size size-none call) b c
            (record { answer = rw e (revoked-state size size-none call); sends = rw (revoked-words size size-none call) (sends-left acts (rw e)) }) (rw e)
            (rw (revoked-words size size-none call) (at-start _ _));
        is = rw (revoked-state size size-none call);
      }

  pub child-steps : (c : List ℕ) (code : ℕ) (list : ItemList) (cwd : List ℕ) → Bytes list.bytes → Bytes cwd → (call : Result Creation)
      → child_call (Linked run) (lends a w) c code list cwd ≡ call
      → Steps run a (child_acts call) (creating run code list.bytes list.ends list.responses (outcome_of (refusal_in call)))
  unfolding line_of
  child-steps c code list cwd b d call e =
      let acts = child_acts call in
      record {
        step =
            creates w c code list cwd (space acts) (child_after call c)
            (record { made = record { outcome = outcome_of (refusal_in call); asked = times_asked call }; words = size acts }) b d
            (record { creates = record { outcome = rw e; asked = rw e; child = rw e }; sends = sends-left acts (rw e) }) (rw e) (at-start _ _);
        is = refl;
      }

pub query-steps : (run : ℕ) (a : Main) (mode : ℕ) (d : Descriptor) (p cwd : List ℕ) (r : Result PermissionState) → r ≡ query_call a.memory mode d p cwd
    → Steps run a [] (querying mode d p r)
unfolding line_of do_acts numbered all_words
query-steps run a mode d p cwd r e =
    let same : a.number + 0 ≡ a.number = omega arith in
    record { step = queries mode d p cwd r e (λ i. record { memory = a.memory; number = same i }) refl refl; is = refl }

-- so has the image call
abbrev answered : List ℕ → ℕ → ℕ → List ℕ → ImageSent
answered m run n w = record { outcome = outcome_of (cause_of (image_call m run n w)); words = size_in (table_in m) }

pub writes-image : (m : List ℕ) (run n : ℕ) (w : List ℕ) → WritesImage m run n w (begun (words_in (image_call m run n w)) w) (answered m run n w)
writes-image m run n w = record { outcome = refl; words = refl; size = refl }

-- ---- a main goes on

-- calls with these runs, messages and lines
pub record Course (runs : List Run) (sent : List Message) (lines : List Line) : Type 0 where
  pub main : Main
  pub calls : Calls main runs sent (all_message_words sent)
  pub said : script calls ≡ lines
  pub bytes : Bytes main.memory

pub course-none : Course [] [] []
unfolding script all_message_words
course-none = record { main = record { memory = []; number = 0 }; calls = no_run; said = refl; bytes = bytes-none }

module _ {runs : List Run} {sent : List Message} {lines : List Line} (C : Course runs sent lines) where
  -- a run begins, in the memory m
  pub course-begins : (q : ℕ) {m : List ℕ} → table_bytes ≤ length m → Bytes m → is_run q ≡ true → Above q runs
      → Course (record { number = q; acts = [] } ∷ runs) sent (lines ++ beginning q done ∷ [])
  unfolding script
  course-begins q {m} long b known above =
      let B : BeginsRun m q 0 (put fresh m) 0 done = unfold put encode encode_all overwrite in begins-fresh long known (makes-fresh long refl) in
      record {
        main = record { memory = put fresh m; number = 0 };
        calls = then_run C.calls m 0 q above B refl;
        said = rw C.said;
        bytes = begin-bytes b B;
      }

  -- a beginning that is refused
  pub course-refuses : (q : ℕ) (cause : Refusal) → begin_call C.main.memory q ≡ Err cause
      → Course runs sent (lines ++ beginning q (Err cause) ∷ [])
  unfolding script
  course-refuses q cause e =
      record { main = C.main; calls = then_no_run C.calls q cause (begins-refused e); said = rw C.said; bytes = C.bytes }

-- the first run number, and one above that of one run
pub above-none : {q : ℕ} → Above q []
above-none = record { each = λ r m. absurd (Memᴰ.not-nil m) }

pub above-one : {q : ℕ} (r : Run) → r.number < q → Above q (r ∷ [])
above-one r h = record { each = λ s m. omega (arith, ap (λ (x : Run). x.number) (Memᴰ.eq_of_singleton m)) }

-- a call may be handed its run's number
pub own-number : (q : ℕ) → Handed q q
own-number q = record { own = λ known. refl }

module _ {r : Run} {runs : List Run} {sent : List Message} {lines : List Line} (C : Course (r ∷ runs) sent lines) where
  main-in : MainIn C.main r
  main-in = present-in (main-is C.calls).present

  pub stands-in : Stands C.main.memory (apply_acts fresh r.acts)
  stands-in = record { holding = main-in.holding; table = main-in.table }

  pub number_in : C.main.number ≡ length r.acts
  number_in = main-in.counted

  pub course-then : {run : ℕ} {new : List Act} {line : Line} → Handed r.number run → Steps run C.main new line
      → Course (record { number = r.number; acts = r.acts ++ new } ∷ runs) (sent ++ changes_sent (numbered run (length r.acts) new)) (lines ++ line ∷ [])
  unfolding script
  course-then {run} {new} H S =
      let told = changes_sent (numbered run (length r.acts) new) in
      record {
        main = after C.main new;
        calls = then_call {told = sent ++ told} {written = all_message_words (sent ++ told)} C.calls run H S.step refl (rw number_in)
            (rw (words_append sent told, words-sent (numbered run (length r.acts) new), number_in));
        said = rw (C.said, S.is);
        bytes = step-bytes C.bytes main-in.holding S.step;
      }

  -- an image call that comes to this
  pub course-image : {run : ℕ} → Handed r.number run → (w : List ℕ) (call : Result Image) → image_call C.main.memory run C.main.number w ≡ call
      → Course (r ∷ runs) (sent ++ image_sent call) (lines ++ imaging run (length w) (outcome_of (cause_of call)) (image_size (apply_acts fresh r.acts)) ∷ [])
  unfolding script size_in
  course-image {run} H w call e =
      let W = writes-image C.main.memory run C.main.number w in
      record {
        main = C.main;
        calls = then_image {told = sent ++ image_sent call} {written = all_message_words (sent ++ image_sent call)} C.calls run H w _ _ C.bytes W (rw e)
            (rw (words_append sent (image_sent call), image-wrote main-in.holding W, e, words-image call));
        said = rw (C.said, e, table-in stands-in);
        bytes = C.bytes;
      }

-- ---- a standby goes on

-- the numbers n, h, run and highest
abbrev pub at : ℕ → ℕ → ℕ → ℕ → Numbers
at n h run highest = record { n = n; h = h; run = run; highest = highest }

-- arrivals of what was sent, with these answers, after which memory holds the table t
pub record Followed (Arriving Loading : Promise) (sent came : List Message) (answers : List (Result Arrival)) (t : Table) (s : Numbers) : Type 0 where
  pub memory : List ℕ
  pub arrivals : Arrivals Arriving Loading sent (record { memory = memory; numbers = s }) came answers
  pub stands : Stands memory t

pub followed-fresh : {Arriving Loading : Promise} {sent : List Message} {m : List ℕ} → IsFresh m
    → Followed Arriving Loading sent [] [] fresh (at 0 0 0 0)
followed-fresh {m = m} f = record { memory = m; arrivals = fresh_standby f refl; stands = record { holding = f.holding; table = f.table } }

-- what an arrival does to memory, and to the table in it: nothing, an act, an act on a fresh table, or an image's table in its place
pub data Effect : Type 0 where
  untouched : Effect
  acting : Act → Effect
  clearing : Act → Effect
  replacing : Table → Effect

unfoldable pub memory_by : Effect → List ℕ → List ℕ
memory_by untouched m = m
memory_by (acting act) m = do_act m act
memory_by (clearing act) m = do_act (put fresh m) act
memory_by (replacing u) m = put u m

unfoldable pub table_by : Effect → Table → Table
table_by untouched t = t
table_by (acting act) t = apply_act t act
table_by (clearing act) t = apply_act fresh act
table_by (replacing u) t = u

-- whether it leaves a table
unfoldable pub fits_by : Effect → Table → Bool
fits_by untouched t = true
fits_by (acting act) t = all_fit t (act ∷ [])
fits_by (clearing act) t = all_fit fresh (act ∷ [])
fits_by (replacing u) t = is_table u

put-stands : (u : Table) {m : List ℕ} {t : Table} → Stands m t → is_table u ≡ true → Stands (put u m) u
put-stands u {m} S v = let L = left-put m _ u v (long_of m S.holding) refl in record { holding = L.holding; table = L.table }

stands_by : {m : List ℕ} {t : Table} → Stands m t → (x : Effect) → fits_by x t ≡ true → Stands (memory_by x m) (table_by x t)
unfolding memory_by table_by fits_by do_acts apply_acts
stands_by S untouched f = S
stands_by S (acting act) f = stands-then S (act ∷ []) f
stands_by S (clearing act) f = stands-then (put-stands fresh S fresh-table) (act ∷ []) f
stands_by S (replacing u) f = put-stands u S f

-- the table that arrivals meet
abbrev standing : Table → Numbers → Result Table
standing t s = unless (first_cause (when (conflict s) NoTable ∷ [])) t

standing-is : {m : List ℕ} {t : Table} → Stands m t → (s : Numbers) → standby_in m s ≡ standing t s
unfolding standby_in first_cause
standing-is S s = rw (S.holding, S.table)

-- what a change, and what an image, comes to in memory m
abbrev pub next : Taking → Table → List ℕ → Numbers → Change → Result Left
next taking t m s c = and_then (standing t s) (λ t. taking t m s c)

abbrev pub next_image : Bringing → Table → List ℕ → Numbers → Image → Result Left
next_image bringing t m s i = and_then (standing t s) (λ t. Ok (bringing m s i))

-- in whatever memory, the numbers s become s', with this effect and this answer
abbrev pub Leaves : (List ℕ → Result Left) → Numbers → Effect → Result Arrival → Numbers → Type 0
Leaves call s x r s' = (m : List ℕ) → left_by (call m) m s ≡ record { answer = r; memory = memory_by x m; numbers = s' }

leaves-comes : (call : List ℕ → Result Left) {s s' : Numbers} (x : Effect) {r : Result Arrival} → Leaves call s x r s'
    → (m : List ℕ) {given : Result Left} → given ≡ call m → Comes given m s (memory_by x m) s' r
leaves-comes call {s} x L m e =
    let is = sym (ap (λ (y : Result Left). left_by y m s) e ∙ L m) in
    record { answer = ap (λ (l : Left). l.answer) is; memory = ap (λ (l : Left). l.memory) is; numbers = ap (λ (l : Left). l.numbers) is }

-- what was sent reads back
change-legible : {runs : List Run} {c : Change} → Genuine runs (changed c) → read_change (change_words c) ≡ Some c
change-legible {c = c} (change-is k C) = read_back c C.readable

image-legible : {runs : List Run} {i : Image} → Genuine runs (image i) → read_image (image_words i) ≡ Some i
image-legible (image-is I) = image-read I.writable

module _ {runs : List Run} {sent : List Message} {lines : List Line} (C : Course runs sent lines)
    {came : List Message} {answers : List (Result Arrival)} {t : Table} {s : Numbers} where
  pub followed-record : (taking : Taking) {Loading : Promise} (F : Followed (By taking) Loading sent came answers t s) {c : Change} → Memᴰ (changed c) sent
      → (x : Effect) {r : Result Arrival} {s' : Numbers} → Leaves (λ m. next taking t m s c) s x r s' → fits_by x t ≡ true
      → Followed (By taking) Loading sent (came ++ changed c ∷ []) (answers ++ r ∷ []) (table_by x t) s'
  followed-record taking F {c} member x L f = record {
    memory = memory_by x F.memory;
    arrivals = then_record F.arrivals member (leaves-comes (λ m. next taking t m s c) x L F.memory is) refl refl;
    stands = stands_by F.stands x f;
  }
    where
      is : arrival_by taking F.memory (change_words c) s ≡ next taking t F.memory s c
      is = unfold well_formed and_then in rw (standing-is F.stands s, change-legible (genuine (main-is C.calls) (changed c) member))

  pub followed-image : (bringing : Bringing) {Arriving : Promise} (F : Followed Arriving (LoadBy bringing) sent came answers t s) {i : Image}
      → Memᴰ (image i) sent → (x : Effect) {r : Result Arrival} {s' : Numbers} → Leaves (λ m. next_image bringing t m s i) s x r s' → fits_by x t ≡ true
      → Followed Arriving (LoadBy bringing) sent (came ++ image i ∷ []) (answers ++ r ∷ []) (table_by x t) s'
  followed-image bringing F {i} member x L f = record {
    memory = memory_by x F.memory;
    arrivals = then_load F.arrivals member (leaves-comes (λ m. next_image bringing t m s i) x L F.memory is) refl refl;
    stands = stands_by F.stands x f;
  }
    where
      is : loading_by bringing F.memory (image_words i) s ≡ next_image bringing t F.memory s i
      is = unfold is_image and_then in rw (standing-is F.stands s, image-legible (genuine (main-is C.calls) (image i) member))

-- ---- what is lent

-- record space for k items
pub room-linked : (k run : ℕ) (w : List ℕ) → record_space * at_least_one k ≤ length w → room_in k (Linked run) w ≡ Ok w
unfolding lacks_room
room-linked k run w h = room-long k (Linked run) w (le-ltb (length w) (record_space * at_least_one k) h)

pub bytes-space : (n : ℕ) → Bytes (space_of n)
unfolding space_of
bytes-space zero = bytes-none
bytes-space (suc n) = bytes-cons (omega arith) (bytes-space n)

pub is-fresh : IsFresh (table_memory fresh)
is-fresh = let S = memory-stands fresh fresh-table in record { holding = S.holding; table = S.table }
