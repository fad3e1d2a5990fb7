-- Laws of reading an image: the answer at each way out of the code.
use Rattle.refusals.proofs.CauseLaws.{Some-injective}
use Rattle.std.specs.Prelude.{Option, None, Some}
use Prim.Native.Nat.{ℕ, suc, ◌+◌, ◌-◌, ◌*◌, ◌≤◌, ◌<◌}
use mathlib.Core.Path.{◌≡◌, refl, sym, ap, ◌∙◌}
use mathlib.Core.List.{List, [], ◌∷◌}
use mathlib.Core.Bool.{Bool, true, false, ◌&&◌, cond}
use native.Mathlib.Nat.{add-zero, zero-add, sub-zero, add_assoc}
use native.Mathlib.Omega.{arith}
use lib.ListN.{length, drop, length-drop, length-append, drop_of_length-le}
use lib.Seq.{drop-drop, drop_at}
use lib.Dec.{eqb, leb}
use borrow.Author.Tests.{eq-eqb, ne_eqb, le-leb, lt-leb}
use Rattle.std.proofs.Common.{inl, inr}
use Rattle.std.proofs.lemmas.Bool.{cases_lt}
use Rattle.paths.specs.Resolving.{max_path}
use Rattle.table.specs.declared.Kind.{Kind}
use Rattle.table.specs.Entries.{Entry}
use Rattle.table.specs.Tables.{max_entries, max_path_bytes, max_switches, path_bytes, is_entry, every, marks_of, marked, is_table}
use Rattle.table.specs.Memory.{kind_from}
use Rattle.table.proofs.ScanningLaws.{marks_after, marks-after}
use Rattle.table.proofs.BitLaws.{marked-small}
use Rattle.records.specs.declared.PathRead.{PathRead}
use Rattle.records.specs.declared.words.WordRead.{WordRead}
use Rattle.records.specs.declared.words.Front.{Front}
use Rattle.records.specs.Records.{number_bits, path_words, Read, bytes_from, if_resolved}
use Rattle.records.specs.Words.{first_word, read_at, front_at}
use Rattle.records.specs.Steps.{run_of, path_answer, path_into, ReadsPath}
use Rattle.records.proofs.WordLaws.{from_place, no_word, Stands, stands, of-run, run_alone, front-headed}
use Rattle.records.proofs.RecordLaws.{path-short}
use Rattle.records.proofs.ReadingLaws.{no-run-word}
use Rattle.images.specs.declared.EntryRead.{EntryRead}
use Rattle.images.specs.declared.ImageRead.{ImageRead}
use Rattle.images.specs.Images.{Image, entry_words, is_number_word, is_table_word, switches_bits, marks_bits, count_bits, kind_bits, size_bits, is_entry_word, with_kind, read_entry, with_entry, then_entries, read_entries, image_if, with_entries, read_table, read_image}
use Rattle.images.specs.Steps.{entry_answer, entry_into, ReadsEntry, is_end, are_entries, image_answer, IsRead}
use Rattle.images.proofs.WrittenLaws.{entry-written, entries-written}

and-off : (b : Bool) → b && false ≡ false
and-off true = refl
and-off false = refl

-- ---- an entry

reads-no-entry : {at : ℕ} {o : Option (Read Entry)} {space : List ℕ} → o ≡ None → ReadsEntry at o space None space
unfolding entry_answer entry_into
reads-no-entry e = record { answer = rw e; bytes = rw e }

pub entry-at-end : (ws : List ℕ) (at : ℕ) {r : WordRead} {space : List ℕ} → r ≡ read_at ws at → r.word ≡ None → ReadsEntry at (read_entry (drop at ws)) space None space
unfolding read_entry
entry-at-end ws at e f = reads-no-entry (ap read_entry (no_word (drop at ws) (sym (ap (λ (x : WordRead). x.word) e) ∙ f)))

-- an entry of a kind, by what reading its path answered
abbrev pub entry_by : Kind → Option PathRead → Option EntryRead
entry_by kind None = None
entry_by kind (Some p) = Some (record { kind = kind; size = p.size; end = p.end })

of-path : (at behind : ℕ) (kind : Kind) (o : Option (Read (List ℕ))) {space after : List ℕ} {p : Option PathRead} → behind ≡ at + 1 → ReadsPath behind o space p after
    → ReadsEntry at (with_kind kind o) space (entry_by kind p) after
unfolding with_kind entry_answer entry_into entry_words path_answer path_into
of-path at behind kind None e R = record { answer = rw R.answer; bytes = R.bytes }
of-path at behind kind (Some p) e R =
    let end : at + 1 + length (path_words p.value) ≡ at + suc (length (path_words p.value)) = omega arith in
    record { answer = rw (R.answer, e, end); bytes = R.bytes }

-- a word w stands where an entry begins
module _ {ws : List ℕ} {at w behind : ℕ} (S : Stands ws at w behind) where
  pub no-entry-word : {space : List ℕ} → is_entry_word w ≡ false → ReadsEntry at (read_entry (drop at ws)) space None space
  unfolding read_entry
  no-entry-word e = reads-no-entry (ap read_entry S.words ∙ rw e)

  pub entry-word : {space after : List ℕ} {p : Option PathRead} → is_entry_word w ≡ true
      → ReadsPath behind (if_resolved (bytes_from (size_bits w) (drop behind ws))) space p after
      → ReadsEntry at (read_entry (drop at ws)) space (entry_by (kind_from (kind_bits w)) p) after
  unfolding read_entry
  entry-word {space} {after} {p} e R =
      let read : read_entry (drop at ws) ≡ with_kind (kind_from (kind_bits w)) (if_resolved (bytes_from (size_bits w) (drop behind ws))) =
      ap read_entry S.words ∙ rw (e, S.next)
      in
      rw read (of-path at behind (kind_from (kind_bits w)) _ S.next R)

-- what the answer tells of the entry that was read
pub record Told (ws : List ℕ) (at : ℕ) (t : EntryRead) : Type 0 where
  pub entry : Entry
  pub read : read_entry (drop at ws) ≡ Some (record { value = entry; rest = drop t.end ws })
  pub is : is_entry entry ≡ true
  pub same_kind : t.kind ≡ entry.kind
  pub size : t.size ≡ length entry.path
  pub short : t.size ≤ max_path
  pub inside : t.end ≤ length ws

pub told : (ws : List ℕ) (at : ℕ) {t : EntryRead} → Some t ≡ entry_answer at (read_entry (drop at ws)) → Told ws at t
unfolding entry_answer is_entry entry_words
told ws at {t} e = go (read_entry (drop at ws)) refl e
  where
    go : (o : Option (Read Entry)) → read_entry (drop at ws) ≡ o → Some t ≡ entry_answer at o → Told ws at t
    go None f q = cc
    go (Some r) f q =
        let W = entry-written (drop at ws) f in
        let L = length (entry_words r.value) in
        let same = Some-injective _ _ q in
        let size : t.size ≡ length r.value.path = ap (λ (x : EntryRead). x.size) same in
        let ends : t.end ≡ at + L = ap (λ (x : EntryRead). x.end) same in
        let rest : r.rest ≡ drop t.end ws =
        sym (drop_at (entry_words r.value) r.rest L refl) ∙ ap (drop L) (sym W.words) ∙ drop-drop L at ws ∙ ap (λ (k : ℕ). drop k ws) (sym ends)
        in
        record {
          entry = r.value;
          read = f ∙ ap (λ (l : List ℕ). Some (record { value = r.value; rest = l })) rest;
          is = W.entry;
          same_kind = ap (λ (x : EntryRead). x.kind) same;
          size = size;
          short = omega (arith, path-short r.value.path W.entry);
          inside = omega (arith, length-drop at ws, ap length W.words ∙ length-append (entry_words r.value) r.rest);
        }

pub told-nothing : (at : ℕ) (o : Option (Read Entry)) → None ≡ entry_answer at o → o ≡ None
unfolding entry_answer
told-nothing at None e = refl
told-nothing at (Some r) e = cc

-- ---- entries one after another

-- `done` of `count` entries were read: what the next one makes of those that are left
module _ (count done : ℕ) (ws : List ℕ) where
  next-entries : done < count → read_entries (count - done) ws ≡ then_entries (read_entry ws) (λ rest. read_entries (count - (done + 1)) rest)
  unfolding read_entries
  next-entries h = let more : count - done ≡ suc (count - (done + 1)) = omega arith in rw more

  pub entries-stop : done < count → read_entry ws ≡ None → read_entries (count - done) ws ≡ None
  unfolding then_entries
  entries-stop h e = next-entries h ∙ rw e

  pub entries-go : {e : Entry} {rest : List ℕ} → done < count → read_entry ws ≡ Some (record { value = e; rest = rest })
      → read_entries (count - done) ws ≡ with_entry e (read_entries (count - (done + 1)) rest)
  unfolding then_entries
  entries-go h e = next-entries h ∙ rw e

  pub entries_none : count ≤ done → read_entries (count - done) ws ≡ Some (record { value = []; rest = ws })
  unfolding read_entries
  entries_none h = let none_left : count - done ≡ 0 = omega arith in rw none_left

-- ---- the test of all entries, with the path bytes and the marks met so far

unfoldable pub are_from : ℕ → ℕ → ℕ → Option (Read (List Entry)) → Bool
are_from total seen marks None = false
are_from total seen marks (Some r) = is_end r.rest && leb (total + path_bytes r.value) max_path_bytes && eqb marks (marks_after seen r.value)

from_start : (marks : ℕ) (o : Option (Read (List Entry))) → are_entries marks o ≡ are_from 0 0 marks o
unfolding are_entries are_from
from_start marks None = refl
from_start marks (Some r) = rw (marks-after r.value, zero-add (path_bytes r.value))

from-entry : (total seen marks : ℕ) (e : Entry) (o : Option (Read (List Entry)))
    → are_from total seen marks (with_entry e o) ≡ are_from (total + length e.path) (marked e.kind seen) marks o
unfolding are_from with_entry path_bytes marks_after
from-entry total seen marks e None = refl
from-entry total seen marks e (Some r) = rw (add_assoc total (length e.path) (path_bytes r.value))

-- `done` of `count` entries were tested
pub record Testing (ws : List ℕ) (from count marks at done total seen : ℕ) : Type 0 where
  pub goes : are_entries marks (read_entries count (drop from ws)) ≡ are_from total seen marks (read_entries (count - done) (drop at ws))
  pub inside : at ≤ length ws
  pub small : seen ≤ 7
  pub few : total ≤ max_path * done

pub testing-start : (ws : List ℕ) (from count marks : ℕ) → from ≤ length ws → Testing ws from count marks from 0 0 0
testing-start ws from count marks inside = record {
  goes = from_start marks _ ∙ ap (λ (n : ℕ). are_from 0 0 marks (read_entries n (drop from ws))) (sym (sub-zero count));
  inside = inside;
  small = omega arith;
  few = omega arith;
}

module _ {ws : List ℕ} {from count marks at done total seen : ℕ} (T : Testing ws from count marks at done total seen) where
  pub testing-stops : done < count → None ≡ entry_answer at (read_entry (drop at ws)) → false ≡ are_entries marks (read_entries count (drop from ws))
  unfolding are_from
  testing-stops h e = sym (T.goes ∙ ap (are_from total seen marks) (entries-stop count done (drop at ws) h (told-nothing at _ e)))

  pub testing-next : {t : EntryRead} {seen' : ℕ} → done < count → Told ws at t → seen' ≡ marked t.kind seen
      → Testing ws from count marks t.end (done + 1) (total + t.size) seen'
  testing-next h E m = record {
    goes =
        T.goes
        ∙ ap (are_from total seen marks) (entries-go count done (drop at ws) h E.read)
        ∙ from-entry total seen marks E.entry _
        ∙ rw (E.size, m, E.same_kind);
    inside = E.inside;
    small = rw m (marked-small _ seen T.small);
    few = omega (arith, T.few, E.short);
  }

  at-end : is_end (drop at ws) ≡ eqb at (length ws)
  unfolding is_end
  at-end = elim (cases_lt at (length ws)) [
    | inl more ↦ rw (from_place ws at more, ne_eqb at (length ws) (λ e. omega arith))
    | inr over ↦ let end : at ≡ length ws = omega (arith, T.inside) in rw (drop_of_length-le ws {i = at} over, eq-eqb at (length ws) end)
  ]

  pub testing-over : count ≤ done → are_entries marks (read_entries count (drop from ws)) ≡ eqb at (length ws) && leb total max_path_bytes && eqb marks seen
  unfolding are_from path_bytes marks_after
  testing-over h =
      T.goes ∙ ap (are_from total seen marks) (entries_none count done (drop at ws) h)
      ∙ rw (add-zero total) (ap (λ (b : Bool). b && leb total max_path_bytes && eqb marks seen) at-end)

-- ---- an image

and-on : (b : Bool) → b && true ≡ b
and-on true = refl
and-on false = refl

-- what the test of its entries says is whether the content of words is a table
table-if : (run number switches marks : ℕ) (r : Read (List Entry)) → switches ≤ max_switches → length r.value ≤ max_entries → every is_entry r.value ≡ true
    → with_entries run number switches marks (Some r)
    ≡ cond (are_entries marks (Some r)) (Some (record { run = run; number = number; table = record { entries = r.value; switches = switches; marks = marks } })) None
unfolding with_entries image_if are_entries is_end is_table
table-if run number switches marks r low few each = go r.rest refl
  where
    bytes : Bool
    bytes = leb (path_bytes r.value) max_path_bytes

    go : (rest : List ℕ) → r.rest ≡ rest
        → image_if (record { run = run; number = number; table = record { entries = r.value; switches = switches; marks = marks } }) rest
        ≡ cond (is_end rest && leb (path_bytes r.value) max_path_bytes && eqb marks (marks_of r.value)) (Some (record { run = run; number = number; table = record { entries = r.value; switches = switches; marks = marks } })) None
    go [] e = rw (le-leb (length r.value) max_entries few, each, le-leb switches max_switches low, and-on (leb (path_bytes r.value) max_path_bytes), and-on (leb (path_bytes r.value) max_path_bytes))
    go (w ∷ ws) e = refl

-- what reading tells of an image
abbrev pub image_told : (run number switches marks count : ℕ) → Option ImageRead
image_told run number switches marks count = Some (record { run = run; number = number; switches = switches; marks = marks; count = count })

answered : (run number switches marks count : ℕ) (ws : List ℕ) → switches ≤ max_switches → count ≤ max_entries
    → image_answer (with_entries run number switches marks (read_entries count ws))
    ≡ cond (are_entries marks (read_entries count ws)) (image_told run number switches marks count) None
unfolding with_entries image_answer are_entries
answered run number switches marks count ws low few = go (read_entries count ws) refl
  where
    picked : (b : Bool) (i : Image) → image_answer (cond b (Some i) None) ≡ cond b (image_answer (Some i)) None
    picked true i = refl
    picked false i = refl

    go : (o : Option (Read (List Entry))) → read_entries count ws ≡ o
        → image_answer (with_entries run number switches marks o) ≡ cond (are_entries marks o) (image_told run number switches marks count) None
    go None e = refl
    go (Some r) e =
        let W = entries-written count ws e in
        ap image_answer (table-if run number switches marks r low (omega (arith, W.count)) W.each)
        ∙ picked (are_entries marks (Some r)) _
        ∙ rw W.count

-- more entries than a table has
too_many : (run number switches marks count : ℕ) (ws : List ℕ) → max_entries < count → with_entries run number switches marks (read_entries count ws) ≡ None
unfolding with_entries image_if is_table
too_many run number switches marks count ws many = go (read_entries count ws) refl
  where
    full : (r : Read (List Entry)) (rest : List ℕ) → max_entries < length r.value
        → image_if (record { run = run; number = number; table = record { entries = r.value; switches = switches; marks = marks } }) rest ≡ None
    full r [] h = rw (lt-leb (length r.value) max_entries h)
    full r (w ∷ ws) h = refl

    go : (o : Option (Read (List Entry))) → read_entries count ws ≡ o → with_entries run number switches marks o ≡ None
    go None e = refl
    go (Some r) e = full r r.rest (omega (arith, (entries-written count ws e).count))

-- ---- an image by its front

run-missing : (ws : List ℕ) → run_of (first_word ws) ≡ None → read_image ws ≡ None
unfolding first_word read_image
run-missing [] e = refl
run-missing (w ∷ ws) e = rw (no-run-word w e)

-- the first word says the run, a and b follow it, and the entries begin at `at`
pub record Fronted (ws : List ℕ) (run a b at : ℕ) : Type 0 where
  pub reads : read_image ws ≡ read_table run (a ∷ b ∷ drop at ws)
  pub inside : at ≤ length ws

module _ (ws : List ℕ) {f : Front} (F : f ≡ front_at ws 0) where
  pub without-run : None ≡ run_of f.run → None ≡ image_answer (read_image ws)
  unfolding image_answer
  without-run r = rw (run-missing ws (ap (λ (g : Front). run_of g.run) (sym F) ∙ sym r))

  module _ {run : ℕ} (r : Some run ≡ run_of f.run) where
    pub no-number-word : f.head ≡ None → None ≡ image_answer (read_image ws)
    unfolding read_image read_table image_answer
    no-number-word e = let R = of-run f.run r in rw (run_alone ws 0 F R e, R.right)

    pub no-table-word : {a : ℕ} → f.head ≡ Some a → f.next ≡ None → None ≡ image_answer (read_image ws)
    unfolding read_image read_table image_answer
    no-table-word {a} e g =
        let H = front-headed ws 0 F r e in
        rw (H.words ∙ ap (λ (l : List ℕ). H.of_run.value ∷ a ∷ l) (no_word (drop 2 ws) (sym H.next ∙ g)), H.of_run.right)

    pub fronted : {a b : ℕ} → f.head ≡ Some a → f.next ≡ Some b → Fronted ws run a b f.at
    unfolding read_image
    fronted {a} {b} e g =
        let H = front-headed ws 0 F r e in
        let S = stands ws 2 (sym H.next ∙ g) H.behind in
        let behind = S.words ∙ ap (λ (k : ℕ). b ∷ drop k ws) (sym S.next) in
        record {
          reads = ap read_image H.words ∙ rw (H.of_run.right, ← H.of_run.low) (ap (λ (l : List ℕ). read_table run (a ∷ l)) behind);
          inside = omega (arith, S.here, S.next);
        }

module _ {ws : List ℕ} {run a b at : ℕ} (F : Fronted ws run a b at) where
  image-as : read_image ws
      ≡ cond (is_number_word a && is_table_word b) (with_entries run (number_bits a) (switches_bits b) (marks_bits b) (read_entries (count_bits b) (drop at ws))) None
  unfolding read_table
  image-as = F.reads

  pub words-other : is_number_word a && is_table_word b ≡ false → None ≡ image_answer (read_image ws)
  unfolding image_answer
  words-other k = let e : read_image ws ≡ None = image-as ∙ rw k in rw e

  module _ (k : is_number_word a && is_table_word b ≡ true) where
    image-is : read_image ws ≡ with_entries run (number_bits a) (switches_bits b) (marks_bits b) (read_entries (count_bits b) (drop at ws))
    image-is = image-as ∙ rw k

    pub image-many : max_entries < count_bits b → None ≡ image_answer (read_image ws)
    unfolding image_answer
    image-many h = sym (ap image_answer (image-is ∙ too_many run (number_bits a) (switches_bits b) (marks_bits b) (count_bits b) (drop at ws) h))

    module _ (few : count_bits b ≤ max_entries) where
      told-by : image_answer (read_image ws)
          ≡ cond (are_entries (marks_bits b) (read_entries (count_bits b) (drop at ws)))
          (image_told run (number_bits a) (switches_bits b) (marks_bits b) (count_bits b)) None
      told-by = ap image_answer image-is ∙ answered run (number_bits a) (switches_bits b) (marks_bits b) (count_bits b) (drop at ws) (omega arith) few

      pub image-refused : are_entries (marks_bits b) (read_entries (count_bits b) (drop at ws)) ≡ false → None ≡ image_answer (read_image ws)
      image-refused f = sym (told-by ∙ rw f)

      pub image-taken : are_entries (marks_bits b) (read_entries (count_bits b) (drop at ws)) ≡ true
          → image_told run (number_bits a) (switches_bits b) (marks_bits b) (count_bits b) ≡ image_answer (read_image ws)
      image-taken f = sym (told-by ∙ rw f)

-- what the answer tells of the image that was read
pub no-image-told : (o : Option Image) → None ≡ image_answer o → o ≡ None
unfolding image_answer
no-image-told None e = refl
no-image-told (Some i) e = cc

pub record ImageTold (o : Option Image) (t : ImageRead) : Type 0 where
  pub read : IsRead o t
  pub same-run : t.run ≡ read.value.run
  pub same_number : t.number ≡ read.value.number

pub image-told : (o : Option Image) {t : ImageRead} → Some t ≡ image_answer o → ImageTold o t
unfolding image_answer
image-told None e = cc
image-told (Some i) e =
    let same = Some-injective _ _ e in
    record {
      read = record {
        value = i;
        is = refl;
        same-switches = ap (λ (x : ImageRead). x.switches) same;
        same-marks = ap (λ (x : ImageRead). x.marks) same;
        same_count = ap (λ (x : ImageRead). x.count) same;
      };
      same-run = ap (λ (x : ImageRead). x.run) same;
      same_number = ap (λ (x : ImageRead). x.number) same;
    }
