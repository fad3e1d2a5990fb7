-- Words that are not malformed are the writing of what was read, and what was read can be written: a table with its run and number has one image.
use Rattle.refusals.proofs.CauseLaws.{Some-injective}
use Rattle.std.specs.Prelude.{Option, None, Some}
use Prim.Native.Nat.{ℕ, zero, suc, ◌*◌, ◌/◌, ◌≤◌}
use mathlib.Core.Path.{◌≡◌, refl, sym, ap, subst, ◌∙◌}
use mathlib.Core.List.{List, [], ◌∷◌, ◌++◌, append-nil, append_assoc}
use mathlib.Core.Bool.{Bool, true, false, ◌&&◌, cond}
use native.Mathlib.Omega.{arith}
use lib.ListN.{length}
use lib.Dec.{leb, eqb}
use borrow.Author.Tests.{eqb-true}
use Rattle.paths.specs.Components.{Bytes}
use Rattle.paths.specs.Resolving.{max_path, is_resolved}
use Rattle.paths.specs.Giving.{is_path}
use Rattle.paths.proofs.ComponentLaws.{and_left, and_right}
use Rattle.table.specs.declared.Kind.{Kind}
use Rattle.table.specs.Entries.{Entry, kind_number}
use Rattle.table.specs.Tables.{is_entry, every, is_table}
use Rattle.table.specs.Memory.{kind_from}
use Rattle.records.specs.Numbers.{max_number}
use Rattle.table.proofs.Within.{number-kind}
use Rattle.records.specs.Records.{act_unit, is_run_word, low_of_word, number_bits, Read, bytes_from, if_resolved}
use Rattle.records.proofs.WrittenLaws.{if_some, run-word, run-right, bytes_read}
use Rattle.images.specs.Images.{
  Image,
  number_kind,
  table_kind,
  entry_kind,
  number_word,
  table_word,
  entry_word,
  entry_words,
  all_entry_words,
  image_words,
  PathBytes,
  no-entry,
  entry_more,
  Writable,
  is_number_word,
  is_table_word,
  switches_bits,
  marks_bits,
  count_bits,
  kind_bits,
  size_bits,
  is_entry_word,
  with_kind,
  read_entry,
  with_entry,
  then_entries,
  read_entries,
  image_if,
  with_entries,
  read_table,
  read_image,
}
use Rattle.images.proofs.ImageLaws.{image-read}

-- ---- words are what was read of them

number_word_lem : (w : ℕ) → is_number_word w ≡ true → w ≡ number_word (number_bits w)
unfolding is_number_word
number_word_lem w e = omega (arith, eqb-true (w / act_unit) (number_kind * 16) e)

table-word : (w : ℕ) → is_table_word w ≡ true → w ≡ table_word (switches_bits w) (marks_bits w) (count_bits w)
unfolding is_table_word
table-word w e = omega (arith, eqb-true (w / 131072) (table_kind * 2048) e)

record EntryWord (w : ℕ) : Type 0 where
  same : w ≡ entry_word (kind_number (kind_from (kind_bits w))) (size_bits w)
  short : leb (size_bits w) max_path ≡ true

entry-word : (w : ℕ) → is_entry_word w ≡ true → EntryWord w
unfolding is_entry_word
entry-word w e =
    let k = eqb (w / 262144) (entry_kind * 1024) in
    let front = and_left (k && leb 1 (size_bits w)) _ e in
    let word = eqb-true (w / 262144) (entry_kind * 1024) (and_left k _ front) in
    record {
      same = omega (arith, word, number-kind (kind_bits w) (omega arith));
      short = and_right (k && leb 1 (size_bits w)) _ e;
    }

-- ---- an entry

-- words that begin with those of an entry
pub record EntryWritten (ws : List ℕ) (r : Read Entry) : Type 0 where
  pub words : ws ≡ entry_words r.value ++ r.rest
  pub entry : is_entry r.value ≡ true
  pub bytes : Bytes r.value.path

-- a path was read, and it is resolved
record OfKind (kind : Kind) (o : Option (Read (List ℕ))) (r : Read Entry) : Type 0 where
  p : Read (List ℕ)
  path : o ≡ Some p
  resolved : is_resolved p.value ≡ true
  whole : record { value = record { kind = kind; path = p.value }; rest = p.rest } ≡ r

of-kind : (kind : Kind) (o : Option (Read (List ℕ))) {r : Read Entry} → with_kind kind (if_resolved o) ≡ Some r → OfKind kind o r
unfolding with_kind if_resolved
of-kind kind None e = cc
of-kind kind (Some p) {r} e = go (is_resolved p.value) refl e
  where
    go : (b : Bool) → is_resolved p.value ≡ b → with_kind kind (cond b (Some p) None) ≡ Some r → OfKind kind (Some p) r
    go true x y = record { p = p; path = refl; resolved = x; whole = Some-injective _ _ y }
    go false x y = cc

pub entry-written : (ws : List ℕ) {r : Read Entry} → read_entry ws ≡ Some r → EntryWritten ws r
unfolding read_entry entry_words is_entry is_path
entry-written [] e = cc
entry-written (w ∷ ws) e =
    let C = if_some (is_entry_word w) e in
    let W = entry-word w C.0 in
    let K = of-kind (kind_from (kind_bits w)) (bytes_from (size_bits w) ws) C.1 in
    let P = bytes_read (size_bits w) ws K.p K.path in
    let word = W.same ∙ ap (entry_word (kind_number (kind_from (kind_bits w)))) (sym P.size) in
    subst (EntryWritten (w ∷ ws)) K.whole (record {
      words = λ k. word k ∷ P.words k;
      entry = rw (P.size, W.short, K.resolved);
      bytes = P.bytes;
    })

-- ---- entries

-- words that begin with those of n entries
pub record EntriesWritten (n : ℕ) (ws : List ℕ) (r : Read (List Entry)) : Type 0 where
  pub words : ws ≡ all_entry_words r.value ++ r.rest
  pub count : length r.value ≡ n
  pub each : every is_entry r.value ≡ true
  pub bytes : PathBytes r.value

-- an entry was read, and those behind it
record Then (o : Option (Read Entry)) (more : List ℕ → Option (Read (List Entry))) (r : Read (List Entry)) : Type 0 where
  e : Read Entry
  here : o ≡ Some e
  es : Read (List Entry)
  behind : more e.rest ≡ Some es
  whole : record { value = e.value ∷ es.value; rest = es.rest } ≡ r

then-entries : (o : Option (Read Entry)) (more : List ℕ → Option (Read (List Entry))) {r : Read (List Entry)} → then_entries o more ≡ Some r → Then o more r
unfolding then_entries with_entry
then-entries None more e = cc
then-entries (Some x) more {r} e = go (more x.rest) refl e
  where
    go : (o : Option (Read (List Entry))) → more x.rest ≡ o → with_entry x.value o ≡ Some r → Then (Some x) more r
    go None f g = cc
    go (Some es) f g = record { e = x; here = refl; es = es; behind = f; whole = Some-injective _ _ g }

pub entries-written : (n : ℕ) (ws : List ℕ) {r : Read (List Entry)} → read_entries n ws ≡ Some r → EntriesWritten n ws r
unfolding read_entries all_entry_words every
entries-written zero ws e =
    subst (EntriesWritten zero ws) (Some-injective _ _ e) (record { words = refl; count = refl; each = refl; bytes = no-entry })
entries-written (suc n) ws e =
    let T = then-entries (read_entry ws) (λ rest. read_entries n rest) e in
    let E = entry-written ws T.here in
    let R = entries-written n T.e.rest T.behind in
    let front = entry_words T.e.value in
    subst (EntriesWritten (suc n) ws) T.whole (record {
      words = E.words ∙ ap (λ (l : List ℕ). front ++ l) R.words ∙ sym (append_assoc front (all_entry_words T.es.value) T.es.rest);
      count = ap suc R.count;
      each = rw (E.entry, R.each);
      bytes = entry_more E.bytes R.bytes;
    })

-- ---- an image

-- entries were read to the words' end, and they are a table's
record OfEntries (run number switches marks : ℕ) (o : Option (Read (List Entry))) (i : Image) : Type 0 where
  es : List Entry
  all : o ≡ Some (record { value = es; rest = [] })
  within : is_table (record { entries = es; switches = switches; marks = marks }) ≡ true
  whole : record { run = run; number = number; table = record { entries = es; switches = switches; marks = marks } } ≡ i

of-entries : (run number switches marks : ℕ) (o : Option (Read (List Entry))) {i : Image} → with_entries run number switches marks o ≡ Some i
    → OfEntries run number switches marks o i
unfolding with_entries image_if
of-entries run number switches marks None e = cc
of-entries run number switches marks (Some r) {i} e = go r.value r.rest e
  where
    go : (es : List Entry) (rest : List ℕ) → with_entries run number switches marks (Some (record { value = es; rest = rest })) ≡ Some i
        → OfEntries run number switches marks (Some (record { value = es; rest = rest })) i
    go es [] x =
        let C = if_some (is_table (record { entries = es; switches = switches; marks = marks })) x in
        record { es = es; all = refl; within = C.0; whole = Some-injective _ _ C.1 }
    go es (w ∷ ws) x = cc

-- words that are an image's, which can be written
record ImageWritten (ws : List ℕ) (i : Image) : Type 0 where
  words : image_words i ≡ ws
  writable : Writable i

-- a run word v, and what follows it
table-written : (v : ℕ) (ws : List ℕ) {i : Image} → is_run_word v ≡ true → read_table (low_of_word v) ws ≡ Some i → ImageWritten (v ∷ ws) i
unfolding read_table image_words
table-written v [] R e = cc
table-written v (w ∷ []) R e = cc
table-written v (w ∷ x ∷ ws) R e =
    let C = if_some (is_number_word w && is_table_word x) e in
    let O = of-entries (low_of_word v) (number_bits w) (switches_bits x) (marks_bits x) (read_entries (count_bits x) ws) C.1 in
    let E = entries-written (count_bits x) ws O.all in
    let number = number_word_lem w (and_left (is_number_word w) _ C.0) in
    let table = table-word x (and_right (is_number_word w) _ C.0) ∙ ap (table_word (switches_bits x) (marks_bits x)) (sym E.count) in
    let entries = E.words ∙ append-nil (all_entry_words O.es) in
    subst (ImageWritten (v ∷ w ∷ x ∷ ws)) O.whole (record {
      words = sym (λ k. run-word v R k ∷ number k ∷ table k ∷ entries k);
      writable = record { of_run = run-right v R; few = omega arith; within = O.within; bytes = E.bytes };
    })

written : (ws : List ℕ) {i : Image} → read_image ws ≡ Some i → ImageWritten ws i
unfolding read_image
written [] e = cc
written (w ∷ ws) e = let C = if_some (is_run_word w) e in table-written w ws C.0 C.1

pub image-written : (ws : List ℕ) {i : Image} → read_image ws ≡ Some i → (image_words i ≡ ws)
image-written ws e = (written ws e).words

pub image-writable : (ws : List ℕ) {i : Image} → read_image ws ≡ Some i → Writable i
image-writable ws e = (written ws e).writable

pub image-within : (ws : List ℕ) {i : Image} → read_image ws ≡ Some i → (is_table i.table ≡ true) × (i.number ≤ max_number)
image-within ws e = let W = image-writable ws e in (W.within, W.few)

-- and an image is of one table, with one run and one number
pub one-image : {i j : Image} → Writable i → Writable j → image_words i ≡ image_words j → i ≡ j
one-image W X e = Some-injective _ _ (sym (image-read W) ∙ ap read_image e ∙ image-read X)
