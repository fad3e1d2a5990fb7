-- An image has at most 11,352 words and reads back as itself, and a table that memory holds has one.
use Rattle.std.specs.Prelude.{Some}
use Prim.Native.Nat.{ℕ, zero, suc, ◌+◌, ◌*◌, ◌/◌, ◌≤◌}
use mathlib.Core.Path.{◌≡◌, refl, sym, ap, ◌∙◌}
use mathlib.Core.List.{List, [], ◌∷◌, ◌++◌, append-nil, append_assoc}
use mathlib.Core.Bool.{true}
use native.Mathlib.Omega.{arith}
use lib.ListN.{length, length-append}
use lib.Dec.{leb}
use borrow.Author.Tests.{eq-eqb, le-leb}
use Rattle.paths.specs.Components.{Bytes}
use Rattle.paths.specs.Resolving.{max_path}
use Rattle.paths.specs.Giving.{is_path}
use Rattle.paths.proofs.ByteLaws.{bytes_take, bytes_drop}
use Rattle.paths.proofs.ComponentLaws.{and_left, and_right}
use Rattle.table.specs.declared.Kind.{Kind}
use Rattle.table.specs.Entries.{Entry, kind_number, max_kind}
use Rattle.table.specs.Tables.{Table, max_entries, max_switches, path_bytes, is_entry, every, is_table}
use Rattle.table.specs.Memory.{table_head, entry_head, word_at, len_at, next_at, entries_at, table_of}
use Rattle.records.specs.Numbers.{max_number}
use Rattle.table.proofs.TableLaws.{valid-parts, marks-small}
use Rattle.table.proofs.Within.{kind-number, number_small}
use Rattle.records.specs.Records.{act_unit, number_bits, if_resolved}
use Rattle.records.specs.Steps.{words_for}
use Rattle.records.proofs.RecordLaws.{run-low, word-run, path-back, path-count, path-short, not-empty}
use Rattle.images.specs.Images.{
  Image,
  number_kind,
  table_kind,
  entry_kind,
  number_word,
  table_word,
  entry_word,
  entry_words,
  all_entry_words,
  image_words,
  image_size,
  max_image,
  PathBytes,
  no-entry,
  entry_more,
  Writable,
  is_number_word,
  is_table_word,
  switches_bits,
  marks_bits,
  count_bits,
  kind_bits,
  size_bits,
  is_entry_word,
  with_kind,
  read_entry,
  with_entry,
  then_entries,
  read_entries,
  image_if,
  with_entries,
  read_table,
  read_image,
}

-- ---- how many words

pub entry_length : (e : Entry) → length (entry_words e) ≡ 1 + words_for (length e.path)
unfolding entry_words
entry_length e = omega (arith, path-count e.path)

pub size-more : (e : Entry) (es : List Entry) → length (all_entry_words (e ∷ es)) ≡ 1 + words_for (length e.path) + length (all_entry_words es)
unfolding all_entry_words
size-more e es = omega (arith, length-append (entry_words e) (all_entry_words es), entry_length e)

pub image-length : (i : Image) → length (image_words i) ≡ image_size i.table
unfolding image_words image_size
image-length i = omega arith

-- an entry's word, and one for each three bytes of its path or fewer
entries-few : (es : List Entry) → 3 * length (all_entry_words es) ≤ 5 * length es + path_bytes es
unfolding all_entry_words path_bytes
entries-few [] = omega arith
entries-few (e ∷ es) = omega (arith, size-more e es, entries-few es)

pub few_words : (t : Table) → is_table t ≡ true → image_size t ≤ max_image
unfolding image_size
few_words t ok = let K = valid-parts t ok in omega (arith, entries-few t.entries, K.few, K.bytes)

-- ---- entries read back

module _ (kind size : ℕ) (few : kind ≤ max_kind) (some_byte : 1 ≤ size) (short : size ≤ max_path) where
  entry-kind : kind_bits (entry_word kind size) ≡ kind
  entry-kind = omega arith

  entry-size : size_bits (entry_word kind size) ≡ size
  entry-size = omega arith

  entry-word : is_entry_word (entry_word kind size) ≡ true
  unfolding is_entry_word
  entry-word = rw (eq-eqb (entry_word kind size / 262144) (entry_kind * 1024) (omega arith), entry-size, le-leb 1 size some_byte, le-leb size max_path short)

-- whatever words follow
pub entry_read : (e : Entry) (ws : List ℕ) → is_entry e ≡ true → Bytes e.path → read_entry (entry_words e ++ ws) ≡ Some (record { value = e; rest = ws })
unfolding read_entry entry_words if_resolved with_kind is_entry is_path
entry_read e ws ok B =
    let p = e.path in
    let k = kind_number e.kind in
    let few = number_small e.kind in
    let resolved = and_right (leb (length p) max_path) _ ok in
    let from = not-empty p ok in
    let short = path-short p ok in
    rw (
      entry-word k (length p) few from short,
      entry-kind k (length p) few from short,
      entry-size k (length p) few from short,
      path-back p ws B,
      resolved,
    )
    (ap (λ (x : Kind). Some (record { value = record { kind = x; path = p }; rest = ws })) (kind-number e.kind))

pub entries-read : {es : List Entry} (ws : List ℕ) → every is_entry es ≡ true → PathBytes es
    → read_entries (length es) (all_entry_words es ++ ws) ≡ Some (record { value = es; rest = ws })
unfolding read_entries all_entry_words then_entries with_entry every
entries-read ws ok no-entry = refl
entries-read ws ok (entry_more {e = e} {es = es} B R) =
    let here = entry_read e (all_entry_words es ++ ws) (and_left (is_entry e) _ ok) B in
    rw (append_assoc (entry_words e) (all_entry_words es) ws, here, entries-read ws (and_right (is_entry e) _ ok) R)

-- ---- an image reads back

module _ (n : ℕ) (few : n ≤ max_number) where
  number_word_lem : is_number_word (number_word n) ≡ true
  unfolding is_number_word
  number_word_lem = eq-eqb (number_word n / act_unit) (number_kind * 16) (omega arith)

  number-back : number_bits (number_word n) ≡ n
  number-back = omega arith

module _ (switches marks count : ℕ) (s : switches ≤ max_switches) (m : marks ≤ 7) (c : count ≤ max_entries) where
  table-word : is_table_word (table_word switches marks count) ≡ true
  unfolding is_table_word
  table-word = eq-eqb (table_word switches marks count / 131072) (table_kind * 2048) (omega arith)

  table-switches : switches_bits (table_word switches marks count) ≡ switches
  table-switches = omega arith

  table-marks : marks_bits (table_word switches marks count) ≡ marks
  table-marks = omega arith

  table-count : count_bits (table_word switches marks count) ≡ count
  table-count = omega arith

pub image-read : {i : Image} → Writable i → read_image (image_words i) ≡ Some i
unfolding read_image read_table image_words with_entries image_if
image-read {i} W =
    let t = i.table in
    let K = valid-parts t W.within in
    let marks : t.marks ≤ 7 = omega (arith, K.marks, marks-small t.entries) in
    let count = length t.entries in
    let entries = ap (read_entries count) (sym (append-nil (all_entry_words t.entries))) ∙ entries-read [] K.each W.bytes in
    rw (
      word-run i.run W.of_run,
      run-low i.run W.of_run,
      number_word_lem i.number W.few,
      number-back i.number W.few,
      table-word t.switches t.marks count K.switches marks K.few,
      table-switches t.switches t.marks count K.switches marks K.few,
      table-marks t.switches t.marks count K.switches marks K.few,
      table-count t.switches t.marks count K.switches marks K.few,
      entries,
      W.within,
    )

-- ---- paths in memory are of bytes

entries-at : (m : List ℕ) → Bytes m → (n at : ℕ) → PathBytes (entries_at m n at)
unfolding entries_at
entries-at m B zero at = no-entry
entries-at m B (suc n) at = entry_more (bytes_take (len_at m at) _ (bytes_drop (at + entry_head) m B)) (entries-at m B n (next_at m at))

pub entries-bytes : (m : List ℕ) → Bytes m → PathBytes (table_of m).entries
unfolding table_of
entries-bytes m B = entries-at m B (word_at m 0) table_head
