-- Images: a whole table with its run and the number of its last change, as 32-bit words, and back. Scope, "A table for a standby that joins late", and "A main
-- that starts over".
use Rattle.std.specs.Prelude.{ℕ, zero, suc, ◌+◌, ◌*◌, ◌/◌, ◌%◌, ◌≤◌, ◌≡◌, List, [], ◌∷◌, ◌++◌, Bool, true, ◌&&◌, cond, length, leb, eqb, Option, None, Some}
use Rattle.paths.specs.Components.{Bytes}
use Rattle.paths.specs.Resolving.{max_path}
use Rattle.table.specs.declared.Kind.{Kind}
use Rattle.table.specs.Entries.{Entry, kind_number}
use Rattle.table.specs.Tables.{Table, is_table}
use Rattle.table.specs.Memory.{kind_from}
use Rattle.records.specs.Numbers.{is_run, max_number}
use Rattle.records.specs.Records.{act_unit, word_of, run_word, path_words, is_run_word, low_of_word, number_bits, Read, bytes_from, if_resolved}

-- a table of a run, and the number of the last change that it has, 0 if it has none
pub record Image : Type 0 where
  pub run : ℕ
  pub number : ℕ
  pub table : Table

-- ---- words: the top four bits are the kind, and unused bits are zero

abbrev pub number_kind : ℕ
number_kind = 5

abbrev pub table_kind : ℕ
table_kind = 6

abbrev pub entry_kind : ℕ
entry_kind = 7

-- the number in the low 24 bits
abbrev pub number_word : ℕ → ℕ
number_word number = word_of number_kind number

-- switches in the low five bits, marks in the next three, the count in the next nine
abbrev pub table_word : ℕ → ℕ → ℕ → ℕ
table_word switches marks count = word_of table_kind (count * 256 + marks * 32 + switches)

-- the entry's kind in bits 16 and 17, its path's length in the low 16
abbrev pub entry_word : ℕ → ℕ → ℕ
entry_word kind size = word_of entry_kind (kind * 65536 + size)

-- ---- writing

-- a kind 7 word and path words
unfoldable pub entry_words : Entry → List ℕ
entry_words e = entry_word (kind_number e.kind) (length e.path) ∷ path_words e.path

-- for each entry, in list order
unfoldable pub all_entry_words : List Entry → List ℕ
all_entry_words [] = []
all_entry_words (e ∷ es) = entry_words e ++ all_entry_words es

unfoldable pub image_words : Image → List ℕ
image_words i =
    run_word i.run
    ∷ number_word i.number
    ∷ table_word i.table.switches i.table.marks (length i.table.entries)
    ∷ all_entry_words i.table.entries

-- the words before the first entry's: run, number, and switches, marks and count
abbrev pub image_head : ℕ
image_head = 3

-- the words that a table's image takes, whatever its run and its number
unfoldable pub image_size : Table → ℕ
image_size t = image_head + length (all_entry_words t.entries)

-- no image takes more: `few_words`
abbrev pub max_image : ℕ
max_image = 11352

-- ---- what can be written

-- every path is of bytes
pub data PathBytes : List Entry → Type 0 where
  no-entry : PathBytes []
  entry_more : {e : Entry} {es : List Entry} → Bytes e.path → PathBytes es → PathBytes (e ∷ es)

-- an image whose words read back as itself: `image-read`
pub record Writable (i : Image) : Type 0 where
  pub of_run : is_run i.run ≡ true
  pub few : i.number ≤ max_number
  pub within : is_table i.table ≡ true
  pub bytes : PathBytes i.table.entries

-- ---- reading, word after word

-- 24 bits, and no other
unfoldable pub is_number_word : ℕ → Bool
is_number_word w = eqb (w / act_unit) (number_kind * 16)

-- 17 bits, and no other
unfoldable pub is_table_word : ℕ → Bool
is_table_word w = eqb (w / 131072) (table_kind * 2048)

abbrev pub switches_bits : ℕ → ℕ
switches_bits w = w % 32

abbrev pub marks_bits : ℕ → ℕ
marks_bits w = w / 32 % 8

abbrev pub count_bits : ℕ → ℕ
count_bits w = w / 256 % 512

abbrev pub kind_bits : ℕ → ℕ
kind_bits w = w / 65536 % 4

abbrev pub size_bits : ℕ → ℕ
size_bits w = w % 65536

-- 18 bits, and no other, with a length of 1 to 1,024
unfoldable pub is_entry_word : ℕ → Bool
is_entry_word w = eqb (w / 262144) (entry_kind * 1024) && leb 1 (size_bits w) && leb (size_bits w) max_path

unfoldable pub with_kind : Kind → Option (Read (List ℕ)) → Option (Read Entry)
with_kind kind None = None
with_kind kind (Some p) = Some (record { value = record { kind = kind; path = p.value }; rest = p.rest })

-- the entry that words begin with; its path words, and that its path must be in resolved form, are a record's
unfoldable pub read_entry : List ℕ → Option (Read Entry)
read_entry [] = None
read_entry (w ∷ ws) = cond (is_entry_word w) (with_kind (kind_from (kind_bits w)) (if_resolved (bytes_from (size_bits w) ws))) None

-- an entry, before those that follow
unfoldable pub with_entry : Entry → Option (Read (List Entry)) → Option (Read (List Entry))
with_entry e None = None
with_entry e (Some r) = Some (record { value = e ∷ r.value; rest = r.rest })

unfoldable pub then_entries : Option (Read Entry) → (List ℕ → Option (Read (List Entry))) → Option (Read (List Entry))
then_entries None more = None
then_entries (Some e) more = with_entry e.value (more e.rest)

-- as many entries as the count says
unfoldable pub read_entries : ℕ → List ℕ → Option (Read (List Entry))
read_entries zero ws = Some (record { value = []; rest = ws })
read_entries (suc n) ws = then_entries (read_entry ws) (λ rest. read_entries n rest)

-- it must end where its words end, and its content must be a table
unfoldable pub image_if : Image → List ℕ → Option Image
image_if i [] = cond (is_table i.table) (Some i) None
image_if i (w ∷ ws) = None

unfoldable pub with_entries : ℕ → ℕ → ℕ → ℕ → Option (Read (List Entry)) → Option Image
with_entries run number switches marks None = None
with_entries run number switches marks (Some r) =
    image_if (record { run = run; number = number; table = record { entries = r.value; switches = switches; marks = marks } }) r.rest

-- what follows the run word: number and table words, and the entries
unfoldable pub read_table : ℕ → List ℕ → Option Image
read_table run [] = None
read_table run (w ∷ []) = None
read_table run (w ∷ x ∷ ws) =
    cond (is_number_word w && is_table_word x) (with_entries run (number_bits w) (switches_bits x) (marks_bits x) (read_entries (count_bits x) ws)) None

-- the image that words are, if they are one; else they are malformed, as without a run word, or their content is no table
unfoldable pub read_image : List ℕ → Option Image
read_image [] = None
read_image (w ∷ ws) = cond (is_run_word w) (read_table (low_of_word w) ws) None
