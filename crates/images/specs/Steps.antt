-- Steps of reading an image: an entry, entries that are one table's, what reading answers, and the memory that a table is loaded into.
use Rattle.std.specs.Prelude.{ℕ, ◌+◌, ◌≡◌, List, [], ◌∷◌, Bool, true, false, ◌&&◌, length, leb, eqb, Option, None, Some}
use Rattle.paths.specs.Copying.{begun}
use Rattle.table.specs.Entries.{Entry}
use Rattle.table.specs.Tables.{max_path_bytes, path_bytes, marks_of}
use Rattle.table.specs.Memory.{put}
use Rattle.records.specs.Records.{Read}
use Rattle.images.specs.declared.EntryRead.{EntryRead}
use Rattle.images.specs.declared.ImageRead.{ImageRead}
use Rattle.images.specs.Images.{Image, entry_words}

-- ---- an entry

-- an entry whose words begin at `at`: its kind, its path's length, and where the words behind it begin
unfoldable pub entry_answer : ℕ → Option (Read Entry) → Option EntryRead
entry_answer at None = None
entry_answer at (Some r) = Some (record { kind = r.value.kind; size = length r.value.path; end = at + length (entry_words r.value) })

-- its path stands from the space's start, or the space is as it was
unfoldable pub entry_into : Option (Read Entry) → List ℕ → List ℕ
entry_into None space = space
entry_into (Some r) space = begun r.value.path space

pub record ReadsEntry (at : ℕ) (entry : Option (Read Entry)) (space : List ℕ) (r : Option EntryRead) (after : List ℕ) : Type 0 where
  pub answer : r ≡ entry_answer at entry
  pub bytes : after ≡ entry_into entry space

-- ---- all entries

unfoldable pub is_end : List ℕ → Bool
is_end [] = true
is_end (w ∷ ws) = false

-- the entries that were read end where the words end, have no more path bytes than a table, and are of the kinds that the marks say
unfoldable pub are_entries : ℕ → Option (Read (List Entry)) → Bool
are_entries marks None = false
are_entries marks (Some r) = is_end r.rest && leb (path_bytes r.value) max_path_bytes && eqb marks (marks_of r.value)

-- ---- an image

unfoldable pub image_answer : Option Image → Option ImageRead
image_answer None = None
image_answer (Some i) =
    Some (record { run = i.run; number = i.number; switches = i.table.switches; marks = i.table.marks; count = length i.table.entries })

-- an image was read, with a table of the switches, the marks and the count that reading told
pub record IsRead (image : Option Image) (told : ImageRead) : Type 0 where
  pub value : Image
  pub is : image ≡ Some value
  pub same-switches : told.switches ≡ value.table.switches
  pub same-marks : told.marks ≡ value.table.marks
  pub same_count : told.count ≡ length value.table.entries

-- memory with the image's table put into it
unfoldable pub loaded_by : Option Image → List ℕ → List ℕ
loaded_by None m = m
loaded_by (Some i) m = put i.table m
