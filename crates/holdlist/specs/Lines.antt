-- What holdlist prints. Scope, "Handover, at the top": the header gives the entry count, n, how much is owed, switches and marks, in decimal;
-- then one line for each entry, kind and path; and `stopped at word W` where reading ended early.
use Rattle.std.specs.Prelude.{ℕ, ◌+◌, ◌*◌, List, [], ◌∷◌, ◌++◌, Bool, cond, length}
use Rattle.table.specs.Entries.{Entry}
use Rattle.table.specs.Tables.{Table, max_entries, max_path_bytes}
use Rattle.table.specs.Memory.{table_of}
use Rattle.standby.specs.declared.Numbers.{Numbers}
use Rattle.standby.specs.Owing.{owed_of}
use Rattle.text.specs.Text.{newline, decimal_digits, labelled, kind_letter}
use Rattle.text.specs.Escaping.{escaped_bytes, escaped}
use Rattle.holdlist.specs.Holding.{Standing}

-- a standby that was fresh has numbers that agree, so that what it is owed is told: `input-kept`
unfoldable pub header : Table → Numbers → List ℕ
header t s =
    labelled "entries " (length t.entries) ++ labelled " changes " s.n ++ labelled " owed " (owed_of s) ++ labelled " switches " t.switches
    ++ labelled " marks " t.marks ++ newline

unfoldable pub entry_line : Entry → List ℕ
entry_line e = kind_letter e.kind ∷ 32 ∷ escaped e.path ++ newline

-- in list order
unfoldable pub entry_lines : List Entry → List ℕ
entry_lines [] = []
entry_lines (e ∷ es) = entry_line e ++ entry_lines es

unfoldable pub stopped_line : ℕ → List ℕ
stopped_line w = labelled "stopped at word " w ++ newline

-- all that is printed of a table and a standby's numbers, and after how many words reading stopped, if it did
unfoldable pub listing_of : Table → Numbers → ℕ → Bool → List ℕ
listing_of t n words stopped = header t n ++ entry_lines t.entries ++ cond stopped (stopped_line words) []

-- all that is printed of what was held
abbrev pub listing : Standing → List ℕ
listing s = listing_of (table_of s.memory) s.numbers s.words s.stopped

-- ---- room

-- the most bytes of the header: five numbers among its labels
abbrev pub header_bytes : ℕ
header_bytes = 41 + 5 * decimal_digits

-- the letter, the space and the newline of an entry's line
abbrev pub line_bytes : ℕ
line_bytes = 3

-- room for the lines of a table's entries
abbrev pub entries_bytes : ℕ
entries_bytes = escaped_bytes * max_path_bytes + line_bytes * max_entries

-- the most bytes of the line where reading stopped: a number after its label
abbrev pub stopped_bytes : ℕ
stopped_bytes = 17 + decimal_digits

-- room for all of it
abbrev pub listing_bytes : ℕ
listing_bytes = header_bytes + entries_bytes + stopped_bytes
