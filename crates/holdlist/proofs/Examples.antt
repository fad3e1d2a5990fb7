-- What is printed of some input, by the definitions: the scope's example, changes that are owed, words left over after a record, a board swap, and a record without
-- its run word.
use Prim.Native.Nat.{ℕ}
use mathlib.Core.Path.{◌≡◌, refl}
use mathlib.Core.List.{List, [], ◌∷◌, ◌++◌}
use lib.ListN.{replicate}
use Rattle.refusals.specs.Refusals.{first_cause, and_then, unless}
use Rattle.paths.specs.Components.{same, grown, parted, pieces, without_empty, components, slashed, spell}
use Rattle.paths.specs.Resolving.{is_absolute, entered, enter_all, normalize, is_resolved}
use Rattle.paths.specs.Relations.{shared, common, depth, is_prefix, number_order, or_else, in_turn, path_order}
use Rattle.paths.specs.Giving.{is_path}
use Rattle.table.specs.Entries.{kind_of, is_kind, same_path, strictly_extends, compare_alike, granted_order, compare}
use Rattle.table.specs.Placing.{is_after, search_from, search, place_by, place, placed_at}
use Rattle.table.specs.Tables.{has, set_bit, clear_bit, marked, path_bytes, is_entry, every, any, present, marks_of, is_table}
use Rattle.table.specs.Acts.{kept_unless, without, dropped_by, inserted_by, inserted, adds, would_add, has_room, overflows, act_overflows, apply_act}
use Rattle.table.specs.Carrying.{room_cause}
use Rattle.table.specs.Calls.{with_room}
use Rattle.table.specs.Memory.{table_bytes, kind_in, entries_at, table_of, are_within, holds, encode_entry, encode_all, encode, put, do_act}
use Rattle.records.specs.Records.{act_number, path_words, path_part, act_part, change_words, is_run_word, is_length, is_switches, is_path_word, with_bytes, bytes_from, if_resolved, read_path, with_path, read_switches, read_act, with_number, read_head, read_first, ended_by, ended, read_change}
use Rattle.standby.specs.Arriving.{conflict, standby_in, well_formed, higher, met, applied, in_run, moved, taken, arrival}
use Rattle.standby.specs.Owing.{owed_of}
use Rattle.input.specs.Words.{words_of}
use Rattle.text.specs.Text.{text, newline, decimal_by}
use Rattle.text.specs.Escaping.{is_plain, escaped_byte, escaped}
use Rattle.holdlist.specs.Holding.{stop, after_arrival, after_record, after_next, held_from, unnumbered, held}
use Rattle.holdlist.specs.Lines.{header, entry_line, entry_lines, stopped_line, listing_of, listing}

-- what is printed of some input
printed : List ℕ → List ℕ
printed input = listing (held (replicate table_bytes 0) unnumbered input)

-- `80000001 11000001 20000002 302F6300 80000001 12000002 20000002 302F7A00`
two-changes : List ℕ
two-changes =
    0x80 ∷ 0x00 ∷ 0x00 ∷ 0x01 ∷ 0x11 ∷ 0x00 ∷ 0x00 ∷ 0x01 ∷ 0x20 ∷ 0x00 ∷ 0x00 ∷ 0x02 ∷ 0x30 ∷ 0x2F ∷ 0x63 ∷ 0x00
    ∷ 0x80 ∷ 0x00 ∷ 0x00 ∷ 0x01 ∷ 0x12 ∷ 0x00 ∷ 0x00 ∷ 0x02 ∷ 0x20 ∷ 0x00 ∷ 0x00 ∷ 0x02 ∷ 0x30 ∷ 0x2F ∷ 0x7A ∷ 0x00 ∷ []

-- `80000001 17000001 80000001 1700005B`: change 1, and then change 91
ninety-owed : List ℕ
ninety-owed = 0x80 ∷ 0x00 ∷ 0x00 ∷ 0x01 ∷ 0x17 ∷ 0x00 ∷ 0x00 ∷ 0x01 ∷ 0x80 ∷ 0x00 ∷ 0x00 ∷ 0x01 ∷ 0x17 ∷ 0x00 ∷ 0x00 ∷ 0x5B ∷ []

-- `80000001 17000001 40000001`
word-left : List ℕ
word-left = 0x80 ∷ 0x00 ∷ 0x00 ∷ 0x01 ∷ 0x17 ∷ 0x00 ∷ 0x00 ∷ 0x01 ∷ 0x40 ∷ 0x00 ∷ 0x00 ∷ 0x01 ∷ []

-- `80000001 17000001 80000002 15000001 40000010`: change 1 of run 1, and then change 1 of run 2
board-swap : List ℕ
board-swap =
    0x80 ∷ 0x00 ∷ 0x00 ∷ 0x01 ∷ 0x17 ∷ 0x00 ∷ 0x00 ∷ 0x01
    ∷ 0x80 ∷ 0x00 ∷ 0x00 ∷ 0x02 ∷ 0x15 ∷ 0x00 ∷ 0x00 ∷ 0x01 ∷ 0x40 ∷ 0x00 ∷ 0x00 ∷ 0x10 ∷ []

-- `17000001`
no-run : List ℕ
no-run = 0x17 ∷ 0x00 ∷ 0x00 ∷ 0x01 ∷ []

examples : (printed two-changes ≡ text "entries 2 changes 2 owed 0 switches 0 marks 1" ++ newline ++ text "D /z" ++ newline ++ text "G /c" ++ newline)
    × (printed ninety-owed ≡ text "entries 0 changes 1 owed 90 switches 0 marks 0" ++ newline)
    × (printed word-left ≡ text "entries 0 changes 1 owed 0 switches 0 marks 0" ++ newline ++ text "stopped at word 2" ++ newline)
    × (printed board-swap ≡ text "entries 0 changes 1 owed 0 switches 16 marks 0" ++ newline)
    × (printed no-run ≡ text "entries 0 changes 0 owed 0 switches 0 marks 0" ++ newline ++ text "stopped at word 0" ++ newline)
unfolding printed two-changes ninety-owed word-left board-swap no-run
    first_cause and_then unless
    same grown parted pieces without_empty components slashed spell
    is_absolute entered enter_all normalize is_resolved
    shared common depth is_prefix number_order or_else in_turn path_order is_path
    kind_of is_kind same_path strictly_extends compare_alike granted_order compare
    is_after search_from search place_by place placed_at
    has set_bit clear_bit marked path_bytes is_entry every any present marks_of is_table
    kept_unless without dropped_by inserted_by inserted adds would_add has_room overflows act_overflows apply_act
    room_cause with_room
    kind_in entries_at table_of are_within holds encode_entry encode_all encode put do_act
    act_number path_words path_part act_part change_words is_run_word is_length is_switches is_path_word with_bytes bytes_from if_resolved read_path with_path read_switches read_act with_number read_head read_first ended_by ended read_change
    conflict standby_in well_formed higher met applied in_run moved taken arrival owed_of
    is_plain escaped_byte escaped
    words_of stop after_arrival after_record after_next held_from
    decimal_by header entry_line entry_lines stopped_line listing_of
examples = (refl, refl, refl, refl, refl)
