-- `has_room` meets its contract: the path bytes are what lies between the head and the end of the entries, less the head of each.
use native.Mathlib.Omega.{arith}
use Prim.Native.Nat.{◌+◌, ◌*◌, ◌≤◌}
use mathlib.Core.Path.{◌≡◌, sym}
use Rattle.table.specs.Tables.{max_path_bytes, path_bytes}
use Rattle.table.specs.Memory.{table_head, entry_head, table_of}
use Rattle.table.proofs.ProbeLaws.{ended, path-limit, room-full, room_by}
use Rattle.table.proofs.placing.has_room.Goals as goal

-- where the entries end
end_is : (c : goal.After-entry_offset)
    → c.entry_offset.result ≡ table_head + entry_head * c.word_at-count.result + path_bytes (table_of c.args.mem.now).entries
end_is c = ended _ c.requires c.word_at-count.ensures.0 c.entry_offset.ensures

limit : (c : goal.After-entry_offset) → path_bytes (table_of c.args.mem.now).entries ≤ max_path_bytes
limit c = path-limit _ c.requires

pub returns-then-count-ge-MAX_ENTRIES : goal.returns-then-count-ge-MAX_ENTRIES
returns-then-count-ge-MAX_ENTRIES c = λ e q. sym (room-full _ e c.word_at-count.ensures.0 (omega arith))

pub overflow_sub-bytes : goal.overflow_sub-bytes
overflow_sub-bytes c = omega (arith, end_is c)

pub overflow_sub-bytes-2 : goal.overflow_sub-bytes-2
overflow_sub-bytes-2 c = omega (arith, end_is c)

pub overflow_sub-result : goal.overflow_sub-result
overflow_sub-result c = omega (arith, end_is c, limit c)

pub returns : goal.returns
returns c =
    λ e q. sym (room_by _ e c.word_at-count.ensures.0 (omega arith) (end_is c) (limit c) q)
