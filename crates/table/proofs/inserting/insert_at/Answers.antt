-- `insert_at` meets its contract: what its calls ensure, step by step, is what the law of an insert asks.
use Prim.Native.Nat.{ℕ}
use mathlib.Core.Path.{◌≡◌, ap, ◌∙◌}
use native.Mathlib.Omega.{arith}
use Rattle.std.proofs.Common.{rules}
use lib.ListN.{length}
use Rattle.table.specs.Memory.{table_head, word_at, offset_at}
use Rattle.table.proofs.Inserts.{Room, room, insert-steps}
use Rattle.table.proofs.inserting.insert_at.Goals as goal
use Rattle.table.proofs.inserting.insert_at.Goals.{After-entry_offset-end}

-- where the entries end
end-is : (c : After-entry_offset-end) → c.entry_offset-end.result ≡ offset_at c.args.mem.now (word_at c.args.mem.now 0) table_head
end-is c = c.entry_offset-end.ensures ∙ ap (λ (k : ℕ). offset_at c.args.mem.now k table_head) c.word_at-count.ensures.0

has-room : (c : After-entry_offset-end) → Room c.args.mem.now c.args.place (length c.args.path.now)
has-room c = let q = c.requires in room _ q.mem_value c.args.place (length c.args.path.now) q.place_bound.0 q.place_bound.1 q.path_bound

pub overflow_add-start : goal.overflow_add-start
overflow_add-start c = let a = (goal.at.overflow_add-start c).After-entry_offset-end in omega (arith, end-is a, has-room a)

pub overflow_add-start-2 : goal.overflow_add-start-2
overflow_add-start-2 c = let a = (goal.at.overflow_add-start-2 c).After-entry_offset-end in omega (arith, end-is a, has-room a)

pub overflow_sub-end : goal.overflow_sub-end
overflow_sub-end c = let a = (goal.at.overflow_sub-end c).After-entry_offset-end in omega (arith, end-is a, has-room a)

pub move_bytes-requires : goal.move_bytes-requires
move_bytes-requires c = let a = (goal.at.move_bytes-requires c).After-entry_offset-end in omega (arith, end-is a, has-room a)

pub write_entry-requires : goal.write_entry-requires
write_entry-requires c = let a = (goal.at.write_entry-requires c).After-entry_offset-end in omega (arith, end-is a, has-room a)

pub returns : goal.returns
returns c =
    let q = c.requires in
    let a = (goal.at.returns c).After-entry_offset-end in
    insert-steps c.args.mem.now (record { each = λ i. search rules }) q.mem_value
    c.args.place q.place_bound.0 (record { kind = c.args.kind; path = c.args.path.now }) _ _ _ _ _ _ _ (has-room a)
    c.entry_offset-start.ensures (end-is a) c.word_at-count.ensures.0 c.marked-marks.ensures
    c.move_bytes.ensures c.write_entry.ensures c.set_count.ensures
