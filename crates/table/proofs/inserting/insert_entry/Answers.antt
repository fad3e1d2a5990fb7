-- `insert_entry` meets its contract, by the place that is found and by whether there is room.
use native.Mathlib.Omega.{arith}
use mathlib.Core.Path.{refl, sym, ◌∙◌}
use Rattle.table.specs.Memory.{table_of}
use Rattle.table.proofs.Puts.{count_of, room-parts}
use Rattle.table.proofs.ProbeLaws.{place_inside, inserts-found, inserts-full, inserts-added}
use Rattle.table.proofs.inserting.insert_entry.Goals as goal

pub returns-then-not-has_room : goal.returns-then-not-has_room
returns-then-not-has_room c = inserts-full _ _ (sym c.place.ensures ∙ c.in-At.is) (sym (c.has_room.ensures _ refl) ∙ c.if-not-has_room.true)

pub insert_at-requires : goal.insert_at-requires
insert_at-requires c =
    let a = c.args in
    let R = room-parts (table_of a.mem.now) (record { kind = a.kind; path = a.path.now }) (sym (c.has_room.ensures _ refl) ∙ c.if-not-has_room.false) in
    let inside = place_inside (table_of a.mem.now).entries (record { kind = a.kind; path = a.path.now }) (sym c.place.ensures ∙ c.in-At.is) in
    let n = count_of a.mem.now in
    record { mem_value = c.requires.mem_value; place_bound = (omega arith, omega arith); path_bound = R.bytes }

pub returns-in-Found : goal.returns-in-Found
returns-in-Found c = inserts-found _ _ (sym c.place.ensures ∙ c.in-Found.is) (c.set_mark.ensures _)

pub returns-else-not-has_room : goal.returns-else-not-has_room
returns-else-not-has_room c =
    inserts-added _ _ (sym c.place.ensures ∙ c.in-At.is) (sym (c.has_room.ensures _ refl) ∙ c.if-not-has_room.false) c.insert_at.ensures
