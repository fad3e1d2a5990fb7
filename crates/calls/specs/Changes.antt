-- The calls that set switches and insert an entry, plain and linked: for each its checking order, and what it answers and leaves. Scope, "A call comes in".
use Rattle.std.specs.Prelude.{ℕ, List, [], ◌∷◌, ltb}
use Rattle.refusals.specs.declared.Refusal.TheVariants.{Unknown}
use Rattle.refusals.specs.Refusals.{when, first_cause, Result, and_then, unless}
use Rattle.paths.specs.Giving.{resolved}
use Rattle.table.specs.Entries.{kind_of, known_kind}
use Rattle.table.specs.Tables.{max_switches}
use Rattle.table.specs.Acts.{Act, insert, set_switches}
use Rattle.table.specs.Calls.{table_in}
use Rattle.link.specs.declared.Link.{Link}
use Rattle.link.specs.Linking.{room_in, run_in, carried}
use Rattle.link.specs.Sending.{Lent, Does}

-- ---- switches

-- 3: known switches
unfoldable pub known_switches : ℕ → Result ℕ
known_switches v = unless (first_cause (when (ltb max_switches v) Unknown ∷ [])) v

-- 1, 2, 3, 9; l is what is lent
unfoldable pub switches_call : Link → Lent → ℕ → Result Act
switches_call link l v =
    and_then (table_in l.memory) (λ t.
    and_then (room_in 1 link l.words) (λ room.
    and_then (run_in link l.number) (λ numbers.
    and_then (known_switches v) (λ k.
    carried numbers t (set_switches k)))))

abbrev pub SetsSwitches : Link → Lent → ℕ → Lent → Result ℕ → Type 0
SetsSwitches link l v l' r = Does link (switches_call link l v) l l' r

-- ---- insert

-- 1, 2, 3, 4 to 7, 8, 9
unfoldable pub insert_call : Link → Lent → ℕ → List ℕ → List ℕ → Result Act
insert_call link l kind p cwd =
    and_then (table_in l.memory) (λ t.
    and_then (room_in 1 link l.words) (λ room.
    and_then (run_in link l.number) (λ numbers.
    and_then (known_kind (kind_of kind)) (λ k.
    and_then (resolved p cwd) (λ q.
    carried numbers t (insert (record { kind = k; path = q })))))))

abbrev pub Inserts : Link → Lent → ℕ → List ℕ → List ℕ → Lent → Result ℕ → Type 0
Inserts link l kind p cwd l' r = Does link (insert_call link l kind p cwd) l l' r
