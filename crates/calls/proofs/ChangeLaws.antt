-- Laws of the calls that set switches and insert: each way through the checking order.
use Rattle.std.specs.Prelude.{Ok, Err}
use Prim.Native.Nat.{ℕ, ◌≤◌, ◌<◌}
use mathlib.Core.Path.{◌≡◌}
use mathlib.Core.List.{List}
use mathlib.Core.Bool.{true, false}
use borrow.Author.Tests.{lt-ltb, le-ltb}
use Rattle.refusals.specs.declared.Refusal.{Refusal}
use Rattle.refusals.specs.declared.Refusal.TheVariants.{NoTable, Unknown}
use Rattle.refusals.specs.Refusals.{first_cause, Result, and_then, unless}
use Rattle.paths.specs.declared.Descriptor.TheVariants.{Path}
use Rattle.paths.specs.Giving.{resolved, query_of, given}
use Rattle.table.specs.declared.Kind.{Kind}
use Rattle.table.specs.Entries.{kind_of, known_kind}
use Rattle.table.specs.Tables.{max_switches}
use Rattle.table.specs.Acts.{insert, set_switches}
use Rattle.table.specs.Memory.{table_of, holds}
use Rattle.table.proofs.CallLaws.{no_table, a-table}
use Rattle.link.specs.declared.Link.{Link}
use Rattle.link.specs.Linking.{numbering, admit, carried}
use Rattle.link.specs.Steps.{Admits}
use Rattle.link.proofs.LinkLaws.{not_admitted, room-long, run-known}
use Rattle.link.specs.Sending.{Lent}
use Rattle.calls.specs.Changes.{known_switches, switches_call, insert_call}

-- ---- switches

module _ (link : Link) (l : Lent) (v : ℕ) where
  pub switches-no-table : holds l.memory ≡ false → switches_call link l v ≡ Err NoTable
  unfolding switches_call and_then
  switches-no-table h = rw (no_table l.memory h)

  module _ (h : holds l.memory ≡ true) where
    pub switches-barred : {cause : Refusal} → Err cause ≡ admit 1 link l.words → switches_call link l v ≡ Err cause
    unfolding switches_call and_then
    switches-barred e = rw (a-table l.memory h) (not_admitted _ _ _ _ _ e)

    module _ (A : Admits 1 link l.words) where
      pub switches-unknown : max_switches < v → switches_call link l v ≡ Err Unknown
      unfolding switches_call and_then known_switches first_cause unless
      switches-unknown h₂ = rw (a-table l.memory h, room-long 1 link l.words A.roomy, run-known link l.number A.run, lt-ltb _ _ h₂)

      pub switches-known : v ≤ max_switches → switches_call link l v ≡ carried (numbering link l.number) (table_of l.memory) (set_switches v)
      unfolding switches_call and_then known_switches first_cause unless
      switches-known h₂ = rw (a-table l.memory h, room-long 1 link l.words A.roomy, run-known link l.number A.run, le-ltb _ _ h₂)

-- ---- insert

module _ (link : Link) (l : Lent) (kind : ℕ) (p cwd : List ℕ) where
  pub insert-no-table : holds l.memory ≡ false → insert_call link l kind p cwd ≡ Err NoTable
  unfolding insert_call and_then
  insert-no-table h = rw (no_table l.memory h)

  module _ (h : holds l.memory ≡ true) where
    pub insert-barred : {cause : Refusal} → Err cause ≡ admit 1 link l.words → insert_call link l kind p cwd ≡ Err cause
    unfolding insert_call and_then
    insert-barred e = rw (a-table l.memory h) (not_admitted _ _ _ _ _ e)

    module _ (A : Admits 1 link l.words) where
      pub insert-unknown : {cause : Refusal} → known_kind (kind_of kind) ≡ Err cause → insert_call link l kind p cwd ≡ Err cause
      unfolding insert_call and_then
      insert-unknown e = rw (a-table l.memory h, room-long 1 link l.words A.roomy, run-known link l.number A.run, e)

      module _ {k : Kind} (e : known_kind (kind_of kind) ≡ Ok k) where
        pub insert-refused : {cause : Refusal} → given Path p cwd ≡ Err cause → insert_call link l kind p cwd ≡ Err cause
        unfolding insert_call and_then given query_of
        insert-refused g = rw (a-table l.memory h, room-long 1 link l.words A.roomy, run-known link l.number A.run, e) (go (resolved p cwd) g)
          where
            go : {cause : Refusal} (r : Result (List ℕ)) → and_then r (λ q. Ok (query_of Path q)) ≡ Err cause
                → and_then r (λ q. carried (numbering link l.number) (table_of l.memory) (insert (record { kind = k; path = q }))) ≡ Err cause
            go (Err c) f = cc
            go (Ok q) f = cc

        pub insert-known : (q : List ℕ) → given Path p cwd ≡ Ok (query_of Path q)
            → insert_call link l kind p cwd ≡ carried (numbering link l.number) (table_of l.memory) (insert (record { kind = k; path = q }))
        unfolding insert_call and_then given query_of
        insert-known q g = rw (a-table l.memory h, room-long 1 link l.words A.roomy, run-known link l.number A.run, e) (go q (resolved p cwd) g)
          where
            go : (q : List ℕ) (r : Result (List ℕ)) → and_then r (λ q. Ok (query_of Path q)) ≡ Ok (query_of Path q)
                → and_then r (λ q. carried (numbering link l.number) (table_of l.memory) (insert (record { kind = k; path = q }))) ≡ carried (numbering link l.number) (table_of l.memory) (insert (record { kind = k; path = q }))
            go q (Err c) f = cc
            go q (Ok p) f = cc
