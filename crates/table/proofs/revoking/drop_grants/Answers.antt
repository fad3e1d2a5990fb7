use Prim.Native.Nat.{ℕ, ◌+◌, ◌-◌, ◌≤◌}
use mathlib.Core.Path.{◌≡◌, refl, sym, ap, ◌∙◌}
use mathlib.Core.Bool.{Bool}
use mathlib.Core.List.{List}
use native.Mathlib.Omega.{arith}
use native.Mathlib.Nat.{sub-zero}
use lib.ListN.{length}
use Rattle.std.proofs.Common.{rules}
use Rattle.std.proofs.lemmas.Fn.{says_at}
use Rattle.table.specs.Acts.{dropped_by}
use Rattle.table.specs.Changing.{Selects}
use Rattle.table.specs.Entries.{is_granted}
use Rattle.table.specs.Memory.{entry_head, len_at, next_at, entry_at}
use Rattle.table.proofs.RevokeLaws.{same-grant, stays, goes, kept-start, next-inside, kept-skip, kept_move, kept-end}
use Rattle.table.proofs.revoking.drop_grants.Given.{Over}
use Rattle.table.proofs.revoking.drop_grants.Goals as goal
use Rattle.table.proofs.revoking.drop_grants.Goals.{In-loop, Joined-eq, then-eq, else-eq, then-not-goes, else-not-goes}

-- the entry that comes next lies within the memory
inside : (g : Over) (c : In-loop g) → next_at c.loop.mem c.loop.from ≤ length c.loop.mem
inside g c = next-inside (omega arith) c.loop.invariant

-- it goes where it is a grant that the closure selects
goes-by : (g : Over) (c : Joined-eq g) (selected : List ℕ → Bool) → Selects g.F.Fn c.args.selects selected
    → dropped_by selected (entry_at c.loop.mem c.loop.from) ≡ c.if-eq.goes
goes-by g c selected S =
    let kind : is_granted (entry_at c.loop.mem c.loop.from).kind ≡ c.eq.result = sym (c.eq.ensures ∙ same-grant _ ∙ ap is_granted c.kind_from.ensures) in
    elim c.if-eq.branch [
      | then-eq w ↦
          goes selected _ (kind ∙ w.if-eq.true) (S.answers _ _ (says_at g.F.Fn w.selects-goes.ensures refl) ∙ ap selected w.entry_path.ensures)
          ∙ sym w.goes-is
      | else-eq w ↦ stays selected _ (kind ∙ w.if-eq.false) ∙ sym (w.goes-is ∙ w.if-eq.false)
    ]

pub loop-init : goal.loop-init
loop-init g c = rw (sub-zero c.word_at-end.result, c.word_at-end.ensures.0) (kept-start _ _ c.requires.mem_value)

pub overflow_add-from : goal.overflow_add-from
overflow_add-from g c = omega (arith, inside g (goal.at.overflow_add-from g c).In-loop)

pub word_at-size-requires : goal.word_at-size-requires
word_at-size-requires g c = omega (arith, inside g (goal.at.word_at-size-requires g c).In-loop)

pub bounds-mem-from : goal.bounds-mem-from
bounds-mem-from g c = omega (arith, inside g (goal.at.bounds-mem-from g c).In-loop)

pub entry_path-requires : goal.entry_path-requires
entry_path-requires g c = inside g (goal.at.entry_path-requires g c).In-loop

pub move_bytes-requires : goal.move_bytes-requires
move_bytes-requires g c =
    let i = inside g (goal.at.move_bytes-requires g c).In-loop in
    omega (arith, c.loop.invariant.order, c.word_at-size.ensures.0)

pub overflow_add-to : goal.overflow_add-to
overflow_add-to g c =
    omega (arith, inside g (goal.at.overflow_add-to g c).In-loop, c.loop.invariant.order, c.word_at-size.ensures.0)

pub overflow_add-from-in-loop : goal.overflow_add-from-in-loop
overflow_add-from-in-loop g c =
    omega (arith, inside g (goal.at.overflow_add-from-in-loop g c).In-loop, c.word_at-size.ensures.0)

pub loop-preserved : goal.loop-preserved
loop-preserved g c =
    let e : c.word_at-end.result - (c.loop.counter + 1) ≡ c.word_at-end.result - c.loop.counter - 1 = omega arith in
    let size : c.word_at-size.result + entry_head ≡ len_at c.loop.mem c.loop.from + entry_head = omega (arith, c.word_at-size.ensures.0) in
    let by = goes-by g (goal.at.loop-preserved g c).Joined-eq in
    elim c.if-not-goes.branch [
      | then-not-goes w ↦
          rw (e, w.mem-is, w.kept-is, w.to-is)
          (kept_move (omega arith) c.loop.invariant _ size (record { each = λ k. search rules }) _
          (λ selected S. by selected S ∙ w.if-not-goes.true) w.move_bytes.ensures w.move_bytes.auto.mem)
      | else-not-goes w ↦
          rw (e, w.mem-is, w.kept-is, w.to-is) (kept-skip (omega arith) c.loop.invariant _ size (λ selected S. by selected S ∙ w.if-not-goes.false))
    ]

pub returns : goal.returns
returns g c =
    kept-end c.args.mem.now _ _ _ _ _ _ (record { each = λ k. search rules }) c.requires.mem_value (omega arith) c.loop.invariant c.set_count.ensures
