-- `next` meets its contract: the entry there comes first, and then those from the next place on.
use Prim.Native.Nat.{ℕ, ◌<◌, ◌-◌}
use mathlib.Core.List.{List}
use mathlib.Core.Path.{◌≡◌, sym, ◌∙◌}
use native.Mathlib.Omega.{arith}
use lib.ListN.{length}
use Rattle.table.specs.Memory.{next_at, entries_at}
use Rattle.table.specs.Reading.{Rest}
use Rattle.table.proofs.Within.{Here, rest-here, rest-next, entries_at-step, entries_at-none}
use Rattle.table.proofs.held.EntriesIterator.next.Goals as goal

-- the entry there
here : {m : List ℕ} {n at : ℕ} → ¬ (n ≡ 0) → Rest m n at → Here m at
here h r = rest-here (omega arith) r

pub returns-then-self-eq0-clause-steps : goal.returns-then-self-eq0-clause-steps
returns-then-self-eq0-clause-steps c =
    let none = entries_at-none c.self.inside.mem.now c.self.inside.left c.self.inside.at (omega arith) in
    (sym c.self.view_is ∙ none, sym c.self.view_is ∙ none)

pub overflow_add-self : goal.overflow_add-self
overflow_add-self c = omega (arith, (here c.if-self-eq0.false c.self.invariant).inside, c.self.told.0)

pub overflow_add-at : goal.overflow_add-at
overflow_add-at c = omega (arith, (here c.if-self-eq0.false c.self.invariant).inside, c.self.told.0)

pub word_at-requires : goal.word_at-requires
word_at-requires c = omega (arith, (here c.if-self-eq0.false c.self.invariant).inside)

pub overflow_add-self-2 : goal.overflow_add-self-2
overflow_add-self-2 c = rw c.word_at.ensures.0 (omega (arith, (here c.if-self-eq0.false c.self.invariant).inside, c.self.told.0))

pub bounds-mem-at : goal.bounds-mem-at
bounds-mem-at c = omega (arith, (here c.if-self-eq0.false c.self.invariant).inside)

pub entry_path-requires : goal.entry_path-requires
entry_path-requires c = (here c.if-self-eq0.false c.self.invariant).inside

pub invariant_of-result : goal.invariant_of-result
invariant_of-result c =
    record { sound = rw (c.kind_from.ensures, c.entry_path.ensures) (here c.if-self-eq0.false c.self.invariant).good }

pub invariant_of-self : goal.invariant_of-self
invariant_of-self c = rw c.word_at.ensures.0 (rest-next (omega arith) c.self.invariant)

pub returns-clause-steps : goal.returns-clause-steps
returns-clause-steps c =
    rw (← c.self.view_is, c.kind_from.ensures, c.entry_path.ensures, c.word_at.ensures.0)
    (entries_at-step c.self.inside.mem.now c.self.inside.left (omega arith) c.self.inside.at)

pub returns-clause-goes : goal.returns-clause-goes
returns-clause-goes c =
    let fewer : length (entries_at c.self.inside.mem.now (c.self.inside.left - 1) (next_at c.self.inside.mem.now c.self.inside.at)) < length c.args.self.now =
    rw (← c.self.view_is, entries_at-step c.self.inside.mem.now c.self.inside.left (omega arith) c.self.inside.at) (omega arith) in
    record { on = λ f. (tt, tt, rw c.word_at.ensures.0 fewer); keeps = tt; rests = λ f. tt }
