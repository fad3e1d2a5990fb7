-- `hold_on` meets its contract.
use native.Mathlib.Omega.{arith}
use lib.ListN.{length}
use Rattle.holdlist.specs.Holding.{beginning}
use Rattle.holdlist.proofs.HoldingLaws.{held-inside, on-stopped, on-held}
use Rattle.holdlist.proofs.reading.hold_on.Goals as goal

pub returns-then-held : goal.returns-then-held
returns-then-held c = let a = c.args in on-stopped a.keep a.bytes.now a.mem.now a.held c.if-held.true

pub overflow_add-result : goal.overflow_add-result
overflow_add-result c =
    let a = c.args in
    let few = held-inside a.keep (length a.bytes.now) (beginning a.mem.now a.held.numbers) a.bytes.now (omega arith) in
    omega (arith, c.hold-next.ensures.words, c.requires)

pub returns : goal.returns
returns c =
    let a = c.args in
    on-held a.keep a.bytes.now a.mem.now a.held c.if-held.false c.hold-next.ensures
