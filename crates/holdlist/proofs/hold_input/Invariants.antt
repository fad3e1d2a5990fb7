-- `hold_input` meets its contract. The loop's invariant: the buffer's first bytes are what is left of the input so far.
use Rattle.holdlist.proofs.InputLaws.{Part}
use Rattle.holdlist.proofs.hold_input.Given as goal

abbrev pub invariant-loop : goal.invariant-loop
invariant-loop g l = Part l.initial.mem l.mem l.buffer l.held l.left l.counter
