-- `escape` meets its contract. The loop's invariant: the first bytes are written, and there is room for the others.
use Rattle.text.proofs.EscapeLaws.{Escaping}
use Rattle.text.proofs.escaping.escape.Given as goal

abbrev pub invariant-loop-byte : goal.invariant-loop-byte
invariant-loop-byte l = Escaping l.path l.initial.space l.at l.space l.end l.byte-index
