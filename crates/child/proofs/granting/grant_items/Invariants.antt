-- `grant_items` meets its contract. The loop's invariant: whatever the items from i on make and record, the whole list makes and records.
use Rattle.child.proofs.GrantingLaws.{GoingSent}
use Rattle.child.proofs.granting.grant_items.Given as goal

abbrev pub invariant-loop-i : goal.invariant-loop-i
invariant-loop-i l = GoingSent l.cwd l.list.bytes.now l.list.ends.now l.list.responses.now l.initial.parent l.initial.child l.link l.initial.number l.initial.words l.parent l.child l.number l.words l.asked l.at l.from l.i
