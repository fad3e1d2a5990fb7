-- `create_child_permissions` meets its contract: a cause before any item, or the child is begun, the items are gone through, and the rest is taken over.
use Rattle.child.proofs.CreatingLaws.{first-held, creates-refused, through, through-held, creates}
use Rattle.child.proofs.creating.create_child_permissions.Goals as goal

pub returns-in-Err : goal.returns-in-Err
returns-in-Err c = creates-refused (c.in-Err.ensures c.args.number.now c.args.cwd.now) c.new.ensures

pub grant_all-sent-requires-clause-parent_value : goal.grant_all-sent-requires-clause-parent_value
grant_all-sent-requires-clause-parent_value c =
    let P = c.in-Ok.ensures in (P.parent, first-held _ _ _ P.parent P.child c.begin.ensures)

pub complete-requires : goal.complete-requires
complete-requires c = through-held (through _ _ _ _ _ _ _ _ c.in-Ok.ensures c.begin.ensures c.grant_all-sent.ensures)

pub returns : goal.returns
returns c = creates (through _ _ _ _ _ _ _ _ c.in-Ok.ensures c.begin.ensures c.grant_all-sent.ensures) c.complete.ensures c.new-2.ensures
