-- `grant_all` meets its contract, argument by argument.
use native.Mathlib.Omega.{arith}
use Rattle.child.specs.Arguments.{responses_due}
use Rattle.child.proofs.ArgumentLaws.{due-many, listed}
use Rattle.child.proofs.GrantingLaws.{one-ready, sent-none, sent-one, sent-list}
use Rattle.child.proofs.granting.grant_all.Goals as goal

pub response_at-requires : goal.response_at-requires
unfolding responses_due
response_at-requires c = (c.requires.responses_value.0, rw (due-many _ _ _ _ c.requires.responses_value.1, c.in-Granted.is) (omega arith))

pub grant_item-requires : goal.grant_item-requires
grant_item-requires c = let pre = c.requires in (pre.parent_value.0, pre.parent_value.1, one-ready _ _ _ pre.admits)

pub grant_items-requires : goal.grant_items-requires
grant_items-requires c =
    let pre = c.requires in
    (pre.parent_value.0, pre.parent_value.1, listed _ _ _ _ c.in-GrantedList.is pre.responses_value.1 pre.responses_value.0, pre.admits)

pub returns-in-Inherit : goal.returns-in-Inherit
returns-in-Inherit c = λ known k. sent-none _ _ _ known c.in-Inherit.is c.new.ensures

pub returns-in-Granted : goal.returns-in-Granted
unfolding responses_due
returns-in-Granted c = λ known k. sent-one _ _ _ _ known c.in-Granted.is (rw (due-many _ _ _ _ c.requires.responses_value.1, c.in-Granted.is) (omega arith)) k c.response_at.ensures c.grant_item.ensures

pub returns-in-GrantedList : goal.returns-in-GrantedList
returns-in-GrantedList c = λ known k. sent-list _ _ _ known c.in-GrantedList.is (c.grant_items.ensures known k)
