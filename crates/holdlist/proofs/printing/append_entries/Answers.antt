use Rattle.holdlist.proofs.LineLaws.{lining-start, lining-room, lining-next, lining-end}
use Rattle.holdlist.proofs.printing.append_entries.Goals as goal

pub loop-entry-init : goal.loop-entry-init
loop-entry-init c =
    lining-start _ _ _ c.into_iter-entry-iterator.ensures.into_iter_gives c.requires

pub append_entry-end-requires : goal.append_entry-end-requires
append_entry-end-requires c = lining-room c.loop-entry.invariant c.in-Some.ensures.steps

pub loop-entry-preserved : goal.loop-entry-preserved
loop-entry-preserved c = lining-next c.loop-entry.invariant c.in-Some.ensures.steps c.append_entry-end.ensures c.append_entry-end.auto.space

pub returns : goal.returns
returns c = lining-end c.loop-entry.invariant c.in-None.ensures.steps.0
