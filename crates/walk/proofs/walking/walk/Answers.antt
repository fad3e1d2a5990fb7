use mathlib.Core.Path.{refl, sym, ◌∙◌}
use Rattle.table.specs.Held.{entry_of}
use Rattle.walk.proofs.SeeingLaws.{path-resolved, sees-passed, walking_start, walking_on, walking-end, walking-settled}
use Rattle.walk.proofs.walking.walk.Goals as goal

pub loop-entry-init : goal.loop-entry-init
loop-entry-init c = walking_start _ _ _ (c.into_iter-entry-iterator.ensures.into_iter_gives ∙ c.entries-entry-items.ensures.list) refl refl

pub meet-met-requires : goal.meet-met-requires
meet-met-requires c = (path-resolved (entry_of c.in-Some.entry) c.in-Some.entry.sound, c.is_resolved-resolved.ensures)

pub returns-then-is_settled : goal.returns-then-is_settled
returns-then-is_settled c =
    let W = c.loop-entry.invariant in
    walking-settled _ (sym c.is_settled.ensures ∙ c.if-is_settled.true)
    (walking_on c.in-Some.ensures.steps W (c.with_entry-seen.ensures.more _ _ _ refl c.meet-met.ensures W.sees))

pub loop-entry-preserved-else-is_settled : goal.loop-entry-preserved-else-is_settled
loop-entry-preserved-else-is_settled c =
    let W = c.loop-entry.invariant in
    walking_on c.in-Some.ensures.steps W (c.with_entry-seen.ensures.more _ _ _ refl c.meet-met.ensures W.sees)

pub loop-entry-preserved : goal.loop-entry-preserved
loop-entry-preserved c =
    let W = c.loop-entry.invariant in
    walking_on c.in-Some.ensures.steps W (sees-passed _ _ _ c.meet-met.ensures c.if-met.false W.sees)

pub returns : goal.returns
returns c = walking-end _ c.in-None.ensures.steps.0 c.loop-entry.invariant
