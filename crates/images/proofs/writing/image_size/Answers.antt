use mathlib.Core.Path.{◌∙◌}
use Rattle.table.specs.Held.{entry_of}
use Rattle.images.proofs.WritingLaws.{path-fits, counting-start, counting-next, counting-done}
use Rattle.images.proofs.writing.image_size.Goals as goal

pub loop-entry-init : goal.loop-entry-init
loop-entry-init c =
    counting-start _ c.entries-entry-items.ensures.limits (c.into_iter-entry-iterator.ensures.into_iter_gives ∙ c.entries-entry-items.ensures.list)

pub words_for-requires : goal.words_for-requires
words_for-requires c = path-fits (entry_of c.in-Some.entry) c.in-Some.entry.sound

pub loop-entry-preserved : goal.loop-entry-preserved
loop-entry-preserved c = counting-next c.loop-entry.invariant c.in-Some.ensures.steps c.words_for.ensures

pub returns : goal.returns
returns c = counting-done c.loop-entry.invariant c.in-None.ensures.steps.0
