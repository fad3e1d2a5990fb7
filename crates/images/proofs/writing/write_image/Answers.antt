use mathlib.Core.Path.{refl, ◌∙◌}
use native.Mathlib.Omega.{arith}
use lib.ListN.{length-set}
use Rattle.images.specs.Images.{image_words, image_size}
use Rattle.images.proofs.WritingLaws.{writing_start, writing-fits, writing-next, writing-done}
use Rattle.images.proofs.writing.write_image.Goals as goal

pub bounds-words-0 : goal.bounds-words-0
unfolding image_size
bounds-words-0 c = omega arith

pub bounds-words-1 : goal.bounds-words-1
unfolding image_size
bounds-words-1 c = simp length-set (omega arith)

pub bounds-words-2 : goal.bounds-words-2
unfolding image_size
bounds-words-2 c = simp length-set (omega arith)

pub loop-entry-init : goal.loop-entry-init
loop-entry-init c =
    writing_start _ _ (simp length-set c.requires.2)
    (c.into_iter-entry-iterator.ensures.into_iter_gives ∙ c.entries-entry-items.ensures.list)

pub write_entry-at-requires : goal.write_entry-at-requires
write_entry-at-requires c = writing-fits c.loop-entry.invariant c.in-Some.ensures.steps

pub loop-entry-preserved : goal.loop-entry-preserved
loop-entry-preserved c = writing-next c.loop-entry.invariant c.in-Some.ensures.steps c.write_entry-at.ensures c.write_entry-at.auto.words

pub returns : goal.returns
unfolding image_words image_size
returns c =
    writing-done c.loop-entry.invariant c.args.words.now c.word_of.result c.word_of-2.result c.word_of-3.result c.in-None.ensures.steps.0 refl (omega arith)
    ∙ rw (
      c.word_of.ensures,
      c.word_of-2.ensures,
      c.word_of-3.ensures,
      c.from.ensures,
      c.from-2.ensures,
      c.switches.ensures.0,
      c.marks.ensures.0,
      c.count.ensures.0,
    )
