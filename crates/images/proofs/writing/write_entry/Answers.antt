-- `write_entry` meets its contract: its store and the path words are one sequence of words.
use mathlib.Core.Path.{◌∙◌}
use native.Mathlib.Omega.{arith}
use lib.ListN.{length-set}
use Rattle.table.specs.Held.{entry_of}
use Rattle.table.proofs.Within.{number_small}
use Rattle.images.specs.Images.{entry_words}
use Rattle.images.proofs.ImageLaws.{entry_length}
use Rattle.images.proofs.WritingLaws.{one-before, path-fits}
use Rattle.images.proofs.writing.write_entry.Goals as goal

pub overflow_cast-entry : goal.overflow_cast-entry
overflow_cast-entry c = let fits = path-fits (entry_of c.args.entry) c.args.entry.sound in omega arith

pub overflow_add-kind : goal.overflow_add-kind
overflow_add-kind c =
    let fits = path-fits (entry_of c.args.entry) c.args.entry.sound in
    omega (arith, c.from-kind.ensures, c.from.ensures, number_small c.args.entry.kind)

pub word_of-requires : goal.word_of-requires
word_of-requires c =
    let fits = path-fits (entry_of c.args.entry) c.args.entry.sound in
    (omega arith, omega (arith, c.from-kind.ensures, c.from.ensures, number_small c.args.entry.kind))

pub bounds-words-at : goal.bounds-words-at
bounds-words-at c = omega (arith, entry_length (entry_of c.args.entry))

pub write_path_words-requires : goal.write_path_words-requires
write_path_words-requires c =
    (path-fits (entry_of c.args.entry) c.args.entry.sound, simp length-set (omega (arith, entry_length (entry_of c.args.entry))))

pub returns : goal.returns
unfolding entry_words
returns c =
    record {
      content =
          c.write_path_words.ensures.content
          ∙ rw (c.word_of.ensures, c.from-kind.ensures, c.from.ensures)
          (one-before c.args.words.now c.args.at _ _ (omega (arith, entry_length (entry_of c.args.entry))));
      end = c.write_path_words.ensures.end ∙ omega arith;
    }
