-- `write_record` meets its contract, act by act.
use native.Mathlib.Omega.{arith}
use mathlib.Core.Path.{refl, ◌∙◌}
use lib.ListN.{length-set}
use Rattle.table.proofs.Overwrites.{appends-none, appends-as}
use Rattle.records.specs.Records.{path_part}
use Rattle.records.proofs.WritingLaws.{two-stores, three-stores, three-before, fits-short, no-record, path-record, switches-record, alone-record}
use Rattle.records.proofs.writing.write_record.Goals as goal

pub returns-in_default : goal.returns-in_default
returns-in_default c = appends-as (no-record _ _ _ _ (c.in_default.ensures.number _)) (appends-none _ _)

pub overflow_cast-q : goal.overflow_cast-q
overflow_cast-q c = omega (arith, fits-short _ c.args.q.now c.in-Insert.is c.requires.q_value)

pub word_of-requires-in-Insert : goal.word_of-requires-in-Insert
word_of-requires-in-Insert c = (omega arith, omega (arith, fits-short _ c.args.q.now c.in-Insert.is c.requires.q_value))

pub write_path_words-requires : goal.write_path_words-requires
write_path_words-requires c =
    let short = fits-short _ c.args.q.now c.in-Insert.is c.requires.q_value in
    (short, simp length-set (omega arith))

pub returns-in-Insert : goal.returns-in-Insert
unfolding path_part
returns-in-Insert c =
    let a = c.args in
    let w = c.write_path_words.ensures in
    appends-as (path-record _ a.q.now a.run a.number (c.in-Some.ensures.number _) c.in-Insert.is)
    (record {
      content =
          w.content
          ∙ rw (c.word_of.ensures, c.word_of-2.ensures, c.word_of-in-Insert.ensures) (three-before a.words.now a.at _ _ _ _ (omega arith));
      end = w.end ∙ omega arith;
    })

pub returns-in-SetSwitches : goal.returns-in-SetSwitches
returns-in-SetSwitches c =
    let a = c.args in
    appends-as (switches-record _ a.q.now a.run a.number (c.in-Some.ensures.number _) c.in-SetSwitches.is)
    (record {
      content = rw (c.word_of.ensures, c.word_of-2.ensures, c.word_of-in-SetSwitches.ensures, c.from.ensures) (three-stores a.words.now a.at _ _ _ (omega arith));
      end = refl;
    })

pub returns-in-RevokeAll : goal.returns-in-RevokeAll
returns-in-RevokeAll c =
    let a = c.args in
    appends-as (alone-record _ a.q.now a.run a.number (c.in-Some.ensures.number _) c.in-RevokeAll.is)
    (record { content = rw (c.word_of.ensures, c.word_of-2.ensures) (two-stores a.words.now a.at _ _ (omega arith)); end = refl })
