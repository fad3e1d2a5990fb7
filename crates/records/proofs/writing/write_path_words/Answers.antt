use mathlib.Core.Path.{◌∙◌}
use native.Mathlib.Omega.{arith}
use lib.ListN.{length}
use Rattle.std.proofs.lemmas.Iterator.Consumers.{YieldsList-from_enumerate, YieldsList-turn, YieldsList-end}
use Rattle.std.proofs.lemmas.List.{length_push}
use Rattle.std.proofs.lemmas.List.Edits.{paste_more}
use Rattle.paths.proofs.CopyLaws.{paste-whole}
use Rattle.records.specs.Records.{path_words}
use Rattle.records.proofs.RecordLaws.{path-count}
use Rattle.records.proofs.SpellingLaws.{chunks-pieces, piece-at, piece-places}
use Rattle.records.proofs.writing.write_path_words.Goals as goal

pub loop-k-preserved : goal.loop-k-preserved
loop-k-preserved c =
    let a = c.args in
    let p = a.p.now in
    let done = c.loop-k.yielded in
    let T =
    YieldsList-turn (YieldsList-from_enumerate (chunks-pieces p (cc) (cc)) cc) done _ c.loop-k.yielded_by _ _ (c.in-Some.k, c.in-Some.bytes) c.in-Some.is
    c.next.ensures.steps in
    let Q = piece-at p (length done) c.in-Some.k c.in-Some.bytes.now T.0 T.1 in
    rw (c.path_word.ensures ∙ Q.2, Q.0, c.loop-k.invariant, length_push)
    (paste_more a.words.now a.at (path_words p) (length done) 0 (omega (arith, Q.1, path-count p)) Q.1)

pub returns : goal.returns
returns c =
    let a = c.args in
    let p = a.p.now in
    let T =
    YieldsList-end (YieldsList-from_enumerate (chunks-pieces p (cc) (cc)) cc) c.loop-k.yielded _ c.loop-k.yielded_by _ _ c.in-None.is c.next.ensures.steps in
    record {
      content = c.loop-k.invariant ∙ rw (T.1, piece-places p) (paste-whole a.words.now a.at (path_words p));
      end = omega (arith, path-count p);
    }
