-- `read_path_of` meets its contract, at each way out.
use Prim.Native.Nat.{◌≤◌}
use mathlib.Core.Path.{sym, ◌∙◌}
use native.Mathlib.Omega.{arith}
use lib.ListN.{length, drop, length-drop}
use Rattle.records.specs.Steps.{words_for}
use Rattle.records.proofs.ReadingLaws.{path-cut, own-words, work-spells, size_is, start-put, path-other, path-unresolved, path-taken}
use Rattle.records.proofs.reading.read_path_of.Goals as goal
use Rattle.records.proofs.reading.read_path_of.Goals.{
  then-not-are_words_of-via-then-not-are_words_of,
  then-not-are_words_of-via-else-not-are_words_of+then-not-is_resolved,
}

pub returns-then-left-count : goal.returns-then-left-count
returns-then-left-count c = path-cut _ _ _ (omega arith)

pub returns-then-not-are_words_of : goal.returns-then-not-are_words_of
returns-then-not-are_words_of c =
    let ws = c.args.words.now in
    let at = c.args.at in
    let n = c.args.n in
    let own = own-words ws at n c.words_for-count.ensures in
    let room : words_for n ≤ length (drop at ws) = omega (arith, length-drop at ws) in
    let spells = work-spells _ (drop at ws) _ _ n own c.take_bytes.ensures room in
    elim c.then-not-are_words_of.branch [
      | then-not-are_words_of-via-then-not-are_words_of w ↦
          path-other ws at n own spells room (sym c.are_words_of.ensures ∙ w.if-not-are_words_of.true)
      | then-not-are_words_of-via-else-not-are_words_of+then-not-is_resolved w ↦
          path-unresolved ws at n own spells room (sym c.are_words_of.ensures ∙ w.if-not-are_words_of.false)
          (sym w.is_resolved.ensures ∙ w.if-not-is_resolved.true)
    ]

pub returns : goal.returns
returns c =
    let ws = c.args.words.now in
    let at = c.args.at in
    let n = c.args.n in
    let own = own-words ws at n c.words_for-count.ensures in
    let room : words_for n ≤ length (drop at ws) = omega (arith, length-drop at ws) in
    let spells = work-spells _ (drop at ws) _ _ n own c.take_bytes.ensures room in
    path-taken ws at n own spells room (sym c.if-not-are_words_of.ensures) (sym c.if-not-is_resolved.ensures) c.words_for-count.ensures
    (start-put _ _ _ n c.copy_from_slice.ensures.after (size_is ws at n own spells room))
