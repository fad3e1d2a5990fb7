-- The first cause that holds is answered, and else the resolved path handed over. Assumes nothing.
use Rattle.paths.proofs.Answering.{resolves-empty, resolves-long, resolves-bad, resolves-path}
use Rattle.paths.proofs.resolving.resolve.Goals as goal

pub returns-then-is_empty : goal.returns-then-is_empty
returns-then-is_empty c = resolves-empty _ _ _ c.if-is_empty.ensures

pub returns-then-path-gt-MAX_PATH : goal.returns-then-path-gt-MAX_PATH
returns-then-path-gt-MAX_PATH c = resolves-long _ _ _ c.if-is_empty.ensures c.if-path-gt-MAX_PATH.true

pub returns-then-is_bad_directory : goal.returns-then-is_bad_directory
returns-then-is_bad_directory c = resolves-bad _ _ _ c.if-is_empty.ensures c.if-path-gt-MAX_PATH.false c.if-is_bad_directory.ensures

pub returns : goal.returns
returns c =
    resolves-path _ _ _ c.if-is_empty.ensures c.if-path-gt-MAX_PATH.false c.if-is_bad_directory.ensures c.enter_joined-len.ensures c.hand_over.ensures
