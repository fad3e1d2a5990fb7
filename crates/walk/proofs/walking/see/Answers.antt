-- `see` meets its contract: with no path the marks decide, with one the walk.
use Rattle.std.proofs.Common.{arith}
use Rattle.std.proofs.lemmas.Grind.{common_steps}
use Rattle.paths.specs.Giving.{query_of}
use Rattle.walk.specs.Walk.{is_partial, by_match, query_desc}
use Rattle.walk.specs.Seeing.{kind_of_match}
use Rattle.walk.proofs.SeeingLaws.{walks-decides}
use Rattle.walk.proofs.walking.see.Goals as goal

pub returns-then-has_mark : goal.returns-then-has_mark
unfolding query_of is_partial by_match query_desc kind_of_match
returns-then-has_mark c = grind (arith, common_steps)

pub returns-else-has_mark : goal.returns-else-has_mark
unfolding query_of is_partial by_match query_desc kind_of_match
returns-else-has_mark c = grind (arith, common_steps)

pub returns-in-Path : goal.returns-in-Path
unfolding query_of
returns-in-Path c = rw c.in-Path.is (walks-decides _ _ _ c.walk.ensures)
