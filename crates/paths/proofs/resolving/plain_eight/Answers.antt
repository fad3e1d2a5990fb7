-- The eight pairs of bytes, one after another. Assumes nothing.
use Rattle.std.proofs.Common.{rules, tests, get_or, ◌&&◌, true, ◌∙◌, ℕ, List}
use native.Mathlib.Omega.{arith}
use Rattle.std.proofs.lemmas.Iterator.Consumers.{fold_from_yields_List}
use Rattle.paths.specs.Scanning.{plain_pair}
use Rattle.paths.proofs.EightLaws.{windows-pairs, plain-pairs}
use Rattle.paths.proofs.resolving.plain_eight.Goals as goal

pub returns : goal.returns
returns c =
    fold_from_yields_List _ (λ t (w : List ℕ). t && plain_pair (get_or w 0 0) (get_or w 1 0)) true _ c.fold.ensures.ran
    (windows-pairs _ c.windows.ensures.rest c.windows.ensures.size)
    (λ a x b q k. search (rules, tests))
    ∙ plain-pairs _ _ _ (omega arith) c.requires
