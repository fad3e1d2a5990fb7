-- The eight pairs of bytes, one after another. Assumes nothing.
use Rattle.std.proofs.Common.{rules, tests, eqb, ◌&&◌, true, ◌∙◌, ℕ}
use native.Mathlib.Omega.{arith}
use Rattle.std.proofs.lemmas.Iterator.{YieldsList-from_slice, YieldsList-from_zip}
use Rattle.std.proofs.lemmas.Iterator.Consumers.{fold_from_yields_List, YieldsList-at}
use Rattle.paths.proofs.EightLaws.{same-eight}
use Rattle.paths.proofs.relating.same_eight.Goals as goal

pub returns : goal.returns
returns c =
    fold_from_yields_List _ (λ t (x : ℕ × ℕ). t && eqb x.0 x.1) true _ c.fold.ensures.ran
    (YieldsList-from_zip (YieldsList-at c.zip.ensures.first (YieldsList-from_slice _ c.iter.ensures.rest)) (YieldsList-from_slice _ c.zip.ensures.second.0))
    (λ a x b q k. search (rules, tests))
    ∙ same-eight _ _ _ _ (omega arith) c.requires.0 c.requires.1
