-- `are_words_of` meets its contract: each word is that of its three bytes.
use Prim.Native.Nat.{ℕ}
use mathlib.Core.Path.{◌∙◌}
use mathlib.Core.List.{List}
use lib.Dec.{eqb}
use borrow.Author.Tests.{tests}
use Rattle.std.proofs.Common.{rules}
use Rattle.std.proofs.lemmas.Iterator.{YieldsList-from_slice, YieldsList-from_zip}
use Rattle.std.proofs.lemmas.Iterator.Search.{all_from_yields_List}
use Rattle.records.proofs.SpellingLaws.{piece-word, chunks-pieces, words-same}
use Rattle.records.proofs.reading.are_words_of.Goals as goal

pub returns : goal.returns
returns c =
    all_from_yields_List (λ (x : ℕ × List ℕ). eqb x.0 (piece-word x.1)) c.all.new.self _ _ c.all.ensures.ran
    (YieldsList-from_zip (YieldsList-from_slice c.args.words.now cc) (chunks-pieces c.args.p.now (cc) (cc))) (λ x b q k. search (rules, tests))
    ∙ words-same c.args.words.now c.args.p.now c.requires
