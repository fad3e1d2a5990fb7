-- Laws of acts that are numbered in turn: how many changes they make, and what the changes and their words are of acts one after the other.
use Prim.Native.Nat.{ℕ, suc, ◌+◌}
use mathlib.Core.Path.{◌≡◌, refl, sym, ap, ◌∙◌}
use mathlib.Core.List.{List, [], ◌∷◌, ◌++◌, append_assoc}
use native.Mathlib.Omega.{arith}
use lib.ListN.{length}
use Rattle.table.specs.Acts.{Act}
use Rattle.records.specs.Records.{Change, change_words, numbered, all_words}

pub numbered-length : (run n : ℕ) (acts : List Act) → length (numbered run n acts) ≡ length acts
unfolding numbered
numbered-length run n [] = refl
numbered-length run n (act ∷ acts) = ap suc (numbered-length run (n + 1) acts)

pub numbered-append : (run n : ℕ) (a b : List Act) → numbered run n (a ++ b) ≡ numbered run n a ++ numbered run (n + length a) b
unfolding numbered
numbered-append run n [] b = let same : n + 0 ≡ n = omega arith in rw same
numbered-append run n (act ∷ a) b = let same : n + suc (length a) ≡ n + 1 + length a = omega arith in rw (same, numbered-append run (n + 1) a b)

words_append : (a b : List Change) → all_words (a ++ b) ≡ all_words a ++ all_words b
unfolding all_words
words_append [] b = refl
words_append (c ∷ a) b = ap (λ (l : List ℕ). change_words c ++ l) (words_append a b) ∙ sym (append_assoc (change_words c) (all_words a) (all_words b))

pub numbered-words : (run n : ℕ) (a b : List Act) → all_words (numbered run n (a ++ b)) ≡ all_words (numbered run n a) ++ all_words (numbered run (n + length a) b)
numbered-words run n a b = ap all_words (numbered-append run n a b) ∙ words_append (numbered run n a) (numbered run (n + length a) b)
