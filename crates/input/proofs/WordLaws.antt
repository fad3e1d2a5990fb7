-- Laws of the words in bytes: by their places, from an offset on, and as many as there is room for.
use Prim.Native.Nat.{ℕ, zero, suc, ◌+◌, ◌*◌, ◌-◌, ◌/◌, ◌≤◌, ◌<◌, min}
use mathlib.Core.Path.{◌≡◌, refl, sym, ap, ◌∙◌}
use mathlib.Core.List.{List, [], ◌∷◌, ◌++◌}
use native.Mathlib.Nat.{zero-add, add_assoc}
use native.Mathlib.Omega.{arith}
use native.Mathlib.Numerals.{unary_clauses}
use lib.ListN.{length, get_or, take, drop, set, take-append-drop, length-take, length-drop}
use lib.Seq.{paste, take-append_seam, take_at, get_or-drop}
use Rattle.paths.specs.Copying.{begun, Appends}
use Rattle.paths.proofs.CopyLaws.{paste_more}
use Rattle.table.proofs.Moves.{paste-over}
use Rattle.table.proofs.Overwrites.{from_start}
use Rattle.input.specs.Words.{input_word, word_from, words_of}

pub words_count : (l : List ℕ) → length (words_of l) ≡ length l / 4
unfolding words_of
words_count [] = refl
words_count (a ∷ []) = refl
words_count (a ∷ b ∷ []) = refl
words_count (a ∷ b ∷ c ∷ []) = refl
words_count (a ∷ b ∷ c ∷ d ∷ l) = ap suc (words_count l) ∙ omega arith

words-at : (l : List ℕ) (k : ℕ) → k < length (words_of l) → get_or (words_of l) k 0 ≡ word_from l (4 * k)
unfolding words_of
words-at [] k h = absurd (omega arith)
words-at (a ∷ []) k h = absurd (omega arith)
words-at (a ∷ b ∷ []) k h = absurd (omega arith)
words-at (a ∷ b ∷ c ∷ []) k h = absurd (omega arith)
words-at (a ∷ b ∷ c ∷ d ∷ l) zero h = refl
words-at (a ∷ b ∷ c ∷ d ∷ l) (suc k) h = simp unary_clauses (simp unary_clauses at (words-at l k (omega arith)))

-- whatever bytes stand after them
pub words-front : (n : ℕ) (l m : List ℕ) → 4 * n ≤ length l → take n (words_of (l ++ m)) ≡ take n (words_of l)
unfolding words_of
words-front zero l m h = refl
words-front (suc n) [] m h = absurd (omega arith)
words-front (suc n) (a ∷ []) m h = absurd (omega arith)
words-front (suc n) (a ∷ b ∷ []) m h = absurd (omega arith)
words-front (suc n) (a ∷ b ∷ c ∷ []) m h = absurd (omega arith)
words-front (suc n) (a ∷ b ∷ c ∷ d ∷ l) m h = ap (λ (ws : List ℕ). input_word a b c d ∷ ws) (words-front n l m (omega arith))

-- the words from an offset on
module _ (l : List ℕ) (from : ℕ) where
  pub words-after : length (words_of (drop from l)) ≡ (length l - from) / 4
  words-after = words_count (drop from l) ∙ ap (λ (n : ℕ). n / 4) (length-drop from l)

  pub word_after : (k : ℕ) → k < length (words_of (drop from l)) → word_from l (from + 4 * k) ≡ get_or (words_of (drop from l)) k 0
  word_after k h = sym (words-at (drop from l) k h ∙ simp (get_or-drop, add_assoc))

-- one word more
pub word_more : (space ws : List ℕ) (k w : ℕ) → k < length space → k < length ws → w ≡ get_or ws k 0 → set (paste space 0 ws k) k w ≡ paste space 0 ws (k + 1)
word_more space ws k w hs hw e = rw e (simp zero-add (simp zero-add at (paste_more space 0 ws k (omega arith) hw)))

-- as many as there is room for
pub takes-words : (ws space : List ℕ) {space' : List ℕ} (count : ℕ) → count ≡ min (length space) (length ws) → space' ≡ paste space 0 ws count
    → Appends (take (length space) ws) space 0 space' count
takes-words ws space count e p =
    let some_words = length-take (length space) ws ∙ sym e in
    let whole : take count ws ≡ take (length space) ws =
    ap (take count) (sym (take-append-drop (length space) ws)) ∙ take_at (take (length space) ws) (drop (length space) ws) count some_words in
    record { content = p ∙ paste-over space 0 ws count (omega arith) ∙ rw whole; end = omega (arith, some_words) }

-- the words that were taken
module _ (ws : List ℕ) {space words : List ℕ} {count : ℕ} (W : Appends ws space 0 words count) where
  pub taken-words : take count words ≡ ws
  unfolding begun
  taken-words = rw ((from_start W).1, (from_start W).0) (take-append_seam ws _)
