-- The words in bytes. Scope, "Handover, at the top": most significant byte first.
use Rattle.std.specs.Prelude.{ℕ, ◌+◌, ◌*◌, List, [], ◌∷◌, get_or}

-- four bytes are a word, most significant first
abbrev pub input_word : ℕ → ℕ → ℕ → ℕ → ℕ
input_word a b c d = ((a * 256 + b) * 256 + c) * 256 + d

-- that from an offset on
abbrev pub word_from : List ℕ → ℕ → ℕ
word_from bytes at = input_word (get_or bytes at 0) (get_or bytes (at + 1) 0) (get_or bytes (at + 2) 0) (get_or bytes (at + 3) 0)

-- fewer at the end are a broken word, which is not a word
unfoldable pub words_of : List ℕ → List ℕ
words_of [] = []
words_of (a ∷ []) = []
words_of (a ∷ b ∷ []) = []
words_of (a ∷ b ∷ c ∷ []) = []
words_of (a ∷ b ∷ c ∷ d ∷ bytes) = input_word a b c d ∷ words_of bytes
