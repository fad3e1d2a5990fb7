-- Bytes or words written over others.
use Rattle.std.specs.Prelude.{ℕ, ◌+◌, ◌≡◌, List, ◌++◌, length, take, drop}

-- m with s written from `at` on
unfoldable pub overwrite : List ℕ → ℕ → List ℕ → List ℕ
overwrite m at s = take at m ++ s ++ drop (at + length s) m

-- s with x written from its start, and no more of it
unfoldable pub begun : List ℕ → List ℕ → List ℕ
begun x s = x ++ drop (length x) s

-- s is written over m from `at` on, and ends at r
pub record Appends (s m : List ℕ) (at : ℕ) (m' : List ℕ) (r : ℕ) : Type 0 where
  pub content : m' ≡ overwrite m at s
  pub end : r ≡ at + length s
