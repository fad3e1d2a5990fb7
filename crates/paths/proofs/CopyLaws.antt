-- Laws of a copy: one byte more of it, the whole, and what stands up to its end.
use Prim.Native.Nat.{ℕ, ◌+◌, ◌≤◌, ◌<◌}
use mathlib.Core.Path.{◌≡◌, ap}
use mathlib.Core.List.{List, ◌++◌}
use native.Mathlib.Omega.{arith}
use native.Mathlib.Numerals.{add-one}
use lib.ListN.{length, get_or, take, drop, set, length-append}
use lib.Seq.{paste, paste-suc, take-length, take_at, length-take-le}
use Rattle.paths.specs.Copying.{overwrite}

pub paste_more : (m : List ℕ) (at : ℕ) (s : List ℕ) (i : ℕ) → at + i < length m → i < length s
    → set (paste m at s i) (at + i) (get_or s i 0) ≡ paste m at s (i + 1)
paste_more m at s i hm hs = rw add-one (paste-suc m at s i 0 hm hs)

pub paste-whole : (m : List ℕ) (at : ℕ) (s : List ℕ) → paste m at s (length s) ≡ overwrite m at s
unfolding overwrite
paste-whole m at s = ap (λ (l : List ℕ). take at m ++ l ++ drop (at + length s) m) (take-length s)

module _ (m : List ℕ) (at : ℕ) (s : List ℕ) (h : at + length s ≤ length m) where
  pub length_front : length (take at m ++ s) ≡ at + length s
  length_front = simp (length-append, length-take-le at m (omega arith))

  pub take-over : take (at + length s) (overwrite m at s) ≡ take at m ++ s
  unfolding overwrite
  take-over = take_at (take at m ++ s) _ _ length_front
