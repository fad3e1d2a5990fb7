-- Input part by part, through a buffer. Which bytes a read puts into it no contract says.
use Rattle.std.specs.Prelude.{ℕ, ◌+◌, ◌-◌, ◌≤◌, ◌≡◌, List, Result, Ok, Err, length, take, drop}

-- the buffer's size: as much as is read at once
abbrev pub buffer_bytes : ℕ
buffer_bytes = 65536

-- the bytes that came
abbrev pub came_bytes : {E : Type 0} → Result ℕ E → ℕ
came_bytes (Ok n) = n
came_bytes (Err e) = 0

-- they lie after the first `left` bytes of the buffer, which stay
pub record ReadsAfter {E : Type 0} (before : List ℕ) (left : ℕ) (after : List ℕ) (r : Result ℕ E) : Type 0 where
  pub kept : take left after ≡ take left before
  pub inside : left + came_bytes r ≤ length before

-- what is left of the first `len` bytes after the first `taken` stands at the buffer's front
pub record KeepsRest (before : List ℕ) (len taken : ℕ) (after : List ℕ) (r : ℕ) : Type 0 where
  pub count : r ≡ len - taken
  pub front : take r after ≡ drop taken (take len before)
