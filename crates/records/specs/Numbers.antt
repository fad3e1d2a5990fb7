-- The numbers of a record: run numbers, change numbers, and the words that a record takes at most. Scope, "Handover, at the top", and "A main that starts over".
use Rattle.std.specs.Prelude.{ℕ, Bool, ◌&&◌, leb}

-- run numbers have 28 bits, and are 1 or more
abbrev pub max_run : ℕ
max_run = 268435455

unfoldable pub is_run : ℕ → Bool
is_run run = leb 1 run && leb run max_run

-- change numbers have 24 bits
abbrev pub max_number : ℕ
max_number = 16777215

-- the words that the longest record takes, with a path of 1,024 bytes: `few_words`
abbrev pub record_space : ℕ
record_space = 345
