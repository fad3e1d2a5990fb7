-- A path as it is shown: bytes outside 0x21 to 0x7E, and `%`, as `%` and two capital hexadecimal digits. Scope, "Handover, at the top".
use Rattle.std.specs.Prelude.{ℕ, ◌+◌, ◌/◌, ◌%◌, List, [], ◌∷◌, ◌++◌, Bool, ◌&&◌, not, cond, leb, ltb, eqb}

-- the most bytes that a byte is shown as
abbrev pub escaped_bytes : ℕ
escaped_bytes = 3

abbrev pub percent : ℕ
percent = 37

-- a byte that stands for itself
unfoldable pub is_plain : ℕ → Bool
is_plain b = leb 0x21 b && leb b 0x7E && not (eqb b percent)

-- 0 to 9, A to F
abbrev pub digit : ℕ → ℕ
digit k = cond (ltb k 10) (48 + k) (55 + k)

unfoldable pub escaped_byte : ℕ → List ℕ
escaped_byte b = cond (is_plain b) (b ∷ []) (percent ∷ digit (b / 16) ∷ digit (b % 16) ∷ [])

unfoldable pub escaped : List ℕ → List ℕ
escaped [] = []
escaped (b ∷ p) = escaped_byte b ++ escaped p
