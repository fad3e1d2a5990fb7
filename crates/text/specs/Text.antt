-- Text in ASCII: a string's bytes, a number in decimal, by itself or after a label, and the letters of kinds. Scope, "Handover, at the top".
use Rattle.std.specs.Prelude.{ℕ, zero, suc, ◌+◌, ◌/◌, ◌%◌, List, [], ◌∷◌, ◌++◌, cond, ltb}
use Prim.Native.Char.{code}
use Prim.Native.String.{String}
use Rattle.table.specs.declared.Kind.{Kind}
use Rattle.table.specs.declared.Kind.TheVariants.{G, D, P, I}

-- the bytes of a text in ASCII
abbrev pub text : String → List ℕ
text String.[] = []
text (String.◌∷◌ c s) = code c ∷ text s

abbrev pub newline : List ℕ
newline = 10 ∷ []

-- the most digits that a number of 64 bits has
abbrev pub decimal_digits : ℕ
decimal_digits = 20

-- a number in decimal, without leading zeros, in so many turns at most
unfoldable pub decimal_by : ℕ → ℕ → List ℕ
decimal_by zero n = []
decimal_by (suc turns) n = cond (ltb n 10) ((48 + n) ∷ []) (decimal_by turns (n / 10) ++ (48 + n % 10) ∷ [])

abbrev pub decimal : ℕ → List ℕ
decimal n = decimal_by decimal_digits n

-- a label, and a number after it
abbrev pub labelled : String → ℕ → List ℕ
labelled label n = text label ++ decimal n

-- the letters G, D, P and I
abbrev pub kind_letter : Kind → ℕ
kind_letter G = 71
kind_letter D = 68
kind_letter P = 80
kind_letter I = 73
