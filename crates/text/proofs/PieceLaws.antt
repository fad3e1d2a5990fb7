-- Laws of pieces written one after the other, and of a number after its label.
use Prim.Native.Nat.{ℕ, ◌+◌, ◌^◌, ◌≤◌, ◌<◌}
use mathlib.Core.Path.{◌≡◌, ◌∙◌}
use mathlib.Core.List.{List, ◌++◌}
use native.Mathlib.Omega.{arith}
use lib.ListN.{length, length-append}
use Rattle.std.specs.Fmt.{decimal as shown}
use Rattle.paths.specs.Copying.{Appends}
use Rattle.table.proofs.Overwrites.{appends-as, appends-more}
use Rattle.text.specs.Text.{decimal_digits, decimal}
use Rattle.text.proofs.DecimalLaws.{decimal-few, decimal-shown}

-- one after the other, where the first ends within the space
pub then : {s m : List ℕ} {at : ℕ} {m' : List ℕ} {n : ℕ} {s' m'' : List ℕ} {n' : ℕ} → n ≤ length m → Appends s m at m' n → Appends s' m' n m'' n'
    → Appends (s ++ s') m at m'' n'
then h a b = appends-more (omega (arith, a.end)) a b

-- the digits that `itoa` wrote
pub decimal-written : (n : ℕ) {digits m : List ℕ} {at : ℕ} {m' : List ℕ} {r : ℕ} → n < 2 ^ 64 → digits ≡ shown n → Appends digits m at m' r
    → Appends (decimal n) m at m' r
decimal-written n h d a = appends-as (d ∙ decimal-shown n h) a

pub labelled-end : (label : List ℕ) (n : ℕ) {m : List ℕ} {at : ℕ} {m' : List ℕ} {r : ℕ} → Appends (label ++ decimal n) m at m' r
    → r ≤ at + length label + decimal_digits
labelled-end label n A = omega (arith, A.end, length-append label (decimal n), decimal-few n)
