-- The digits that `itoa` writes, which are those of std's `{}`, are the number in decimal.
use Prim.Native.Nat.{ℕ, zero, suc, ◌+◌, ◌/◌, ◌%◌, ◌^◌, ◌≤◌, ◌<◌}
use mathlib.Core.Path.{◌≡◌, refl}
use mathlib.Core.List.{[], ◌∷◌, ◌++◌}
use mathlib.Core.Bool.{Bool, true, false, cond}
use native.Mathlib.Omega.{arith}
use native.Mathlib.Nat.{pow-suc}
use lib.ListN.{length, length-append}
use lib.Dec.{ltb, leb}
use borrow.Author.Tests.{lt-ltb, le-ltb, leb-true, leb-false}
use Rattle.std.specs.Fmt.{decimal as shown}
use Rattle.std.proofs.lemmas.Fmt.{decimal_digit, decimal_step}
use Rattle.text.specs.Text.{decimal_digits, decimal_by, decimal}

decimal-long : (turns n : ℕ) → length (decimal_by turns n) ≤ turns
unfolding decimal_by
decimal-long zero n = omega arith
decimal-long (suc turns) n = by (ltb n 10) (decimal-long turns (n / 10))
  where
    by : (b : Bool) → length (decimal_by turns (n / 10)) ≤ turns → length (cond b ((48 + n) ∷ []) (decimal_by turns (n / 10) ++ (48 + n % 10) ∷ [])) ≤ suc turns
    by true h = omega arith
    by false h = omega (arith, length-append (decimal_by turns (n / 10)) ((48 + n % 10) ∷ []))

pub decimal-few : (n : ℕ) → length (decimal n) ≤ decimal_digits
decimal-few n = decimal-long decimal_digits n

shown-one : (turns n : ℕ) → n < 10 → shown n ≡ decimal_by (suc turns) n
unfolding decimal_by
shown-one turns n low = rw (decimal_digit n low, lt-ltb n 10 low)

shown-more : (turns n : ℕ) → 10 ≤ n → n < 2 ^ 64 → shown (n / 10) ≡ decimal_by turns (n / 10) → shown n ≡ decimal_by (suc turns) n
unfolding decimal_by
shown-more turns n high h e = rw (decimal_step n high h, le-ltb n 10 high, e)

shown-by : (turns n : ℕ) → n < 2 ^ 64 → n < 10 ^ suc turns → shown n ≡ decimal_by (suc turns) n
shown-by zero n h small = shown-one zero n (omega arith)
shown-by (suc turns) n h small = by (leb 10 n) refl (shown-by turns (n / 10) (omega arith) (omega (arith, pow-suc 10 (suc turns))))
  where
    by : (b : Bool) → leb 10 n ≡ b → shown (n / 10) ≡ decimal_by (suc turns) (n / 10) → shown n ≡ decimal_by (suc (suc turns)) n
    by false e before = shown-one (suc turns) n (leb-false 10 n e)
    by true e before = shown-more (suc turns) n (leb-true 10 n e) h before

-- as std has it
pub decimal-shown : (n : ℕ) → n < 2 ^ 64 → shown n ≡ decimal n
decimal-shown n h = shown-by 19 n h (omega arith)
