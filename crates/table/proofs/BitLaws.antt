-- Laws of a bit that is set or cleared, and of marks.
use Prim.Native.Nat.{ℕ, ◌+◌, ◌-◌, ◌/◌, ◌%◌, ◌≤◌, ◌<◌}
use mathlib.Core.Path.{◌≡◌, refl}
use mathlib.Core.Bool.{Bool, true, false, cond}
use native.Mathlib.Omega.{arith}
use native.Mathlib.Decide.{dec_lt}
use native.Mathlib.Nat.{div-eq_of_lt}
use lib.Dec.{eqb}
use borrow.Author.Tests.{eqb-true, eqb-false}
use Rattle.table.specs.declared.Kind.{Kind}
use Rattle.table.specs.declared.Kind.TheVariants.{G, D, P, I}
use Rattle.table.specs.Tables.{has, set_bit, clear_bit, marked}

pub bit_kept : (n bit : ℕ) → has n bit ≡ true → n ≡ set_bit n bit
unfolding set_bit
bit_kept n bit e = rw e

-- a number that has the bit is no less than it
pub bit-within : (n bit : ℕ) → has n bit ≡ true → bit ≤ n
unfolding has
bit-within n bit e = go (dec_lt n bit)
  where
    go : Dec (n < bit) → bit ≤ n
    go (yes l) = let z : n / bit % 2 ≡ 1 = eqb-true _ _ e in absurd (omega (arith, div-eq_of_lt l))
    go (no l) = omega arith

-- a bit that is set keeps a number at or below a limit if it does where it is not there yet
pub set-limit : (n bit most : ℕ) → n ≤ most → ((n / bit % 2 ≡ 1 → ⊥) → n + bit ≤ most) → set_bit n bit ≤ most
unfolding set_bit has
set-limit n bit most h f = go (eqb (n / bit % 2) 1) refl
  where
    go : (b : Bool) → eqb (n / bit % 2) 1 ≡ b → cond b n (n + bit) ≤ most
    go true e = h
    go false e = f (eqb-false _ _ e)

pub clear-less : (n bit : ℕ) → clear_bit n bit ≤ n
unfolding clear_bit
clear-less n bit = go (has n bit)
  where
    go : (b : Bool) → cond b (n - bit) n ≤ n
    go true = omega arith
    go false = omega arith

pub marked-small : (k : Kind) (n : ℕ) → n ≤ 7 → marked k n ≤ 7
unfolding marked
marked-small G n h = h
marked-small D n h = set-limit n 1 7 h (λ e. omega arith)
marked-small P n h = set-limit n 2 7 h (λ e. omega arith)
marked-small I n h = set-limit n 4 7 h (λ e. omega arith)
