-- Laws of what is owed: the report by the standby's numbers.
use Rattle.std.specs.Prelude.{Ok}
use Prim.Native.Nat.{ℕ, ◌-◌}
use mathlib.Core.Path.{◌≡◌}
use mathlib.Core.Bool.{false}
use borrow.Author.Tests.{eq-eqb, ne_eqb}
use Rattle.standby.specs.declared.Numbers.{Numbers}
use Rattle.standby.specs.Arriving.{conflict}
use Rattle.standby.specs.Owing.{owed_of, owing}

module _ (s : Numbers) where
  pub owed-in : s.run ≡ s.highest → owed_of s ≡ s.h - s.n
  unfolding owed_of
  owed-in e = rw (eq-eqb s.run s.highest e)

  pub owed-behind : (s.run ≡ s.highest → ⊥) → owed_of s ≡ s.h
  unfolding owed_of
  owed-behind ne = rw (ne_eqb s.run s.highest ne)

  pub owing-exact : {k : ℕ} → conflict s ≡ false → k ≡ owed_of s → Ok k ≡ owing s
  unfolding owing
  owing-exact e f = rw (e, f)
