-- What is owed: counted in the highest run met, exactly h − n while the standby is in that run, and else all of h; and cause 1. Scope, "Handover, at the top",
-- and "A main that starts over".
use Rattle.std.specs.Prelude.{ℕ, ◌-◌, ◌≡◌, cond, eqb, Ok, Err}
use Rattle.refusals.specs.declared.Refusal.TheVariants.{NoTable}
use Rattle.refusals.specs.Refusals.{Result}
use Rattle.standby.specs.declared.Numbers.{Numbers}
use Rattle.standby.specs.Arriving.{conflict}

-- how many changes, where the numbers are a standby's
unfoldable pub owed_of : Numbers → ℕ
owed_of s = cond (eqb s.run s.highest) (s.h - s.n) s.h

-- the report of them
unfoldable pub owing : Numbers → Result ℕ
owing s = cond (conflict s) (Err NoTable) (Ok (owed_of s))

abbrev pub Owes : Numbers → Result ℕ → Type 0
Owes s r = r ≡ owing s
