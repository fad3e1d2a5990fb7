-- What was met and is owed, where all that arrived was sent: the main has made the highest number met, and where nothing is owed the standby is in the highest
-- run met, with every number met there applied.
use Prim.Native.Nat.{ℕ, ◌≤◌}
use mathlib.Core.Path.{◌≡◌, refl, sym, ◌∙◌}
use mathlib.Core.List.{List, Memᴰ}
use mathlib.Core.Bool.{Bool, true, false}
use mathlib.Core.Logic.{⊎_elim}
use native.Mathlib.Omega.{arith}
use lib.ListN.{length}
use lib.Dec.{eqb}
use borrow.Author.Tests.{eqb-true, eqb-false}
use Rattle.standby.specs.declared.Numbers.{Numbers}
use Rattle.standby.specs.Owing.{owed_of}
use Rattle.standby.proofs.ArrivingLaws.{Agrees}
use Rattle.standby.proofs.OwingLaws.{owed-in, owed-behind}
use Rattle.handover.specs.Handover.{Message, Run, acts_in, number_of, Opened, Met, MetNumber, Greatest}
use Rattle.handover.proofs.CameLaws.{MetIs}
use Rattle.handover.proofs.SentLaws.{Genuine, genuine-made, genuine-opens}

module _ {runs : List Run} {came : List Message} (genuine : (m : Message) → Memᴰ m came → Genuine runs m) where
  pub met-made : {highest h : ℕ} → MetIs came highest h → h ≤ length (acts_in runs highest)
  met-made {highest} {h} M = ⊎_elim (λ e. omega arith) made M.number.one
    where
      made : MetNumber came highest h → h ≤ length (acts_in runs highest)
      made C = rw (← C.kind.0) (omega (arith, C.kind.1, genuine-made (genuine C.message C.among)))

  module _ {s : Numbers} (opened : Greatest (Opened came) s.run) (M : MetIs came s.highest s.h) (A : Agrees s) where
    -- where h is 0 the standby is in the highest run met: what arrived of that run are images with the number 0, which open it
    not_behind : s.h ≡ 0 → s.run ≡ s.highest
    not_behind z = ⊎_elim (λ e. omega (arith, A.below)) inside M.run.one
      where
        inside : Met came s.highest → s.run ≡ s.highest
        inside C =
            let few = M.number.above (number_of C.message) (record { message = C.message; among = C.among; kind = (C.kind, refl) }) in
            let opens = genuine-opens (genuine C.message C.among) (omega arith) in
            omega (arith, A.below, opened.above s.highest (record { message = C.message; among = C.among; kind = (C.kind, opens) }))

    pub none-owed : owed_of s ≡ 0 → (s.run ≡ s.highest) × (s.n ≡ s.h)
    none-owed z = go (eqb s.run s.highest) refl
      where
        inside : s.run ≡ s.highest → (s.run ≡ s.highest) × (s.n ≡ s.h)
        inside e = (e, omega (arith, owed-in s e, A.ordered e))

        go : (b : Bool) → eqb s.run s.highest ≡ b → (s.run ≡ s.highest) × (s.n ≡ s.h)
        go true e = inside (eqb-true s.run s.highest e)
        go false e = inside (not_behind (sym (owed-behind s (eqb-false s.run s.highest e)) ∙ z))
