-- Whatever the input, memory that held a table holds one afterwards, and numbers that agreed agree.
use Rattle.std.specs.Prelude.{Option, None, Some, Ok, Err}
use Prim.Native.Nat.{ℕ, zero, suc, ◌≤◌}
use mathlib.Core.Path.{◌≡◌, refl, ap, ◌∙◌}
use mathlib.Core.List.{List}
use mathlib.Core.Bool.{Bool, true, false}
use native.Mathlib.Omega.{arith}
use lib.ListN.{length}
use Rattle.std.specs.declared.result.Result as result
use Rattle.refusals.specs.Refusals.{Result}
use Rattle.table.specs.Tables.{fresh}
use Rattle.table.specs.Memory.{table_bytes, holds}
use Rattle.table.specs.Calls.{MakesFresh}
use Rattle.table.proofs.TableLaws.{fresh-table}
use Rattle.table.proofs.Puts.{holds-put}
use Rattle.table.proofs.CallLaws.{made-fresh}
use Rattle.records.specs.Records.{Change, Read, change_words, read_first}
use Rattle.standby.specs.Arriving.{Left, left_by}
use Rattle.standby.proofs.ArrivingLaws.{Agrees}
use Rattle.standby.proofs.KeepLaws.{Kept, arrival-kept}
use Rattle.input.specs.Words.{words_of}
use Rattle.holdlist.specs.declared.Held.{Held}
use Rattle.holdlist.specs.Holding.{Standing, stop, after_arrival, after_record, untaken, after_next, held_from, unnumbered, beginning, standing}
use Rattle.holdlist.specs.Input.{HoldsInput, unreadable, all}
use Rattle.holdlist.proofs.HoldingLaws.{holds-is, rests, held-still, held-step}

pub record Sound (s : Standing) : Type 0 where
  pub holding : holds s.memory ≡ true
  pub agreeing : Agrees s.numbers

stopped : (s : Standing) → Sound s → Sound (stop s)
unfolding stop
stopped s S = record { holding = S.holding; agreeing = S.agreeing }

after-arrival : (call : Result Left) (k : ℕ) (s : Standing) → Sound s → Kept s.numbers (left_by call s.memory s.numbers) → Sound (after_arrival call k s)
unfolding after_arrival left_by
after-arrival (Err cause) k s S K = stopped s S
after-arrival (Ok r) k s S K = record { holding = K.holding; agreeing = K.agreeing S.agreeing }

after-record : (o : Option (Read Change)) (s : Standing) → Sound s → Sound (after_record o s)
unfolding after_record
after-record None s S = stopped s S
after-record (Some r) s S = after-arrival _ _ s S (arrival-kept s.memory s.numbers S.holding (change_words r.value))

after_next_lem : (s : Standing) (input : List ℕ) → Sound s → Sound (after_next s input)
unfolding after_next
after_next_lem s input S = after-record (read_first (words_of (untaken s input))) s S

after-held : (keep turns : ℕ) (s : Standing) (input : List ℕ) → Sound s → Sound (held_from keep turns s input)
unfolding held_from
after-held keep zero s input S = S
after-held keep (suc turns) s input S = go (rests keep s input) refl (after-held keep turns (after_next s input) input (after_next_lem s input S))
  where
    go : (b : Bool) → rests keep s input ≡ b → Sound (held_from keep turns (after_next s input) input) → Sound (held_from keep (suc turns) s input)
    go true e i = rw (held-still keep s input (suc turns) e) S
    go false e i = rw (held-step keep s input turns e) i

-- a fresh table, and what the input makes of it
pub input-kept : {m m₁ m₂ : List ℕ} {made : Result Unit} {E : Type 0} {r : result.Result Held E} {held : Held} → table_bytes ≤ length m → MakesFresh m m₁ made → HoldsInput m₁ m₂ r → r ≡ Ok held
    → Sound (standing m₂ held)
input-kept l F unreadable e = let z : ◌≡◌ {A = ℕ} 0 1 = cc in absurd (omega arith)
input-kept {m} {m₁} {held = held} l F (all {r = r} input H) e =
    let same : held ≡ r = cc in
    let first : Sound (beginning m₁ unnumbered) = record {
      holding = ap holds (made-fresh l F) ∙ holds-put fresh m fresh-table l;
      agreeing = record { below = omega arith; ordered = λ f. omega arith };
    } in
    rw (same, holds-is H) (after-held _ _ _ input first)
