-- What every message is that the main sent: a change of its run, or an image of its run's table.
use Prim.Native.Nat.{ℕ, ◌≤◌, ◌<◌}
use mathlib.Core.Path.{◌≡◌, refl, ap}
use mathlib.Core.List.{List, [], Memᴰ}
use mathlib.Core.Bool.{true, false, false≢true}
use mathlib.Core.Logic.{⊎_elim}
use native.Mathlib.Nat.{zero-add}
use native.Mathlib.Omega.{arith}
use lib.ListN.{length, take}
use Rattle.table.specs.Tables.{fresh}
use Rattle.table.specs.Acts.{Act, act_overflows, apply_acts}
use Rattle.records.specs.Numbers.{is_run}
use Rattle.records.specs.Records.{Change, Readable}
use Rattle.images.specs.Images.{Image}
use Rattle.handover.specs.Handover.{Main, Message, changed, image, Run, acts_in, changes, run_of, number_of, opens}
use Rattle.handover.proofs.RecordableLaws.{Recorded, recorded-at, recorded-run}
use Rattle.handover.proofs.MessageLaws.{change-among}
use Rattle.handover.proofs.SequenceLaws.{change_at, place_of}
use Rattle.handover.proofs.MainLaws.{Imaged, MainIs}

-- change k + 1 of the acts of run q, where it finds room
pub record ChangeIs (q : ℕ) (acts : List Act) (k : ℕ) (c : Change) : Type 0 where
  pub within : k < length acts
  pub is : c ≡ change_at q acts k
  pub readable : Readable c
  pub room : act_overflows (apply_acts fresh (take k acts)) c.act ≡ false

record Found (q : ℕ) (acts : List Act) (c : Change) : Type 0 where
  place : ℕ
  change : ChangeIs q acts place c

change-at : {q : ℕ} {acts : List Act} {c : Change} → Recorded q 0 fresh acts → (k : ℕ) → k < length acts → c ≡ change_at q acts k → ChangeIs q acts k c
change-at R k h e =
    let A = recorded-at R k h in
    rw e (record { within = h; is = refl; readable = rw zero-add at A.readable; room = A.room })

found : {q : ℕ} {acts : List Act} {c : Change} → Recorded q 0 fresh acts → Memᴰ c (changes q acts) → Found q acts c
found {q} {acts} R x = let P = place_of q 0 acts x in record { place = P.place; change = change-at R P.place P.within (rw zero-add at P.is) }

pub data Genuine (runs : List Run) : Message → Type 0 where
  change-is : {c : Change} (k : ℕ) → ChangeIs c.run (acts_in runs c.run) k c → Genuine runs (changed c)
  image-is : {i : Image} → Imaged runs i → Genuine runs (image i)

pub genuine : {a : Main} {runs : List Run} {sent : List Message} {wrote : List ℕ} → MainIs a runs sent wrote → (m : Message) → Memᴰ m sent → Genuine runs m
genuine M (changed c) x = let F = found (M.each c.run).recorded (rw (M.each c.run).records at (change-among x)) in change-is F.place F.change
genuine M (image i) x = image-is (M.images i x)

-- its number is one that the main has made in its run, and only an image has the number 0
pub genuine-made : {runs : List Run} {m : Message} → Genuine runs m → number_of m ≤ length (acts_in runs (run_of m))
unfolding number_of run_of
genuine-made (change-is {c = c} k C) = omega (arith, C.within, ap (λ (x : Change). x.number) C.is)
genuine-made (image-is I) = I.is.made

pub genuine-opens : {runs : List Run} {m : Message} → Genuine runs m → number_of m ≡ 0 → opens m ≡ true
unfolding number_of opens
genuine-opens (change-is k C) e = absurd (omega (arith, ap (λ (x : Change). x.number) C.is))
genuine-opens (image-is I) e = refl

-- no act is of run 0
pub no-nought : {acts : List Act} → Recorded 0 0 fresh acts → acts ≡ []
unfolding is_run
no-nought R = ⊎_elim (λ e. absurd (false≢true e)) (λ e. e) (recorded-run R)
