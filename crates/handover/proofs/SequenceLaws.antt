-- Laws of the changes of a run: where one stands, how far those reach that arrive in sequence, and what one more makes of that.
use Prim.Native.Nat.{ℕ, zero, suc, ◌+◌, ◌≤◌, ◌<◌}
use mathlib.Core.Path.{◌≡◌, refl, ap}
use mathlib.Core.List.Memᴰ
use mathlib.Core.List.Sublistᴰ
use mathlib.Core.List.{
  List,
  [],
  ◌∷◌,
  ◌++◌,
  append-nil,
  Memᴰ,
  Sublistᴰ,
}
use mathlib.Core.Bool.{Bool, true, false, cond}
use native.Mathlib.Numerals.{add-one}
use native.Mathlib.Nat.{zero-add}
use native.Mathlib.Omega.{arith}
use lib.ListN.{length, get_or, take, drop, length-drop, drop_of_length-le}
use lib.Seq.{length-take-le, take-suc, drop-append-le}
use lib.Dec.{eqb}
use borrow.Author.Tests.{eqb-true, eqb-false}
use Rattle.table.specs.Acts.{Act, revoke_all}
use Rattle.records.specs.Records.{Change, numbered}
use Rattle.records.proofs.NumberedLaws.{numbered-append}
use Rattle.handover.specs.Handover.{changes, reach, InSequence}

-- ---- the changes of a run

numbered-take : (q n k : ℕ) (acts : List Act) → take k (numbered q n acts) ≡ numbered q n (take k acts)
unfolding numbered
numbered-take q n zero acts = refl
numbered-take q n (suc k) [] = refl
numbered-take q n (suc k) (act ∷ acts) = rw (numbered-take q (n + 1) k acts)

numbered-drop : (q n k : ℕ) (acts : List Act) → drop k (numbered q n acts) ≡ numbered q (n + k) (drop k acts)
unfolding numbered
numbered-drop q n zero acts = let same : n + 0 ≡ n = omega arith in rw same
numbered-drop q n (suc k) [] = refl
numbered-drop q n (suc k) (act ∷ acts) = let same : n + suc k ≡ n + 1 + k = omega arith in rw same (numbered-drop q (n + 1) k acts)

-- changes base + 1 to k
between : (q : ℕ) (acts : List Act) (base k : ℕ) → drop base (take k (changes q acts)) ≡ numbered q base (drop base (take k acts))
between q acts base k = rw (numbered-take q 0 k acts, numbered-drop q 0 base (take k acts), zero-add)

-- the change after the first k
abbrev pub change_at : ℕ → List Act → ℕ → Change
change_at q acts k = record { run = q; number = k + 1; act = get_or acts k revoke_all }

-- where a change of the run stands
pub record Place (q n : ℕ) (acts : List Act) (c : Change) : Type 0 where
  pub place : ℕ
  pub within : place < length acts
  pub is : c ≡ record { run = q; number = n + place + 1; act = get_or acts place revoke_all }

pub place_of : (q n : ℕ) (acts : List Act) {c : Change} → Memᴰ c (numbered q n acts) → Place q n acts c
unfolding numbered
place_of q n [] m = absurd (Memᴰ.not-nil m)
place_of q n (act ∷ acts) (Memᴰ.head e) = let same : n + 0 + 1 ≡ n + 1 = omega arith in record { place = 0; within = omega arith; is = rw same e }
place_of q n (act ∷ acts) (Memᴰ.tail m) =
    let P = place_of q (n + 1) acts m in
    let same : n + suc P.place + 1 ≡ n + 1 + P.place + 1 = omega arith in
    record { place = suc P.place; within = omega (arith, P.within); is = rw same P.is }

module _ (q : ℕ) (acts : List Act) {base k : ℕ} where
  length-between : base ≤ k → k ≤ length acts → base + length (drop base (take k acts)) ≡ k
  length-between from made = omega (arith, length-drop base (take k acts), length-take-le k acts made)

  between_next : base ≤ k → k < length acts → drop base (take (k + 1) (changes q acts)) ≡ drop base (take k (changes q acts)) ++ change_at q acts k ∷ []
  unfolding numbered
  between_next from less =
      let size = length-take-le k acts (omega arith) in
      let act = get_or acts k revoke_all in
      let more : take (k + 1) acts ≡ take k acts ++ act ∷ [] = rw add-one (take-suc acts k revoke_all less) in
      rw (
        between q acts base k,
        between q acts base (k + 1),
        more,
        drop-append-le base (take k acts) (act ∷ []) (omega arith),
        numbered-append q base (drop base (take k acts)) (act ∷ []),
        length-between from (omega arith),
      )

-- ---- how far changes reach

-- with one change more
abbrev pub step : ℕ → Change → ℕ
step n c = cond (eqb c.number (n + 1)) (n + 1) n

pub reach-more : (n : ℕ) (since : List Change) (c : Change) → reach n (since ++ c ∷ []) ≡ step (reach n since) c
unfolding reach
reach-more n [] c = refl
reach-more n (x ∷ since) c = reach-more (step n x) since c

step-up : (n : ℕ) (c : Change) → n ≤ step n c
step-up n c = go (eqb c.number (n + 1))
  where
    go : (b : Bool) → n ≤ cond b (n + 1) n
    go true = omega arith
    go false = omega arith

-- with the change after n, where k is not below n
step-next : {n k : ℕ} (c : Change) → c.number ≡ n + 1 → n ≤ k → n + 1 ≤ step k c
step-next {n} {k} c e h = go (eqb c.number (k + 1)) refl
  where
    go : (b : Bool) → eqb c.number (k + 1) ≡ b → n + 1 ≤ cond b (k + 1) k
    go true f = omega arith
    go false f = omega (arith, eqb-false c.number (k + 1) f)

pub step-monotone : {n k : ℕ} (c : Change) → n ≤ k → step n c ≤ step k c
step-monotone {n} {k} c h = go (eqb c.number (n + 1)) refl
  where
    go : (b : Bool) → eqb c.number (n + 1) ≡ b → cond b (n + 1) n ≤ step k c
    go true e = step-next c (eqb-true c.number (n + 1) e) h
    go false e = omega (arith, step-up k c)

-- changes in sequence from n on are within what is reached from k on, where k is not below n
reach-least : {l since : List Change} → Sublistᴰ l since → (q n : ℕ) (acts : List Act) → l ≡ numbered q n acts → (k : ℕ) → n ≤ k
    → n + length acts ≤ reach k since
unfolding reach numbered
reach-least Sublistᴰ.slnil q n [] e k h = omega arith
reach-least Sublistᴰ.slnil q n (act ∷ acts) e k h = let z : ◌≡◌ {A = ℕ} 0 1 = cc in absurd (omega arith)
reach-least (Sublistᴰ.cons {a = c} s) q n acts e k h = reach-least s q n acts e (step k c) (omega (arith, step-up k c))
reach-least (Sublistᴰ.cons-cons f s) q n [] e k h = let z : ◌≡◌ {A = ℕ} 0 1 = cc in absurd (omega arith)
reach-least (Sublistᴰ.cons-cons {b = c} {l₁ = l} f s) q n (act ∷ acts) e k h =
    let here : c ≡ record { run = q; number = n + 1; act = act } = cc in
    let rest : l ≡ numbered q (n + 1) acts = cc in
    let up = step-next c (ap (λ (x : Change). x.number) here) h in
    omega (arith, reach-least s q (n + 1) acts rest (step k c) up)

pub within-reach : {q : ℕ} {acts : List Act} {base : ℕ} {since : List Change} {k : ℕ} → InSequence q acts base since k → k ≤ reach base since
within-reach {q} {acts} {base} {since} {k} I =
    omega (
      arith,
      reach-least I.arrived q base (drop base (take k acts)) (between q acts base k) base (omega arith),
      length-between q acts I.from I.made,
    )

-- ---- one change more

module _ {q : ℕ} {acts : List Act} {base : ℕ} {since : List Change} {k : ℕ} (I : InSequence q acts base since k) where
  pub sequence-kept : (c : Change) → InSequence q acts base (since ++ c ∷ []) k
  sequence-kept c = record {
    from = I.from;
    made = I.made;
    arrived = rw append-nil at (Sublistᴰ.append I.arrived (Sublistᴰ.nil-sublist (c ∷ [])));
  }

  pub sequence-next : k < length acts → InSequence q acts base (since ++ change_at q acts k ∷ []) (k + 1)
  sequence-next less = record {
    from = omega (arith, I.from);
    made = omega arith;
    arrived = rw (between_next q acts I.from less) (Sublistᴰ.append I.arrived (Sublistᴰ.refl (change_at q acts k ∷ [])));
  }

  -- changes that arrived before
  pub sequence-front : (front : List Change) → InSequence q acts base (front ++ since) k
  sequence-front front = record { from = I.from; made = I.made; arrived = Sublistᴰ.append (Sublistᴰ.nil-sublist front) I.arrived }

pub sequence-none : {q : ℕ} {acts : List Act} {base : ℕ} → base ≤ length acts → InSequence q acts base [] base
unfolding numbered
sequence-none {q} {acts} {base} h = record {
  from = omega arith;
  made = h;
  arrived = rw (between q acts base base, drop_of_length-le (take base acts) {i = base} (omega (arith, length-take-le base acts h))) Sublistᴰ.slnil;
}
