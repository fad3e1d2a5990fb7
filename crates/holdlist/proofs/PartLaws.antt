-- Input in parts is input at once: what a first part leaves, where a record may go on in the next, is put before the next.
use Rattle.std.specs.Prelude.{Option, None, Some, Ok, Err}
use Prim.Native.Nat.{ℕ, zero, suc, ◌+◌, ◌*◌, ◌-◌, ◌≤◌}
use mathlib.Core.Path.{◌≡◌, refl, sym, ap, ◌∙◌}
use mathlib.Core.List.{List, ◌++◌}
use mathlib.Core.Bool.{Bool, true, false, cond}
use native.Mathlib.Nat.{add-zero, add_assoc}
use native.Mathlib.Omega.{arith}
use lib.ListN.{length, drop, length-append, length-drop}
use lib.Seq.{drop-append-le, drop-drop}
use Rattle.refusals.specs.Refusals.{Result}
use Rattle.records.specs.Records.{Change, Read, change_words, read_first}
use Rattle.standby.specs.declared.Numbers.{Numbers}
use Rattle.standby.specs.Arriving.{Left, arrival}
use Rattle.input.specs.Words.{words_of}
use Rattle.input.proofs.WordLaws.{words-front}
use Rattle.holdlist.specs.Holding.{
  record_space,
  Standing,
  stop,
  after_arrival,
  after_record,
  untaken,
  after_next,
  held_from,
  beginning,
  kept_bytes,
  counted,
  held_on,
}
use Rattle.holdlist.proofs.HoldingLaws.{
  first-decides,
  advances-next,
  rests,
  rests-stopped,
  goes_on,
  going_on,
  held-still,
  held-step,
  held-inside,
}

-- ---- more turns than there are records make no difference

abbrev Enough : ℕ → Standing → List ℕ → Type 0
Enough turns s input = s.stopped ≡ false → length input - 4 * s.words ≤ turns

module _ (keep : ℕ) (input : List ℕ) where
  enough-next : (s : Standing) (turns : ℕ) → rests keep s input ≡ false → Enough (suc turns) s input → Enough turns (after_next s input) input
  enough-next s turns e h f =
      let A = advances-next s input in
      let o = going_on keep s input e in
      omega (arith, A.more f, A.most, h o.0, o.1)

  enough-some : (s : Standing) → rests keep s input ≡ false → Enough zero s input → ⊥
  enough-some s e h =
      let o = going_on keep s input e in
      omega (arith, h o.0, o.1)

  still-or : (t u : ℕ) (s : Standing) → (rests keep s input ≡ false → held_from keep t s input ≡ held_from keep u s input)
      → held_from keep t s input ≡ held_from keep u s input
  still-or t u s f = go (rests keep s input) refl
    where
      go : (b : Bool) → rests keep s input ≡ b → held_from keep t s input ≡ held_from keep u s input
      go true e = held-still keep s input t e ∙ sym (held-still keep s input u e)
      go false e = f e

  same-turns : (t u : ℕ) (s : Standing) → Enough t s input → Enough u s input → held_from keep t s input ≡ held_from keep u s input
  same-turns zero u s h k = still-or zero u s (λ e. absurd (enough-some s e h))
  same-turns (suc t) zero s h k = still-or (suc t) zero s (λ e. absurd (enough-some s e k))
  same-turns (suc t) (suc u) s h k =
      still-or (suc t) (suc u) s (λ e.
      held-step keep s input t e
      ∙ same-turns t u (after_next s input) (enough-next s t e h) (enough-next s u e k)
      ∙ sym (held-step keep s input u e))

-- ---- words counted on

counted_stop : (w : ℕ) (s : Standing) → stop (counted w s) ≡ counted w (stop s)
unfolding stop counted
counted_stop w s = refl

counted-arrival : (w : ℕ) (call : Result Left) (k : ℕ) (s : Standing) → after_arrival call k (counted w s) ≡ counted w (after_arrival call k s)
unfolding after_arrival stop counted
counted-arrival w (Err cause) k s = refl
counted-arrival w (Ok r) k s = rw (add_assoc w s.words k)

counted-record : (w : ℕ) (o : Option (Read Change)) (s : Standing) → after_record o (counted w s) ≡ counted w (after_record o s)
unfolding after_record
counted-record w None s = counted_stop w s
counted-record w (Some r) s = unfold counted in counted-arrival w (arrival s.memory (change_words r.value) s.numbers) (length (change_words r.value)) s

module _ (w : ℕ) (input : List ℕ) where
  counted-untaken : (s : Standing) → untaken (counted w s) input ≡ untaken s (drop (4 * w) input)
  unfolding counted
  counted-untaken s =
      let sum : 4 * (w + s.words) ≡ 4 * w + 4 * s.words = omega arith in
      rw sum (sym (drop-drop (4 * s.words) (4 * w) input))

  counted_next : (s : Standing) → after_next (counted w s) input ≡ counted w (after_next s (drop (4 * w) input))
  unfolding after_next
  counted_next s = rw (counted-untaken s) (counted-record w (read_first (words_of (untaken s (drop (4 * w) input)))) s)

  counted-rests : (keep : ℕ) (s : Standing) → rests keep (counted w s) input ≡ rests keep s (drop (4 * w) input)
  unfolding rests counted
  counted-rests keep s = rw (counted-untaken s)

  counted-on : (keep turns : ℕ) (s : Standing) → held_from keep turns (counted w s) input ≡ counted w (held_from keep turns s (drop (4 * w) input))
  unfolding held_from
  counted-on keep zero s = refl
  counted-on keep (suc turns) s = go (rests keep s (drop (4 * w) input)) refl (counted-on keep turns (after_next s (drop (4 * w) input)))
    where
      go : (b : Bool) → rests keep s (drop (4 * w) input) ≡ b
          → held_from keep turns (counted w (after_next s (drop (4 * w) input))) input ≡ counted w (held_from keep turns (after_next s (drop (4 * w) input)) (drop (4 * w) input))
          → held_from keep (suc turns) (counted w s) input ≡ counted w (held_from keep (suc turns) s (drop (4 * w) input))
      go true e i =
          held-still keep (counted w s) input (suc turns) (counted-rests keep s ∙ e)
          ∙ ap (counted w) (sym (held-still keep s (drop (4 * w) input) (suc turns) e))
      go false e i =
          held-step keep (counted w s) input turns (counted-rests keep s ∙ e)
          ∙ ap (λ (x : Standing). held_from keep turns x input) (counted_next s)
          ∙ i
          ∙ ap (counted w) (sym (held-step keep s (drop (4 * w) input) turns e))

-- ---- a part, and what follows it

module _ (keep least : ℕ) (long : kept_bytes ≤ keep) (less : least ≤ keep) (a b : List ℕ) where
  -- where more than `keep` bytes of the part are left, the record there is the same with what follows
  next-same : (s : Standing) → rests keep s a ≡ false → (after_next s (a ++ b) ≡ after_next s a) × (rests least s (a ++ b) ≡ false)
  unfolding after_next
  next-same s e =
      let o = going_on keep s a e in
      let l = length-append a b in
      let left = length-drop (4 * s.words) a in (
        rw (drop-append-le (4 * s.words) a b (omega (arith, o.1)))
            (first-decides _ _ s (words-front record_space (drop (4 * s.words) a) b (omega (arith, o.1)))),
        goes_on least s (a ++ b) o.0 (omega (arith, o.1)),
      )

  whole : Standing → Standing
  whole s = held_from least (length (a ++ b)) s (a ++ b)

  whole-next : (s : Standing) → rests keep s a ≡ false → whole s ≡ whole (after_next s a)
  unfolding whole
  whole-next s e =
      let n = next-same s e in
      same-turns least (a ++ b) (length (a ++ b)) (suc (length (a ++ b))) s (λ f. omega arith) (λ f. omega arith)
      ∙ held-step least s (a ++ b) (length (a ++ b)) n.1
      ∙ ap (λ (x : Standing). held_from least (length (a ++ b)) x (a ++ b)) n.0

  whole-after : (turns : ℕ) (s : Standing) → whole s ≡ whole (held_from keep turns s a)
  unfolding held_from
  whole-after zero s = refl
  whole-after (suc turns) s = go (rests keep s a) refl (whole-after turns (after_next s a))
    where
      go : (c : Bool) → rests keep s a ≡ c → whole (after_next s a) ≡ whole (held_from keep turns (after_next s a) a) → whole s ≡ whole (held_from keep (suc turns) s a)
      go true e i = ap whole (sym (held-still keep s a (suc turns) e))
      go false e i = whole-next s e ∙ i ∙ ap whole (sym (held-step keep s a turns e))

  -- from a standing within the part, with what is left of the part
  whole-on : (s : Standing) → 4 * s.words ≤ length a → whole s ≡ held_on least s (untaken s a ++ b)
  unfolding whole held_on counted
  whole-on s h = go s.stopped refl
    where
      rest : List ℕ
      rest = drop (4 * s.words) (a ++ b)

      from : Standing
      from = beginning s.memory s.numbers

      again : s.stopped ≡ false → s ≡ counted s.words from
      again e = λ i. record { memory = s.memory; numbers = s.numbers; words = sym (add-zero s.words) i; stopped = e i }

      go : (c : Bool) → s.stopped ≡ c
          → held_from least (length (a ++ b)) s (a ++ b) ≡ cond c s (counted s.words (held_from least (length (untaken s a ++ b)) from (untaken s a ++ b)))
      go true e = held-still least s (a ++ b) (length (a ++ b)) (rests-stopped least s (a ++ b) e)
      go false e =
          ap whole (again e)
          ∙ counted-on s.words (a ++ b) least (length (a ++ b)) from
          ∙ ap (counted s.words)
          (same-turns least rest (length (a ++ b)) (length rest) from (λ f. omega (arith, length-drop (4 * s.words) (a ++ b))) (λ f. omega arith)
          ∙ ap (λ (l : List ℕ). held_from least (length l) from l) (drop-append-le (4 * s.words) a b h))

-- holding a part, and then what is left of it with the next part after it, is holding both at once
pub in_parts : (keep least : ℕ) → kept_bytes ≤ keep → least ≤ keep → (m : List ℕ) (n : Numbers) (a b : List ℕ)
    → let s = held_from keep (length a) (beginning m n) a in
    held_from least (length (a ++ b)) (beginning m n) (a ++ b) ≡ held_on least s (untaken s a ++ b)
unfolding whole
in_parts keep least long less m n a b =
    let s = held_from keep (length a) (beginning m n) a in
    whole-after keep least long less a b (length a) (beginning m n)
    ∙ whole-on keep least long less a b s (held-inside keep (length a) (beginning m n) a (omega arith))
