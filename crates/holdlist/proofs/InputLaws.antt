-- Laws of holding the input part by part: what is held is what the input so far makes, and what is left of that is at the buffer's front.
use Prim.Native.Nat.{ℕ, ◌+◌, ◌*◌, ◌-◌, ◌≤◌}
use mathlib.Core.Path.{◌≡◌, refl, sym, ap, ◌∙◌}
use mathlib.Core.List.{List, [], ◌++◌, append-nil}
use mathlib.Core.Bool.{false}
use native.Mathlib.Omega.{arith}
use lib.ListN.{length, take}
use lib.Seq.{length-take-le}
use Rattle.std.specs.Prelude.{Result, Ok}
use Rattle.input.specs.Parts.{buffer_bytes, ReadsAfter, KeepsRest}
use Rattle.input.proofs.PartLaws.{Buffered, buffered-start, buffered-kept, new_bytes, came-inside, joined, buffered-next}
use Rattle.holdlist.specs.declared.Held.{Held}
use Rattle.holdlist.specs.Holding.{Standing, untaken, held_from, unnumbered, kept_bytes, beginning, held, counted, held_on, standing, Holds}
use Rattle.holdlist.specs.Input.{HoldsInput, all}
use Rattle.holdlist.proofs.HoldingLaws.{holds_as, holds-is, held-inside, on-by}
use Rattle.holdlist.proofs.PartLaws.{in_parts}

-- going on with more bytes takes so many words of them
on-words : (keep : ℕ) (bytes m : List ℕ) (r : Held) → r.stopped ≡ false → {m' : List ℕ} {q : Held} → Holds (held_on keep (standing m r) bytes) m' q
    → (r.words ≤ q.words) × (4 * (q.words - r.words) ≤ length bytes)
unfolding counted
on-words keep bytes m r e H =
    let w = H.words ∙ ap (λ (s : Standing). s.words) (on-by keep (standing m r) bytes false e) in
    let few = held-inside keep (length bytes) (beginning m r.numbers) bytes (omega arith) in
    (omega arith, omega arith)

-- what the input so far makes, and what is left of it
pub record Part (first memory buffer : List ℕ) (r : Held) (left turns : ℕ) : Type 0 where
  pub input : List ℕ
  pub so_far : held_from kept_bytes (length input) (beginning first unnumbered) input ≡ standing memory r
  pub buffered : Buffered input buffer (4 * r.words) left turns
  pub same : length memory ≡ length first

pub part-start : (m buffer : List ℕ) → length buffer ≡ buffer_bytes
    → Part m m buffer (record { numbers = unnumbered; words = 0; stopped = false }) 0 0
unfolding held_from
part-start m buffer l = record { input = []; so_far = refl; buffered = buffered-start buffer l; same = refl }

module _ {first m buffer : List ℕ} {r : Held} {left turns : ℕ} (P : Part first m buffer r left turns) where
  -- the input so far with more after it
  with_part : (least : ℕ) → least ≤ kept_bytes → (b : List ℕ)
      → held_from least (length (P.input ++ b)) (beginning first unnumbered) (P.input ++ b)
      ≡ held_on least (standing m r) (untaken (standing m r) P.input ++ b)
  with_part least h b = rw P.so_far at (in_parts kept_bytes least (omega arith) h first unnumbered P.input b)

  -- a buffer with the same first bytes serves as well
  pub part-kept : {after : List ℕ} → take left after ≡ take left buffer → length after ≡ length buffer → Part first m after r left turns
  part-kept k l = record { input = P.input; so_far = P.so_far; buffered = buffered-kept P.buffered k l; same = P.same }

  -- at the input's end
  pub part_end : {E : Type 0} {m' : List ℕ} {q : Held} → Holds (held_on 0 (standing m r) (take left buffer)) m' q → HoldsInput {E = E} first m' (Ok q)
  part_end H =
      let whole : held_on 0 (standing m r) (take left buffer) ≡ held first unnumbered P.input =
      ap (held_on 0 (standing m r)) (P.buffered.rest ∙ sym (append-nil _))
      ∙ sym (with_part 0 (omega arith) [])
      ∙ ap (λ (l : List ℕ). held first unnumbered l) (append-nil P.input) in
      all P.input (holds_as whole H)

  module _ (e : r.stopped ≡ false) {after : List ℕ} {E : Type 0} {c : Result ℕ E} (R : ReadsAfter buffer left after c) (same : length after ≡ length buffer)
      {more : ℕ} (f : c ≡ Ok more) {m' : List ℕ} {q : Held} (H : Holds (held_on kept_bytes (standing m r) (take (left + more) after)) m' q) where
    pub taken-inside : (r.words ≤ q.words) × (4 * (q.words - r.words) ≤ left + more)
    taken-inside =
        let w = on-words kept_bytes (take (left + more) after) m r e H in
        (w.0, omega (arith, w.1, length-take-le (left + more) after (came-inside P.buffered R same f)))

    pub part-next : {buffer' : List ℕ} {taken left' : ℕ} → length m' ≡ length m → KeepsRest after (left + more) taken buffer' left'
        → length buffer' ≡ length after → taken ≡ 4 * (q.words - r.words) → Part first m' buffer' q left' (turns + 1)
    part-next {taken = taken} l K k g =
        let B = P.buffered in
        let w = taken-inside in
        record {
          input = P.input ++ new_bytes after left more;
          so_far =
              with_part kept_bytes (omega arith) (new_bytes after left more)
              ∙ ap (held_on kept_bytes (standing m r)) (sym (joined B R same f))
              ∙ sym (holds-is H);
          buffered = buffered-next B R same f taken (4 * q.words) (omega arith) (omega arith) K k;
          same = l ∙ P.same;
        }
