-- Laws of input part by part, whoever takes its bytes: what the buffer holds is what is left of the input so far.
use Prim.Native.Nat.{ℕ, ◌+◌, ◌*◌, ◌-◌, ◌≤◌}
use mathlib.Core.Path.{◌≡◌, refl, sym, ap, ◌∙◌}
use mathlib.Core.List.{List, [], ◌++◌}
use native.Mathlib.Omega.{arith}
use lib.ListN.{length, take, drop, take-append-drop, length-append, length-drop}
use lib.Seq.{take-take, take_at, take-add, drop_at, drop-append-le, drop-drop, length-take-le}
use Rattle.paths.specs.Copying.{overwrite}
use Rattle.std.specs.Prelude.{Result, Ok}
use Rattle.input.specs.Parts.{buffer_bytes, ReadsAfter, KeepsRest}

-- ---- the bytes that are left, at the buffer's front

drop-take : (l : List ℕ) (taken left : ℕ) → taken + left ≤ length l → drop taken (take (taken + left) l) ≡ take left (drop taken l)
drop-take l taken left h =
    ap (drop taken) (take-add taken left l)
    ∙ drop_at (take taken l) (take left (drop taken l)) taken (length-take-le taken l (omega arith))

pub moved : (l : List ℕ) (len taken left : ℕ) {m : List ℕ} → len ≤ length l → taken + left ≡ len → m ≡ overwrite l 0 (take left (drop taken l))
    → take left m ≡ drop taken (take len l)
unfolding overwrite
moved l len taken left h s e =
    ap (take left) e
    ∙ take_at (take left (drop taken l)) _ left (length-take-le left (drop taken l) (omega (arith, length-drop taken l)))
    ∙ sym (drop-take l taken left (omega arith))
    ∙ ap (λ (k : ℕ). drop taken (take k l)) s

-- ---- part by part

-- the buffer's first `left` bytes are what is left of the input so far after its first `taken`, which so many turns brought
pub record Buffered (input buffer : List ℕ) (taken left turns : ℕ) : Type 0 where
  pub rest : take left buffer ≡ drop taken input
  pub within : taken ≤ length input
  pub inside : left ≤ length buffer
  pub room : length buffer ≡ buffer_bytes
  pub few : taken ≤ buffer_bytes * turns

pub buffered-start : (buffer : List ℕ) → length buffer ≡ buffer_bytes → Buffered [] buffer 0 0 0
buffered-start buffer l = record { rest = refl; within = omega arith; inside = omega arith; room = l; few = omega arith }

-- the bytes that came after the first `left`
abbrev pub new_bytes : List ℕ → ℕ → ℕ → List ℕ
new_bytes buffer left more = drop left (take (left + more) buffer)

module _ {input buffer : List ℕ} {taken left turns : ℕ} (B : Buffered input buffer taken left turns) where
  -- a buffer with the same first bytes serves as well
  pub buffered-kept : {after : List ℕ} → take left after ≡ take left buffer → length after ≡ length buffer → Buffered input after taken left turns
  buffered-kept k l = record { rest = k ∙ B.rest; within = B.within; inside = omega (arith, B.inside); room = l ∙ B.room; few = B.few }

  module _ {after : List ℕ} {E : Type 0} {c : Result ℕ E} (R : ReadsAfter buffer left after c) (same : length after ≡ length buffer) {more : ℕ} (f : c ≡ Ok more) where
    pub came-inside : left + more ≤ length after
    came-inside = omega (arith, rw f at R.inside)

    -- the buffer's bytes are what was left, and those that came
    pub joined : take (left + more) after ≡ drop taken input ++ new_bytes after left more
    joined =
        sym (take-append-drop left (take (left + more) after))
        ∙ ap (λ (l : List ℕ). l ++ new_bytes after left more) (take-take left (left + more) after (omega arith) ∙ R.kept ∙ B.rest)

    -- the input so far with them, once `some` of the buffer's bytes are taken
    pub buffered-next : {buffer' : List ℕ} {left' : ℕ} (some taken' : ℕ) → taken' ≡ taken + some → some ≤ left + more
        → KeepsRest after (left + more) some buffer' left' → length buffer' ≡ length after
        → Buffered (input ++ new_bytes after left more) buffer' taken' left' (turns + 1)
    buffered-next some taken' e h K l =
        let new = new_bytes after left more in
        let all : length input - taken + length new ≡ left + more =
        omega (
          arith,
          length-drop taken input,
          length-append (drop taken input) new,
          ap length joined,
          length-take-le (left + more) after came-inside,
        ) in
        record {
          rest =
              K.front
              ∙ ap (drop some) (joined ∙ sym (drop-append-le taken input new B.within))
              ∙ drop-drop some taken (input ++ new)
              ∙ ap (λ (k : ℕ). drop k (input ++ new)) (sym e);
          within = omega (arith, length-append input new, B.within, all);
          inside = omega (arith, K.count, came-inside);
          room = l ∙ same ∙ B.room;
          few = omega (arith, B.few, B.room, came-inside);
        }
