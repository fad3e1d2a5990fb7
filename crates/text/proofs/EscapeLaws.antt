-- Laws of escaping: how long a byte is as it is shown, and a path byte by byte.
use Prim.Native.Nat.{ℕ, ◌+◌, ◌*◌, ◌-◌, ◌/◌, ◌%◌, ◌≤◌, ◌<◌}
use mathlib.Core.Path.{◌≡◌, refl, sym, ap, ◌∙◌}
use mathlib.Core.List.{List, [], ◌∷◌, ◌++◌, append-nil, append_assoc}
use mathlib.Core.Bool.{Bool, true, false, cond}
use native.Mathlib.Omega.{arith}
use native.Mathlib.Numerals.{add-one}
use lib.ListN.{length, get_or, take, length-append}
use lib.Seq.{take-suc}
use Rattle.paths.specs.Copying.{Appends}
use Rattle.table.proofs.Overwrites.{appends-none, appends-more}
use Rattle.text.specs.Escaping.{escaped_bytes, percent, is_plain, digit, escaped_byte, escaped}

-- ---- a byte as it is shown

byte-long : (b : ℕ) → length (escaped_byte b) ≤ escaped_bytes
unfolding escaped_byte
byte-long b = by (is_plain b)
  where
    by : (c : Bool) → length (cond c (b ∷ []) (percent ∷ digit (b / 16) ∷ digit (b % 16) ∷ [])) ≤ escaped_bytes
    by true = omega arith
    by false = omega arith

-- ---- a path

escaped-append : (p q : List ℕ) → escaped (p ++ q) ≡ escaped p ++ escaped q
unfolding escaped
escaped-append [] q = refl
escaped-append (b ∷ p) q = ap (λ (l : List ℕ). escaped_byte b ++ l) (escaped-append p q) ∙ sym (append_assoc (escaped_byte b) (escaped p) (escaped q))

escaped-one : (b : ℕ) → escaped (b ∷ []) ≡ escaped_byte b
unfolding escaped
escaped-one b = append-nil (escaped_byte b)

escaped-more : (p : List ℕ) (i : ℕ) → i < length p → escaped (take (i + 1) p) ≡ escaped (take i p) ++ escaped_byte (get_or p i 0)
escaped-more p i h =
    rw (add-one i, take-suc p i 0 h) (escaped-append (take i p) (get_or p i 0 ∷ []) ∙ ap (λ (l : List ℕ). escaped (take i p) ++ l) (escaped-one (get_or p i 0)))

pub escaped-long : (p : List ℕ) → length (escaped p) ≤ escaped_bytes * length p
unfolding escaped
escaped-long [] = omega arith
escaped-long (b ∷ p) = omega (arith, length-append (escaped_byte b) (escaped p), byte-long b, escaped-long p)

-- the first `i` bytes are written, and there is room for the others
pub record Escaping (path space : List ℕ) (at : ℕ) (space' : List ℕ) (end i : ℕ) : Type 0 where
  pub written : Appends (escaped (take i path)) space at space' end
  pub most : i ≤ length path
  pub room : end + escaped_bytes * (length path - i) ≤ length space
  pub same : length space' ≡ length space

pub escaping-start : (path space : List ℕ) (at : ℕ) → at + escaped_bytes * length path ≤ length space → Escaping path space at space at 0
unfolding escaped
escaping-start path space at h = record { written = appends-none space at; most = omega arith; room = omega arith; same = refl }

module _ {path space : List ℕ} {at : ℕ} {space' : List ℕ} {end i : ℕ} (E : Escaping path space at space' end i) (h : i < length path) where
  pub escaping-more : {space'' : List ℕ} {end' : ℕ} → Appends (escaped_byte (get_or path i 0)) space' end space'' end' → length space'' ≡ length space'
      → Escaping path space at space'' end' (i + 1)
  escaping-more A l = record {
    written = rw (escaped-more path i h) (appends-more (omega (arith, E.written.end, E.room)) E.written A);
    most = omega arith;
    room = omega (arith, A.end, byte-long (get_or path i 0), E.room);
    same = l ∙ E.same;
  }
