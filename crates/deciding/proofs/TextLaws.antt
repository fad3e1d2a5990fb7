-- Laws of the texts: a path's first and last byte, the name that is shown, and pieces written one after the other.
use Prim.Native.Nat.{ℕ, suc, ◌+◌, ◌-◌, ◌≤◌}
use mathlib.Core.Path.{◌≡◌, refl, sym}
use mathlib.Core.List.{List, [], ◌∷◌, ◌++◌}
use mathlib.Core.Bool.{Bool, true, false, ◌&&◌, cond}
use native.Mathlib.Omega.{arith}
use lib.ListN.{length, length-append}
use lib.Dec.{eqb}
use Rattle.std.specs.List.{starts_with, ends_with}
use Rattle.std.proofs.lemmas.Grind.{common_steps}
use Rattle.paths.specs.Components.{slash}
use Rattle.paths.specs.Resolving.{is_absolute}
use Rattle.paths.specs.Copying.{Appends}
use Rattle.table.proofs.Overwrites.{appends-more}
use Rattle.paths.specs.declared.Descriptor.{Descriptor}
use Rattle.paths.specs.declared.Descriptor.TheVariants.{NoPath, Path}
use Rattle.deciding.specs.Texts.{
  read_access,
  to,
  quote,
  opening,
  closing,
  display_name,
  begins,
  ends,
  format_display_name,
  text_of,
}

-- ---- the first byte and the last

-- std's comparison of one byte, from its side
one_byte : (a b : ℕ) → eqb b a && true ≡ eqb a b
one_byte a b = grind (arith, common_steps)

pub starts-one : (b : ℕ) (p : List ℕ) → starts_with eqb p (b ∷ []) ≡ begins b p
unfolding begins
starts-one b [] = refl
starts-one b (a ∷ p) = one_byte a b

pub ends-one : (b : ℕ) (p : List ℕ) → ends_with eqb p (b ∷ []) ≡ ends b p
unfolding ends
ends-one b [] = refl
ends-one b (a ∷ []) = one_byte a b
ends-one b (a ∷ c ∷ p) =
    let e : length (a ∷ c ∷ p) - 1 ≡ suc (length (c ∷ p) - 1) = omega arith in
    rw e (ends-one b (c ∷ p))

-- ---- the name that is shown

absolute-starts : (p : List ℕ) → is_absolute p ≡ starts_with eqb p (slash ∷ [])
unfolding is_absolute
absolute-starts [] = refl
absolute-starts (b ∷ p) = sym (one_byte b slash)

-- an absolute path is shown resolved
pub shown-resolved : (given resolved : List ℕ) → starts_with eqb given (slash ∷ []) ≡ true → resolved ≡ display_name given resolved
unfolding display_name
shown-resolved given resolved e = rw (absolute-starts given, e)

-- a relative path is shown as given
pub shown-given : (given resolved : List ℕ) → starts_with eqb given (slash ∷ []) ≡ false → given ≡ display_name given resolved
unfolding display_name
shown-given given resolved e = rw (absolute-starts given, e)

-- ---- pieces written one after the other

-- a name in angle brackets is written as it is
pub name-bare : (name : List ℕ) {m : List ℕ} {at : ℕ} {m' : List ℕ} {r : ℕ} → begins opening name && ends closing name ≡ true
    → Appends name m at m' r → Appends (format_display_name name) m at m' r
unfolding format_display_name
name-bare name e a = rw e a

-- and any other between double quotes
pub name-quoted : (name : List ℕ) {m : List ℕ} {at : ℕ} {m₁ : List ℕ} {n₁ : ℕ} {m₂ : List ℕ} {n₂ : ℕ} {m₃ : List ℕ} {r : ℕ}
    → begins opening name && ends closing name ≡ false → at + length name + 2 ≤ length m
    → Appends (quote ∷ []) m at m₁ n₁ → Appends name m₁ n₁ m₂ n₂ → Appends (quote ∷ []) m₂ n₂ m₃ r
    → Appends (format_display_name name) m at m₃ r
unfolding format_display_name
name-quoted name e h a b c = rw e (appends-more (omega arith) (appends-more (omega arith) a b) c)

-- ---- the whole text

-- with a path
pub text-named : (given resolved name : List ℕ) {m m₁ : List ℕ} {n₁ : ℕ} {m₂ : List ℕ} {n₂ : ℕ} {m₃ : List ℕ} {r : ℕ}
    → 1041 ≤ length m → name ≡ display_name given resolved
    → Appends read_access m 0 m₁ n₁ → Appends to m₁ n₁ m₂ n₂ → Appends (format_display_name name) m₂ n₂ m₃ r
    → Appends (text_of Path given resolved) m 0 m₃ r
unfolding text_of
text-named given resolved name h e a b c =
    appends-more (omega arith) (appends-more (omega arith) a b) (rw e at c)

-- ---- how long a text is

pub length-shown : (given resolved : List ℕ) → length given ≤ 1024 → length resolved ≤ 1024 → length (display_name given resolved) ≤ 1024
unfolding display_name
length-shown given resolved h k = by (is_absolute given)
  where
    by : (t : Bool) → length (cond t resolved given) ≤ 1024
    by true = k
    by false = h

length-name : (name : List ℕ) → length (format_display_name name) ≤ length name + 2
unfolding format_display_name
length-name name = by (begins opening name && ends closing name)
  where
    by : (t : Bool) → length (cond t name (quote ∷ name ++ quote ∷ [])) ≤ length name + 2
    by true = omega arith
    by false = omega (arith, length-append name (quote ∷ []))

-- the space of 1,041 bytes is enough
pub length-text : (d : Descriptor) (given resolved : List ℕ) → length given ≤ 1024 → length resolved ≤ 1024
    → length (text_of d given resolved) ≤ 1041
unfolding text_of
length-text NoPath given resolved h k = omega arith
length-text Path given resolved h k =
    omega (
      arith,
      length-append (read_access ++ to) (format_display_name (display_name given resolved)),
      length-name (display_name given resolved),
      length-shown given resolved h k,
    )
