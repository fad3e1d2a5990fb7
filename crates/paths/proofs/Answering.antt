-- Laws of the answer: an absolute path, a bad working directory, the resolved path handed over, and the first cause.
use Rattle.std.specs.Prelude.{None, Some, Ok, Err}
use Prim.Native.Nat.{ℕ, ◌+◌, ◌≤◌, ◌<◌}
use mathlib.Core.Path.{◌≡◌, refl, sym, ap, ◌∙◌}
use mathlib.Core.List.{List, [], ◌∷◌}
use mathlib.Core.Bool.{Bool, true, false, ◌||◌, not, false≢true}
use native.Mathlib.Omega.{arith}
use native.Mathlib.Nat.{zero-add}
use lib.ListN.{length, take, drop, length-append}
use lib.Seq.{take_at}
use lib.Dec.{eqb, ltb}
use borrow.Author.Tests.{ne_eqb, eqb-true, eqb-false, lt-ltb, le-ltb, ltb-false}
use Rattle.paths.specs.Components.{slash, same, pieces, slashed, spell}
use Rattle.refusals.specs.declared.Refusal.{Refusal}
use Rattle.refusals.specs.declared.Refusal.TheVariants.{EmptyPath, PathTooLong, BadDirectory, ResolvedTooLong}
use Rattle.refusals.specs.Refusals.{first_cause, Result, unless}
use Rattle.refusals.proofs.CauseLaws.{no-cause-head, no-cause-tail, unless-ok, unless-refused}
use Rattle.paths.specs.Resolving.{
  is_absolute,
  join,
  enter_all,
  normalize,
  resolve,
  max_path,
  is_bad_directory,
  path_conditions,
  space_after,
  resolution,
  resolved_into,
  Resolves,
}
use Rattle.paths.specs.Copying.{overwrite, Appends}
use Rattle.paths.specs.Entering.{enter_all_bytes, Begins, rooted}
use Rattle.paths.specs.Answering.{too_long, Answers}
use Rattle.paths.proofs.Entering.{entered-one, entered-both}

-- ---- a bad working directory

pub same_empty : (c : List ℕ) → same c [] ≡ eqb (length c) 0
unfolding same
same_empty [] = refl
same_empty (a ∷ c) = sym (ne_eqb (length (a ∷ c)) 0 (λ h. omega arith))

pub directory-short : (p cwd : List ℕ) → is_absolute p ≡ false → is_bad_directory p cwd ≡ false → length cwd ≤ max_path
unfolding is_bad_directory
directory-short p cwd a e = ltb-false max_path (length cwd) (none_of (same cwd []) (ltb max_path (length cwd)) (not (is_absolute cwd)) (rw a at e))
  where
    none_of : (x y z : Bool) → x || y || z ≡ false → y ≡ false
    none_of true y z e = absurd (false≢true (sym e))
    none_of false true z e = absurd (false≢true (sym e))
    none_of false false z e = refl

-- ---- the components of a joined path in bytes

-- n bytes of a work area stand for what is entered before the path, so that the path's components complete the joined ones
pub record Before (p cwd w : List ℕ) (n : ℕ) : Type 0 where
  pub few : n ≤ 1025
  pub joins : enter_all_bytes (take n w) (pieces p) ≡ slashed (enter_all [] (pieces (join cwd p)))

module _ (p cwd : List ℕ) {w : List ℕ} {n : ℕ} where
  pub before-absolute : is_absolute p ≡ true → n ≡ 0 → Before p cwd w n
  unfolding join
  before-absolute a z = record { few = omega arith; joins = rw (z, a) (entered-one p) }

  pub before-relative : is_absolute p ≡ false → is_bad_directory p cwd ≡ false → Begins w n (0 + length cwd + 1) (enter_all_bytes [] (pieces cwd)) → Before p cwd w n
  unfolding join
  before-relative a e b = record { few = omega (arith, b.few, directory-short p cwd a e); joins = rw (b.front, a) (entered-both cwd p) }

  pub joined : {v : List ℕ} {r : ℕ} → Before p cwd w n → length p ≤ max_path → Begins v r (n + length p + 1) (enter_all_bytes (take n w) (pieces p))
      → Begins v r 2050 (slashed (enter_all [] (pieces (join cwd p))))
  joined b h d = record { few = omega (arith, b.few, d.few); front = d.front ∙ b.joins }

-- ---- the resolved path, handed over

pub rooted_none : (w : List ℕ) → true ≡ eqb (length w) 0 → rooted w ≡ slash ∷ []
unfolding rooted
rooted_none [] e = refl
rooted_none (b ∷ w) e = let h = eqb-true (length (b ∷ w)) 0 (sym e) in absurd (omega arith)

pub rooted_some : (w : List ℕ) → false ≡ eqb (length w) 0 → rooted w ≡ w
unfolding rooted
rooted_some [] e = absurd (eqb-false 0 0 (sym e) refl)
rooted_some (b ∷ w) e = refl

rooted-slashed : (cs : List (List ℕ)) → rooted (slashed cs) ≡ spell cs
unfolding rooted slashed spell
rooted-slashed [] = refl
rooted-slashed (c ∷ cs) = refl

spelled : (p cwd : List ℕ) → rooted (slashed (enter_all [] (pieces (join cwd p)))) ≡ resolve p cwd
unfolding resolve normalize
spelled p cwd = rooted-slashed (enter_all [] (pieces (join cwd p)))

-- a path that is too long, and one that is not and is written into the space
module _ {path : List ℕ} (q space : List ℕ) (e : path ≡ q) where
  pub handed-long : max_path < length path → Answers q (too_long q) space (Err ResolvedTooLong) space
  unfolding too_long first_cause unless space_after
  handed-long h = rw (← e) (record { answer = rw (lt-ltb max_path (length path) h); bytes = rw (lt-ltb max_path (length path) h) })

  pub handed-path : {after : List ℕ} {r : ℕ} → length path ≤ max_path → Appends path space 0 after r → Answers q (too_long q) space (Ok r) after
  unfolding too_long first_cause unless space_after overwrite
  handed-path h a = rw (← e) (record {
    answer = rw (le-ltb max_path (length path) h, a.end, zero-add (length path));
    bytes = a.content ∙ rw (le-ltb max_path (length path) h, zero-add (length path));
  })

-- ---- the first cause

module _ (p cwd space : List ℕ) where
  pub resolves-empty : true ≡ eqb (length p) 0 → Resolves p cwd space (Err EmptyPath) space
  unfolding resolution resolved_into path_conditions first_cause unless space_after
  resolves-empty e = let s = same_empty p ∙ sym e in record { answer = rw s; bytes = rw s }

  module _ (some : false ≡ eqb (length p) 0) where
    pub resolves-long : max_path < length p → Resolves p cwd space (Err PathTooLong) space
    unfolding resolution resolved_into path_conditions first_cause unless space_after
    resolves-long h =
        let s = same_empty p ∙ sym some in
        record { answer = rw (s, lt-ltb max_path (length p) h); bytes = rw (s, lt-ltb max_path (length p) h) }

    module _ (short : length p ≤ max_path) where
      pub resolves-bad : true ≡ is_bad_directory p cwd → Resolves p cwd space (Err BadDirectory) space
      unfolding resolution resolved_into path_conditions first_cause unless space_after
      resolves-bad e =
          let s = same_empty p ∙ sym some in
          record { answer = rw (s, le-ltb max_path (length p) short, ← e); bytes = rw (s, le-ltb max_path (length p) short, ← e) }

      last-cause : false ≡ is_bad_directory p cwd → first_cause (path_conditions p cwd) ≡ too_long (resolve p cwd)
      unfolding path_conditions first_cause too_long
      last-cause e = rw (same_empty p ∙ sym some, le-ltb max_path (length p) short, ← e)

      pub resolves-path : {w : List ℕ} {n : ℕ} {r : Result ℕ} {after : List ℕ} → false ≡ is_bad_directory p cwd
          → Begins w n 2050 (slashed (enter_all [] (pieces (join cwd p)))) → Answers (rooted (take n w)) (too_long (rooted (take n w))) space r after
          → Resolves p cwd space r after
      unfolding resolution resolved_into
      resolves-path {w = w} {n = n} e b a =
          let z : rooted (take n w) ≡ resolve p cwd = ap rooted b.front ∙ spelled p cwd in
          record { answer = a.answer ∙ rw (z, last-cause e); bytes = a.bytes ∙ rw (z, last-cause e) }

-- ---- what an answer of resolving tells

-- the path is resolved, with n bytes
pub record Given (p cwd : List ℕ) (n : ℕ) : Type 0 where
  pub free : first_cause (path_conditions p cwd) ≡ None
  pub size : length (resolve p cwd) ≡ n
  pub short : n ≤ max_path

pub no-cause-short : (p cwd : List ℕ) → first_cause (path_conditions p cwd) ≡ None → length (resolve p cwd) ≤ max_path
unfolding path_conditions
no-cause-short p cwd e =
    ltb-false _ _ (no-cause-head _ _ _ (no-cause-tail _ _ _ (no-cause-tail _ _ _ (no-cause-tail _ _ _ e))))

pub resolution-resolved : (p cwd : List ℕ) (n : ℕ) → resolution p cwd ≡ Ok n → Given p cwd n
unfolding resolution
resolution-resolved p cwd n e =
    let b = unless-ok (first_cause (path_conditions p cwd)) (length (resolve p cwd)) e in
    record { free = b.0; size = b.1; short = omega (arith, no-cause-short p cwd b.0, b.1) }

pub resolution-refused : (p cwd : List ℕ) (c : Refusal) → resolution p cwd ≡ Err c → first_cause (path_conditions p cwd) ≡ Some c
unfolding resolution
resolution-refused p cwd c e = unless-refused (first_cause (path_conditions p cwd)) (length (resolve p cwd)) e

-- the lent space begins with the resolved path
pub given-space : (p cwd space after : List ℕ) (n : ℕ) → Given p cwd n → after ≡ resolved_into p cwd space → take n after ≡ resolve p cwd
unfolding resolved_into space_after
given-space p cwd space after n g e = rw (e, g.free) (take_at (resolve p cwd) _ n g.size)

-- and so is no shorter
pub given-room : (p cwd space after : List ℕ) (n : ℕ) → Given p cwd n → after ≡ resolved_into p cwd space → n ≤ length after
unfolding resolved_into space_after
given-room p cwd space after n g e =
    rw (e, g.free) (omega (arith, length-append (resolve p cwd) (drop (length (resolve p cwd)) space), g.size))
