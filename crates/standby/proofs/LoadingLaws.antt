-- Laws of an image's arrival: its checking order, what an image comes to, and that loading gives the written table.
use Rattle.std.specs.Prelude.{Option, None, Some, Ok, Err}
use Prim.Native.Nat.{ℕ, ◌≤◌, ◌<◌}
use mathlib.Core.Path.{◌≡◌, refl, ap, ◌∙◌}
use mathlib.Core.List.{List}
use mathlib.Core.Bool.{Bool, true, false, cond}
use native.Mathlib.Omega.{arith}
use lib.Dec.{ltb, eqb}
use borrow.Author.Tests.{lt-ltb, le-ltb, ltb-true, ltb-false, eq-eqb, ne_eqb, eqb-true, eqb-false}
use Rattle.refusals.specs.declared.Refusal.{Refusal}
use Rattle.refusals.specs.declared.Refusal.TheVariants.{NoTable, MalformedImage}
use Rattle.refusals.specs.Refusals.{Result, and_then}
use Rattle.table.specs.Tables.{Table}
use Rattle.table.specs.Memory.{table_of, holds}
use Rattle.table.proofs.Puts.{table_of-put}
use Rattle.images.specs.declared.ImageRead.{ImageRead}
use Rattle.images.specs.Images.{Image, image_words, read_image, Writable}
use Rattle.images.specs.Steps.{loaded_by}
use Rattle.images.proofs.ImageLaws.{image-read}
use Rattle.images.proofs.ReadingLaws.{ImageTold}
use Rattle.standby.specs.declared.Numbers.{Numbers}
use Rattle.standby.specs.declared.Arrival.{Arrival}
use Rattle.standby.specs.declared.Arrival.TheVariants.{Repeat, Taken}
use Rattle.standby.specs.Arriving.{conflict, standby_in, met, Left, stays, left_by}
use Rattle.standby.specs.Loading.{is_image, is_taken, takes, loaded, loading, Loads}
use Rattle.standby.proofs.ArrivingLaws.{no-standby, in-conflict, a-standby, meets, comes-left}

-- ---- the checking order

module _ (m words : List ℕ) (s : Numbers) where
  pub loading-no-table : holds m ≡ false → loading m words s ≡ Err NoTable
  unfolding loading and_then
  loading-no-table h = rw (no-standby m s h)

  pub loading-conflict : holds m ≡ true → conflict s ≡ true → loading m words s ≡ Err NoTable
  unfolding loading and_then
  loading-conflict h l = rw (in-conflict m s h l)

  module _ (h : holds m ≡ true) (l : conflict s ≡ false) where
    pub loading-malformed : read_image words ≡ None → loading m words s ≡ Err MalformedImage
    unfolding loading and_then is_image
    loading-malformed e = rw (a-standby m s h l, e)

    pub loading-image : {i : Image} → read_image words ≡ Some i → loading m words s ≡ Ok (loaded m (met s i.run i.number) i)
    unfolding loading and_then is_image
    loading-image e = rw (a-standby m s h l, e)

  -- what holds of every refusal and of the image that the words are, if they are one, holds of the arrival
  pub loading-by : (P : Result Left → Type 0) → ((cause : Refusal) → P (Err cause))
      → ((i : Image) → read_image words ≡ Some i → P (Ok (loaded m (met s i.run i.number) i)))
      → P (loading m words s)
  unfolding loading and_then is_image
  loading-by P stopped goes_on = by-table (standby_in m s)
    where
      by-words : (o : Option Image) → read_image words ≡ o → P (and_then (is_image o) (λ i. Ok (loaded m (met s i.run i.number) i)))
      by-words None e = stopped MalformedImage
      by-words (Some i) e = goes_on i e

      by-table : (r : Result Table) → P (and_then r (λ t. and_then (is_image (read_image words)) (λ i. Ok (loaded m (met s i.run i.number) i))))
      by-table (Err cause) = stopped cause
      by-table (Ok t) = by-words (read_image words) refl

-- ---- what an image comes to

module _ (s : Numbers) (q k : ℕ) where
  pub taken-higher : s.run < q → is_taken s q k ≡ true
  unfolding is_taken
  taken-higher l = rw (lt-ltb s.run q l)

  pub taken-other : q ≤ s.run → (s.run ≡ q → ⊥) → is_taken s q k ≡ false
  unfolding is_taken
  taken-other l ne = rw (le-ltb s.run q l, ne_eqb s.run q ne)

  pub taken-same : s.run ≡ q → is_taken s q k ≡ ltb s.n k
  unfolding is_taken
  taken-same e = rw (le-ltb s.run q (omega arith), eq-eqb s.run q e)

-- the ways that there are
pub data Loading (m : List ℕ) (s : Numbers) (i : Image) : Left → Type 0 where
  taken : s.run ≤ i.run → (s.run ≡ i.run → s.n < i.number) → Loading m s i (takes m s i)
  passed : i.run ≤ s.run → (s.run ≡ i.run → i.number ≤ s.n) → Loading m s i (stays Repeat m s)

pub loading-as : (m : List ℕ) (s : Numbers) (i : Image) → Loading m s i (loaded m s i)
unfolding loaded
loading-as m s i = by-run (ltb s.run i.run) refl (eqb s.run i.run) refl
  where
    same-run : s.run ≡ i.run → (b : Bool) → ltb s.n i.number ≡ b → Loading m s i (cond b (takes m s i) (stays Repeat m s))
    same-run q true e = let l = ltb-true s.n i.number e in taken (omega arith) (λ x. l)
    same-run q false e = let l = ltb-false s.n i.number e in passed (omega arith) (λ x. l)

    by-run : (b : Bool) → ltb s.run i.run ≡ b → (d : Bool) → eqb s.run i.run ≡ d
        → Loading m s i (cond (is_taken s i.run i.number) (takes m s i) (stays Repeat m s))
    by-run true e d f = let l = ltb-true s.run i.run e in rw (taken-higher s i.run i.number l) (taken (omega arith) (λ x. absurd (omega arith)))
    by-run false e true f =
        let q = eqb-true s.run i.run f in
        rw (taken-same s i.run i.number q) (same-run q (ltb s.n i.number) refl)
    by-run false e false f =
        let l = ltb-false s.run i.run e in
        let ne = eqb-false s.run i.run f in
        rw (taken-other s i.run i.number l ne) (passed l (λ x. absurd (ne x)))

-- ---- at each way out of the code; `after` are the numbers once the image is met

module _ (m words : List ℕ) (s : Numbers) {after : Numbers} {told : ImageRead} (h : holds m ≡ true) (l : conflict s ≡ false) (T : ImageTold (read_image words) told)
    (M : after ≡ met s told.run told.number) where
  told-loading : loading m words s ≡ Ok (loaded m after T.read.value)
  told-loading = loading-image m words s h l T.read.is ∙ rw (M, T.same-run, T.same_number)

  pub loads-repeat : is_taken after told.run told.number ≡ false → Loads m words s m after (Ok Repeat)
  unfolding loaded
  loads-repeat k = comes-left (told-loading ∙ rw (← T.same-run, ← T.same_number, k)) refl refl refl

  pub loads-taken : {m' : List ℕ} → is_taken after told.run told.number ≡ true → m' ≡ loaded_by (read_image words) m
      → Loads m words s m' (record { n = told.number; h = after.h; run = told.run; highest = after.highest }) (Ok Taken)
  unfolding loaded takes loaded_by
  loads-taken k e =
      let call : loading m words s ≡ Ok (takes m after T.read.value) = told-loading ∙ rw (← T.same-run, ← T.same_number, k) in
      comes-left call refl (e ∙ rw T.read.is) (rw (T.same-run, T.same_number))

-- ---- loading gives the written table

-- an image that was written, where its run is higher, or the same with n below its number
pub load-written : {m : List ℕ} {s : Numbers} {i : Image} {m' : List ℕ} {s' : Numbers} {r : Result Arrival} → holds m ≡ true → conflict s ≡ false → Writable i
    → is_taken s i.run i.number ≡ true → Loads m (image_words i) s m' s' r
    → (r ≡ Ok Taken) × (table_of m' ≡ i.table) × (s'.run ≡ i.run) × (s'.n ≡ i.number)
unfolding loaded takes left_by is_taken
load-written {m} {s} {i} h l W k L =
    let M = meets s i.run i.number in
    let e : loading m (image_words i) s ≡ Ok (takes m (met s i.run i.number) i) =
    loading-image m (image_words i) s h l (image-read W) ∙ rw (M.same-run, M.same-n, k) in (
      L.answer ∙ rw e,
      ap table_of L.memory ∙ rw e (table_of-put i.table m),
      ap (λ (x : Numbers). x.run) L.numbers ∙ rw e,
      ap (λ (x : Numbers). x.n) L.numbers ∙ rw e,
    )
