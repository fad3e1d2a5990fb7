-- What an arrival keeps, refused or not: memory that held a table holds one, numbers that agreed agree, and the arrival is the same wherever the table stands.
-- What it promises settles every outcome.
use Rattle.std.specs.Prelude.{Ok, Err}
use Prim.Native.Nat.{ℕ, ◌+◌}
use mathlib.Core.Path.{◌≡◌, refl, sym, ◌∙◌}
use mathlib.Core.List.{List}
use mathlib.Core.Bool.{Bool, true, false, cond}
use native.Mathlib.Omega.{arith}
use lib.Dec.{leb, ltb, eqb}
use Rattle.refusals.specs.declared.Refusal.{Refusal}
use Rattle.refusals.specs.Refusals.{Result, and_then}
use Rattle.refusals.proofs.CauseLaws.{unless-ok}
use Rattle.table.specs.Tables.{Table, fresh, is_table}
use Rattle.table.specs.Acts.{Act, is_act, apply_act, act_overflows}
use Rattle.table.specs.Memory.{table_of, holds, put, do_act, do_acts}
use Rattle.table.specs.Calls.{with_room}
use Rattle.table.proofs.TableLaws.{fresh-table}
use Rattle.table.proofs.Puts.{long_of, table_of-put, holds-put}
use Rattle.table.proofs.ActLaws.{acted-one, no-cause-room}
use Rattle.records.specs.Records.{Change, read_change}
use Rattle.records.proofs.WrittenLaws.{written_back}
use Rattle.images.specs.Images.{Image, read_image}
use Rattle.images.proofs.WrittenLaws.{image-within}
use Rattle.standby.specs.declared.Numbers.{Numbers}
use Rattle.standby.specs.declared.Arrival.{Arrival}
use Rattle.standby.specs.declared.Arrival.TheVariants.{Repeat, Early}
use Rattle.standby.specs.Arriving.{met, Left, stays, applies, applied, in_run, moves, moved, taken, standby_in, well_formed, arrival, left_by, Comes}
use Rattle.standby.specs.Loading.{is_image, is_taken, takes, loaded, loading}
use Rattle.standby.proofs.ArrivingLaws.{Agrees, Meets, meets, fresh-room, Taking, lower, waits, comes, repeats, early, next, taking, arrival-by}
use Rattle.standby.proofs.LoadingLaws.{Loading, taken as is-taken, passed, loading-as, loading-by}

-- ---- numbers that agree

-- number k of run q is met, and the standby stays where it is, or comes to that run and that number
stays-agrees : {s s' : Numbers} {q k : ℕ} → Meets s q k s' → Agrees s → Agrees s'
stays-agrees M A = record {
  below = omega (arith, M.same-run, M.up, A.below);
  ordered = λ e. omega (arith, M.same-n, M.keeps (omega (arith, M.same-run, M.up, A.below)), A.ordered (omega (arith, M.same-run, M.up, A.below)));
}

comes-agrees : {s s' : Numbers} {q k n run : ℕ} → Meets s q k s' → run ≡ q → n ≡ k → Agrees (record { n = n; h = s'.h; run = run; highest = s'.highest })
comes-agrees M e f = record { below = omega (arith, M.over); ordered = λ g. omega (arith, M.reaches (omega arith)) }

-- ---- what is left

-- memory holds a table, and the numbers agree if they did
pub record Kept (s : Numbers) (left : Left) : Type 0 where
  pub holding : holds left.memory ≡ true
  pub agreeing : Agrees s → Agrees left.numbers

-- whatever is refused leaves memory and numbers as they were
KeptBy : List ℕ → Numbers → Result Left → Type 0
KeptBy m s r = Kept s (left_by r m s)

module _ (m : List ℕ) (s : Numbers) (h : holds m ≡ true) where
  kept-refused : (cause : Refusal) → KeptBy m s (Err cause)
  unfolding KeptBy left_by
  kept-refused cause = record { holding = h; agreeing = λ A. A }

  act-holds : (x : List ℕ) → holds x ≡ true → (act : Act) → is_act act ≡ true → act_overflows (table_of x) act ≡ false → holds (do_act x act) ≡ true
  unfolding do_acts
  act-holds x k act fit room = (acted-one x act k fit room).holding

  -- a change
  module _ (c : Change) (fit : is_act c.act ≡ true) where
    after : Numbers
    after = met s c.run c.number

    M : Meets s c.run c.number after
    unfolding after
    M = meets s c.run c.number

    kept-stays : (a : Arrival) → KeptBy m s (Ok (stays a m after))
    unfolding KeptBy left_by
    kept-stays a = record { holding = h; agreeing = stays-agrees M }

    kept-applied : c.run ≡ after.run → c.number ≡ after.n + 1 → (r : Result Act) → with_room (table_of m) c.act ≡ r
        → KeptBy m s (and_then r (λ act. Ok (applies m after act)))
    unfolding KeptBy left_by and_then with_room
    kept-applied q k (Err cause) e = record { holding = h; agreeing = λ A. A }
    kept-applied q k (Ok act) e =
        let u = unless-ok _ c.act e in
        let is : c.act ≡ act = u.1 in
        record {
          holding = rw is at (act-holds m h c.act fit (no-cause-room (table_of m) c.act u.0));
          agreeing = λ A. comes-agrees M (sym q) (sym k);
        }

    taken-kept : {r : Result Left} → Taking (table_of m) m after c r → KeptBy m s r
    taken-kept (lower l) = kept-stays Repeat
    taken-kept (waits l ne) = kept-stays Early
    taken-kept (comes l one) = unfold KeptBy left_by in record {
      holding = act-holds (put fresh m) (holds-put fresh m fresh-table (long_of m h)) c.act fit (rw (table_of-put fresh m) (fresh-room c.act fit));
      agreeing = λ A. comes-agrees M refl (sym one);
    }
    taken-kept (repeats q l) = kept-stays Repeat
    taken-kept (early q l) = kept-stays Early
    taken-kept (next q k) = unfold applied in kept-applied q k (with_room (table_of m) c.act) refl

  -- an image
  module _ (i : Image) (v : is_table i.table ≡ true) where
    loaded-kept : {left : Left} → Loading m (met s i.run i.number) i left → KeptBy m s (Ok left)
    unfolding KeptBy left_by takes
    loaded-kept (is-taken l k) = record { holding = holds-put i.table m v (long_of m h); agreeing = λ A. comes-agrees (meets s i.run i.number) refl refl }
    loaded-kept (passed l k) = record { holding = h; agreeing = stays-agrees (meets s i.run i.number) }

  pub arrival-kept : (words : List ℕ) → Kept s (left_by (arrival m words s) m s)
  unfolding KeptBy after
  arrival-kept words =
      arrival-by m words s (KeptBy m s) kept-refused (λ c e. taken-kept c (written_back words c e).1.fits (taking (table_of m) m (met s c.run c.number) c))

  pub loading-kept : (words : List ℕ) → Kept s (left_by (loading m words s) m s)
  unfolding KeptBy
  loading-kept words = loading-by m words s (KeptBy m s) kept-refused (λ i e. loaded-kept i (image-within words e).0 (loading-as m (met s i.run i.number) i))

-- ---- by the promise, of a record or of an image

module _ {call : Result Left} {m m' : List ℕ} {s s' : Numbers} {r : Result Arrival} (K : Kept s (left_by call m s)) (C : Comes call m s m' s' r) where
  pub comes-held : holds m' ≡ true
  comes-held = rw C.memory K.holding

  pub comes-agreeing : Agrees s → Agrees s'
  comes-agreeing A = rw C.numbers (K.agreeing A)

-- ---- the promise settles the outcome

module _ (call : Result Left) (m : List ℕ) (s : Numbers) where
  pub comes-exists : (m' : List ℕ) × (s' : Numbers) × (r : Result Arrival) × Comes call m s m' s' r
  comes-exists = (_, _, _, record { answer = refl; memory = refl; numbers = refl })

  pub comes-only : {m' n' : List ℕ} {s' t' : Numbers} {r q : Result Arrival} → Comes call m s m' s' r → Comes call m s n' t' q → (m' ≡ n') × (s' ≡ t') × (r ≡ q)
  comes-only A B = (A.memory ∙ sym B.memory, A.numbers ∙ sym B.numbers, A.answer ∙ sym B.answer)

-- ---- wherever the table stands: memory of another length, or with other bytes behind it

-- the same answer, table and numbers
pub record Same (a b : Left) : Type 0 where
  pub answer : a.answer ≡ b.answer
  pub table : table_of a.memory ≡ table_of b.memory
  pub numbers : a.numbers ≡ b.numbers

module _ (m n : List ℕ) (h : holds m ≡ true) (k : holds n ≡ true) (e : table_of m ≡ table_of n) (s : Numbers) where
  pub data Alike : Result Left → Result Left → Type 0 where
    stop : {cause : Refusal} → Alike (Err cause) (Err cause)
    leave : {a b : Left} → Same a b → Alike (Ok a) (Ok b)

  alike-if : (b : Bool) {x y x' y' : Result Left} → Alike x y → Alike x' y' → Alike (cond b x x') (cond b y y')
  alike-if true A B = A
  alike-if false A B = B

  same_if : (b : Bool) {x y x' y' : Left} → Same x y → Same x' y' → Same (cond b x x') (cond b y y')
  same_if true A B = A
  same_if false A B = B

  alike-step : {A : Type 0} (r : Result A) {f g : A → Result Left} → ((x : A) → Alike (f x) (g x)) → Alike (and_then r f) (and_then r g)
  unfolding and_then
  alike-step (Err cause) F = stop
  alike-step (Ok x) F = F x

  same-stays : (a : Arrival) (t : Numbers) → Same (stays a m t) (stays a n t)
  same-stays a t = record { answer = refl; table = e; numbers = refl }

  same-applies : (t : Numbers) (act : Act) → Same (applies m t act) (applies n t act)
  unfolding do_act
  same-applies t act = record { answer = refl; table = rw (table_of-put (apply_act (table_of m) act) m, table_of-put (apply_act (table_of n) act) n, e); numbers = refl }

  same-moves : (t : Numbers) (c : Change) → Same (moves m t c) (moves n t c)
  unfolding do_act
  same-moves t c = record {
    answer = refl;
    table = rw (
      table_of-put (apply_act (table_of (put fresh m)) c.act) (put fresh m),
      table_of-put (apply_act (table_of (put fresh n)) c.act) (put fresh n),
      table_of-put fresh m,
      table_of-put fresh n,
    );
    numbers = refl;
  }

  alike-taken : (t : Table) (x : Numbers) (c : Change) → Alike (taken t m x c) (taken t n x c)
  unfolding taken moved in_run applied
  alike-taken t x c =
      alike-if (ltb c.run x.run) (leave (same-stays Repeat x))
      (alike-if (ltb x.run c.run) (leave (same_if (eqb c.number 1) (same-moves x c) (same-stays Early x)))
      (alike-if (leb c.number x.n) (leave (same-stays Repeat x))
      (alike-if (eqb c.number (x.n + 1)) (alike-step (with_room t c.act) (λ act. leave (same-applies x act))) (leave (same-stays Early x)))))

  same-loaded : (x : Numbers) (i : Image) → Same (loaded m x i) (loaded n x i)
  unfolding loaded takes
  same-loaded x i = same_if (is_taken x i.run i.number) (record { answer = refl; table = rw (table_of-put i.table m, table_of-put i.table n); numbers = refl }) (same-stays Repeat x)

  pub alike-arrival : (words : List ℕ) → Alike (arrival m words s) (arrival n words s)
  unfolding arrival standby_in
  alike-arrival words = rw (h, k, e) (alike-step _ (λ t. alike-step (well_formed (read_change words)) (λ c. alike-taken t _ c)))

  pub alike-loading : (words : List ℕ) → Alike (loading m words s) (loading n words s)
  unfolding loading standby_in
  alike-loading words = rw (h, k, e) (alike-step _ (λ t. alike-step (is_image (read_image words)) (λ i. leave (same-loaded _ i))))
