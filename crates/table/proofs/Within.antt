-- What memory that holds a table has, and what a walk over its entries goes by.
use Rattle.std.specs.Prelude.{None}
use Prim.Native.Nat.{ℕ, zero, suc, ◌+◌, ◌-◌, ◌≤◌, ◌<◌}
use mathlib.Core.Path.{◌≡◌, refl, sym, ap, ◌∙◌, subst}
use mathlib.Core.List.{List, [], ◌∷◌}
use mathlib.Core.Bool.{true, ◌&&◌}
use native.Mathlib.Omega.{arith}
use native.Mathlib.Nat.{not-suc-le-zero, le_of_suc-le-suc, suc-sub-suc, sub-zero}
use lib.ListN.{length, get_or, drop, length-drop}
use lib.Seq.{length-take-le}
use lib.Dec.{leb}
use borrow.Author.Tests.{leb-true, le-leb, lt-leb}
use Rattle.table.specs.declared.Kind.{Kind}
use Rattle.table.specs.declared.Kind.TheVariants.{G, D, P, I}
use Rattle.table.specs.Entries.{kind_number, kind_of, is_kind, max_kind}
use Rattle.table.specs.Tables.{max_entries, max_path_bytes, max_switches, path_bytes, is_entry, every, marks_of}
use Rattle.table.specs.Memory.{
  table_head,
  entry_head,
  switches_at,
  marks_at,
  table_bytes,
  word_at,
  len_at,
  next_at,
  kind_in,
  kind_from,
  entry_at,
  entries_at,
  offset_at,
  table_of,
  are_within,
  holds,
}
use Rattle.table.proofs.TableLaws.{valid-parts, marks-small}
use Rattle.table.specs.Reading.{Rest}
use Rattle.paths.specs.Resolving.{max_path, is_resolved}
use Rattle.paths.specs.Giving.{is_path}
use Rattle.paths.proofs.ComponentLaws.{and_left, and_right}

-- ---- kinds

pub kind-number : (k : Kind) → kind_from (kind_number k) ≡ k
unfolding kind_in kind_of
kind-number G = refl
kind-number D = refl
kind-number P = refl
kind-number I = refl

pub number-kind : (n : ℕ) → n ≤ max_kind → kind_number (kind_from n) ≡ n
unfolding kind_in kind_of
number-kind zero h = refl
number-kind (suc zero) h = refl
number-kind (suc (suc zero)) h = refl
number-kind (suc (suc (suc zero))) h = refl
number-kind (suc (suc (suc (suc n)))) h = omega arith

pub number_small : (k : Kind) → kind_number k ≤ max_kind
number_small G = omega arith
number_small D = omega arith
number_small P = omega arith
number_small I = omega arith

-- the numbers that name a kind
pub kind-bound : (n : ℕ) → is_kind (kind_of n) ≡ leb n max_kind
unfolding is_kind kind_of
kind-bound zero = refl
kind-bound (suc zero) = refl
kind-bound (suc (suc zero)) = refl
kind-bound (suc (suc (suc zero))) = refl
kind-bound (suc (suc (suc (suc n)))) = let h : max_kind < suc (suc (suc (suc n))) = omega arith in sym (lt-leb _ _ h)

pub kind-unknown : (n : ℕ) → max_kind < n → kind_of n ≡ None
unfolding kind_of
kind-unknown zero h = absurd (omega arith)
kind-unknown (suc zero) h = absurd (omega arith)
kind-unknown (suc (suc zero)) h = absurd (omega arith)
kind-unknown (suc (suc (suc zero))) h = absurd (omega arith)
kind-unknown (suc (suc (suc (suc n)))) h = refl

pub kind-above : (n : ℕ) → max_kind ≤ n → kind_from n ≡ I
unfolding kind_in kind_of
kind-above zero h = absurd (omega arith)
kind-above (suc zero) h = absurd (omega arith)
kind-above (suc (suc zero)) h = absurd (omega arith)
kind-above (suc (suc (suc zero))) h = refl
kind-above (suc (suc (suc (suc n)))) h = refl

-- ---- one step, where a loop counts down, and none left, where it ends

pub pred-suc : (n : ℕ) → 0 < n → n ≡ suc (n - 1)
pred-suc n h = omega arith

module _ (m : List ℕ) (n : ℕ) (h : 0 < n) (at : ℕ) where
  pub entries_at-step : entries_at m n at ≡ entry_at m at ∷ entries_at m (n - 1) (next_at m at)
  unfolding entries_at
  entries_at-step = ap (λ (k : ℕ). entries_at m k at) (pred-suc n h)

  pub offset_at-step : offset_at m n at ≡ offset_at m (n - 1) (next_at m at)
  unfolding offset_at
  offset_at-step = ap (λ (k : ℕ). offset_at m k at) (pred-suc n h)

pub entries_at-none : (m : List ℕ) (n at : ℕ) → n ≤ 0 → entries_at m n at ≡ []
unfolding entries_at
entries_at-none m zero at h = refl
entries_at-none m (suc n) at h = absurd (not-suc-le-zero h)

pub offset_at-none : (m : List ℕ) (n at : ℕ) → n ≤ 0 → offset_at m n at ≡ at
unfolding offset_at
offset_at-none m zero at h = refl
offset_at-none m (suc n) at h = absurd (not-suc-le-zero h)

pub length-entries : (m : List ℕ) (n at : ℕ) → length (entries_at m n at) ≡ n
unfolding entries_at
length-entries m zero at = refl
length-entries m (suc n) at = ap suc (length-entries m n (next_at m at))

-- ---- entries that lie within the memory

first-within : (m : List ℕ) (n at : ℕ) → are_within m (suc n) at ≡ true → is_kind (kind_of (get_or m at 0)) && leb (next_at m at) (length m) ≡ true
unfolding are_within
first-within m n at e = and_left (is_kind (kind_of (get_or m at 0)) && leb (next_at m at) (length m)) _ e

first-inside : (m : List ℕ) (n at : ℕ) → are_within m (suc n) at ≡ true → next_at m at ≤ length m
first-inside m n at e = leb-true _ _ (and_right (is_kind (kind_of (get_or m at 0))) _ (first-within m n at e))

next-within : (m : List ℕ) (n at : ℕ) → are_within m (suc n) at ≡ true → are_within m n (next_at m at) ≡ true
unfolding are_within
next-within m n at e = and_right (is_kind (kind_of (get_or m at 0)) && leb (next_at m at) (length m)) _ e

-- where a loop counts down
module _ (m : List ℕ) (n : ℕ) (h : 0 < n) (at : ℕ) (e : are_within m n at ≡ true) where
  within-again : are_within m (suc (n - 1)) at ≡ true
  within-again = subst (λ (k : ℕ). are_within m k at ≡ true) (pred-suc n h) e

  pub within-inside : next_at m at ≤ length m
  within-inside = first-inside m (n - 1) at within-again

  pub within-next : are_within m (n - 1) (next_at m at) ≡ true
  within-next = next-within m (n - 1) at within-again

-- ---- memory that holds a table

pub record Held (m : List ℕ) : Type 0 where
  pub long : table_bytes ≤ length m
  pub few : word_at m 0 ≤ max_entries
  pub bytes : path_bytes (entries_at m (word_at m 0) table_head) ≤ max_path_bytes
  pub switches : get_or m switches_at 0 ≤ max_switches
  pub marks : get_or m marks_at 0 ≡ marks_of (entries_at m (word_at m 0) table_head)
  pub within : are_within m (word_at m 0) table_head ≡ true
  pub each : every is_entry (entries_at m (word_at m 0) table_head) ≡ true

pub held : (m : List ℕ) → holds m ≡ true → Held m
unfolding holds table_of
held m e =
    let a = leb table_bytes (length m) in
    let b = are_within m (word_at m 0) table_head in
    let e₁ = and_left (a && b) _ e in
    let v = valid-parts (table_of m) (and_right (a && b) _ e) in
    record {
      long = leb-true _ _ (and_left a _ e₁);
      few = omega (arith, v.few, length-entries m (word_at m 0) table_head);
      bytes = v.bytes;
      switches = v.switches;
      marks = v.marks;
      within = and_right a _ e₁;
      each = v.each;
    }

pub few_of : (m : List ℕ) → holds m ≡ true → word_at m 0 ≤ max_entries
few_of m e = (held m e).few

pub switches_low : (m : List ℕ) → holds m ≡ true → get_or m switches_at 0 ≤ max_switches
switches_low m e = (held m e).switches

pub marks_low : (m : List ℕ) → holds m ≡ true → get_or m marks_at 0 ≤ 7
marks_low m e = rw (held m e).marks (marks-small (entries_at m (word_at m 0) table_head))

-- ---- a walk over the entries

pub rest-start : (m : List ℕ) → holds m ≡ true → Rest m (word_at m 0) table_head
rest-start m e =
    let h = held m e in
    record { within = h.within; each = h.each }

-- what the entry at `at` has
pub record Here (m : List ℕ) (at : ℕ) : Type 0 where
  pub kind : get_or m at 0 ≤ max_kind
  pub inside : next_at m at ≤ length m
  pub short : len_at m at ≤ max_path
  pub resolved : is_resolved (entry_at m at).path ≡ true
  pub good : is_entry (entry_at m at) ≡ true

-- the path of an entry that lies within the memory has the length that the entry says
pub length-path : (m : List ℕ) (at : ℕ) → next_at m at ≤ length m → length (entry_at m at).path ≡ len_at m at
length-path m at h = length-take-le (len_at m at) (drop (at + entry_head) m) (simp length-drop (omega arith))

-- where a definition recurses
module _ {m : List ℕ} {n at : ℕ} (r : Rest m (suc n) at) where
  pub here-suc : Here m at
  unfolding is_entry is_path every entries_at
  here-suc =
      let inside = first-inside m n at r.within in
      let good = and_left (is_entry (entry_at m at)) _ r.each in
      let short : length (entry_at m at).path ≤ max_path = leb-true _ _ (and_left (leb (length (entry_at m at).path) max_path) _ good) in
      record {
        kind = leb-true _ _ (sym (kind-bound (get_or m at 0)) ∙ and_left (is_kind (kind_of (get_or m at 0))) _ (first-within m n at r.within));
        inside = inside;
        short = omega (arith, length-path m at inside);
        resolved = and_right (leb (length (entry_at m at).path) max_path) _ good;
        good = good;
      }

  pub rest-suc : Rest m n (next_at m at)
  unfolding every entries_at
  rest-suc = record {
    within = next-within m n at r.within;
    each = and_right (is_entry (entry_at m at)) _ r.each;
  }

-- where a loop counts down
module _ {m : List ℕ} {n at : ℕ} (h : 0 < n) (r : Rest m n at) where
  rest-again : Rest m (suc (n - 1)) at
  rest-again = subst (λ (k : ℕ). Rest m k at) (pred-suc n h) r

  pub rest-here : Here m at
  rest-here = here-suc rest-again

  pub rest-next : Rest m (n - 1) (next_at m at)
  rest-next = rest-suc rest-again

-- the first k entries of n, and those behind them
pub rest-take : (m : List ℕ) (k n at : ℕ) → k ≤ n → Rest m n at → Rest m k at
unfolding are_within every entries_at
rest-take m zero n at h r = record { within = refl; each = refl }
rest-take m (suc k) zero at h r = absurd (not-suc-le-zero h)
rest-take m (suc k) (suc n) at h r =
    let i = here-suc r in
    let s = rest-take m k n (next_at m at) (le_of_suc-le-suc h) (rest-suc r) in
    record {
      within = rw (kind-bound (get_or m at 0), le-leb _ _ i.kind, le-leb _ _ i.inside) s.within;
      each = rw i.good s.each;
    }

pub rest-drop : (m : List ℕ) (k n at : ℕ) → k ≤ n → Rest m n at → Rest m (n - k) (offset_at m k at)
unfolding offset_at
rest-drop m zero n at h r = subst (λ (j : ℕ). Rest m j at) (sym (sub-zero n)) r
rest-drop m (suc k) zero at h r = absurd (not-suc-le-zero h)
rest-drop m (suc k) (suc n) at h r =
    subst (λ (j : ℕ). Rest m j (offset_at m k (next_at m at))) (sym (suc-sub-suc n k))
    (rest-drop m k n (next_at m at) (le_of_suc-le-suc h) (rest-suc r))
