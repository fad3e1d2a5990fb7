-- The memory test gives what `holds` says.
use Prim.Native.Nat.{ℕ, zero, suc, ◌+◌, ◌-◌, ◌*◌, ◌≤◌, ◌<◌}
use mathlib.Core.Path.{◌≡◌, refl, sym, ap, ◌∙◌}
use mathlib.Core.List.{List, [], ◌∷◌}
use mathlib.Core.Bool.{Bool, true, false, ◌&&◌, ◌||◌, false≢true}
use native.Mathlib.Omega.{arith}
use native.Mathlib.Nat.{not-suc-le-zero}
use lib.ListN.{length, get_or}
use lib.Dec.{leb, eqb}
use borrow.Author.Tests.{le-leb, leb-true, eqb-true, eq-eqb}
use Rattle.paths.specs.Resolving.{max_path, is_resolved}
use Rattle.paths.proofs.ComponentLaws.{and_left, and_right, and_both}
use Rattle.table.specs.declared.Kind.{Kind}
use Rattle.table.specs.declared.Kind.TheVariants.{D, P, I}
use Rattle.table.specs.Entries.{Entry, kind_number, max_kind}
use Rattle.table.specs.Tables.{marked, max_entries, max_path_bytes, max_switches, path_bytes, is_entry, every, any, present, marks_of}
use Rattle.table.specs.Memory.{
  table_head,
  entry_head,
  switches_at,
  marks_at,
  table_bytes,
  word_at,
  len_at,
  next_at,
  entry_at,
  entries_at,
  table_of,
  are_within,
  holds,
}
use Rattle.table.specs.Scanning.{entry_fits, scanned}
use Rattle.table.proofs.BitLaws.{marked-small}
use Rattle.table.proofs.TableLaws.{marks_by, mark_set, parts-valid}
use Rattle.paths.specs.Giving.{is_path}
use Rattle.table.specs.Entries.{kind_of, is_kind}
use Rattle.table.proofs.Within.{held, length-entries, length-path, pred-suc, kind-bound}

-- ---- marks met one after the other

-- the marks after entries, with those met before
unfoldable pub marks_after : ℕ → List Entry → ℕ
marks_after seen [] = seen
marks_after seen (e ∷ es) = marks_after (marked e.kind seen) es

or-move : (a b c : Bool) → a || (b || c) ≡ (b || a) || c
or-move true true c = refl
or-move true false c = refl
or-move false true c = refl
or-move false false c = refl

marks-from : (es : List Entry) (d p i : Bool) → marks_after (marks_by d p i) es ≡ marks_by (present D es || d) (present P es || p) (present I es || i)
unfolding marks_after present any
marks-from [] d p i = refl
marks-from (e ∷ es) d p i =
    let k = kind_number e.kind in
    ap (λ (n : ℕ). marks_after n es) (sym (mark_set e.kind d p i))
    ∙ marks-from es (eqb k 1 || d) (eqb k 2 || p) (eqb k 3 || i)
    ∙ rw (or-move (present D es) (eqb k 1) d, or-move (present P es) (eqb k 2) p, or-move (present I es) (eqb k 3) i)

or-false : (b : Bool) → b || false ≡ b
or-false true = refl
or-false false = refl

-- met one after the other, entries give the marks of the kinds that are present
pub marks-after : (es : List Entry) → marks_after 0 es ≡ marks_of es
unfolding marks_of
marks-after es = marks-from es false false false ∙ rw (or-false (present D es), or-false (present P es), or-false (present I es))

-- ---- one entry

pub record Fits (m : List ℕ) (room at : ℕ) : Type 0 where
  pub kind : get_or m at 0 ≤ max_kind
  pub short : len_at m at ≤ 1024
  pub roomy : len_at m at ≤ room
  pub resolved : is_resolved (entry_at m at).path ≡ true

pub fits-parts : (m : List ℕ) (room at : ℕ) → entry_fits m room at ≡ true → Fits m room at
unfolding entry_fits
fits-parts m room at e =
    let a = leb (get_or m at 0) max_kind in
    let b = leb (len_at m at) 1024 in
    let c = leb (len_at m at) room in
    let e₁ = and_left (a && b && c) _ e in
    record {
      kind = leb-true _ _ (and_left a _ (and_left (a && b) _ e₁));
      short = leb-true _ _ (and_right a _ (and_left (a && b) _ e₁));
      roomy = leb-true _ _ (and_right (a && b) _ e₁);
      resolved = and_right (a && b && c) _ e;
    }

pub parts-fit : (m : List ℕ) (room at : ℕ) → Fits m room at → entry_fits m room at ≡ true
unfolding entry_fits
parts-fit m room at f = rw (le-leb _ _ f.kind, le-leb _ _ f.short, le-leb _ _ f.roomy) f.resolved

fits-entry : (m : List ℕ) (room at : ℕ) → next_at m at ≤ length m → Fits m room at → is_entry (entry_at m at) ≡ true
unfolding is_entry is_path
fits-entry m room at inside f = rw (length-path m at inside, le-leb _ _ f.short) f.resolved

entry-fits : (m : List ℕ) (room at : ℕ) → next_at m at ≤ length m → get_or m at 0 ≤ max_kind → len_at m at ≤ room → is_entry (entry_at m at) ≡ true → Fits m room at
unfolding is_entry is_path
entry-fits m room at inside kind roomy e =
    let short : length (entry_at m at).path ≤ 1024 = leb-true _ _ (and_left (leb (length (entry_at m at).path) 1024) _ e) in
    record {
      kind = kind;
      short = omega (arith, length-path m at inside);
      roomy = roomy;
      resolved = and_right (leb (length (entry_at m at).path) 1024) _ e;
    }

-- ---- all entries

-- what the scan of n entries from `at` on tells
pub record Scan (m : List ℕ) (n room seen at : ℕ) : Type 0 where
  pub within : are_within m n at ≡ true
  pub each : every is_entry (entries_at m n at) ≡ true
  pub roomy : path_bytes (entries_at m n at) ≤ room
  pub marks : marks_after seen (entries_at m n at) ≡ get_or m marks_at 0

pub scan-parts : (m : List ℕ) (n room seen at : ℕ) → at + entry_head * n + room ≤ length m → scanned m n room seen at ≡ true → Scan m n room seen at
unfolding scanned are_within entries_at every path_bytes marks_after
scan-parts m zero room seen at long e = record { within = refl; each = refl; roomy = omega arith; marks = eqb-true _ _ e }
scan-parts m (suc n) room seen at long e =
    let f = fits-parts m room at (and_left (entry_fits m room at) _ e) in
    let inside : next_at m at ≤ length m = omega (arith, f.roomy) in
    let s = scan-parts m n (room - len_at m at) (marked (entry_at m at).kind seen) (next_at m at) (omega (arith, f.roomy)) (and_right (entry_fits m room at) _ e) in
    record {
      within = rw (kind-bound (get_or m at 0), le-leb _ _ f.kind, le-leb _ _ inside) s.within;
      each = and_both (fits-entry m room at inside f) s.each;
      roomy = omega (arith, length-path m at inside, s.roomy, f.roomy);
      marks = s.marks;
    }

pub parts-scan : (m : List ℕ) (n room seen at : ℕ) → Scan m n room seen at → scanned m n room seen at ≡ true
unfolding scanned are_within entries_at every path_bytes marks_after
parts-scan m zero room seen at s = eq-eqb _ _ s.marks
parts-scan m (suc n) room seen at s =
    let k = is_kind (kind_of (get_or m at 0)) in
    let w = leb (next_at m at) (length m) in
    let inside = leb-true _ _ (and_right k _ (and_left (k && w) _ s.within)) in
    let size = length-path m at inside in
    let each = s.each in
    and_both
    (parts-fit m room at (entry-fits m room at inside (leb-true _ _ (sym (kind-bound (get_or m at 0)) ∙ and_left k _ (and_left (k && w) _ s.within))) (omega (arith, s.roomy)) (and_left (is_entry (entry_at m at)) _ each)))
    (parts-scan m n (room - len_at m at) (marked (entry_at m at).kind seen) (next_at m at)
    (record {
      within = and_right (k && w) _ s.within;
      each = and_right (is_entry (entry_at m at)) _ each;
      roomy = omega (arith, s.roomy, size);
      marks = s.marks;
    }))

-- ---- the whole memory

false-by : {b : Bool} → (b ≡ true → ⊥) → b ≡ false
false-by {b} = go b
  where
    go : (b : Bool) → (b ≡ true → ⊥) → b ≡ false
    go true f = absurd (f refl)
    go false f = refl

both : (a b : Bool) → (a ≡ true → b ≡ true) → (b ≡ true → a ≡ true) → a ≡ b
both true b f g = sym (f refl)
both false true f g = absurd (false≢true (g refl))
both false false f g = refl

module _ (m : List ℕ) (long : table_bytes ≤ length m) (few : word_at m 0 ≤ max_entries) (low : get_or m switches_at 0 ≤ max_switches) where
  holds-scan : holds m ≡ true → Scan m (word_at m 0) max_path_bytes 0 table_head
  holds-scan e =
      let h = held m e in
      record { within = h.within; each = h.each; roomy = h.bytes; marks = marks-after _ ∙ sym h.marks }

  scan-holds : Scan m (word_at m 0) max_path_bytes 0 table_head → holds m ≡ true
  unfolding holds table_of
  scan-holds s =
      and_both
      (and_both (le-leb _ _ long) s.within)
      (parts-valid (table_of m) (record {
        few = omega (arith, length-entries m (word_at m 0) table_head);
        bytes = s.roomy;
        each = s.each;
        switches = low;
        marks = sym s.marks ∙ marks-after _;
      }))

  -- where size, count and switches are in order, the scan decides
  pub holds-scanned : holds m ≡ scanned m (word_at m 0) max_path_bytes 0 table_head
  holds-scanned = both _ _ (λ e. parts-scan m _ _ _ _ (holds-scan e)) (λ e. scan-holds (scan-parts m _ _ _ _ (omega arith) e))

-- and where one is not, the memory holds no table
pub holds-short : (m : List ℕ) → length m < table_bytes → holds m ≡ false
holds-short m h = false-by (λ e. omega (arith, (held m e).long))

pub holds-over : (m : List ℕ) → (word_at m 0 ≤ max_entries → get_or m switches_at 0 ≤ max_switches → ⊥) → holds m ≡ false
holds-over m h = false-by (λ e. h (held m e).few (held m e).switches)

-- ---- one entry that is tested

module _ (m : List ℕ) (room at : ℕ) where
  pub unfit : (get_or m at 0 ≤ max_kind → len_at m at ≤ max_path → len_at m at ≤ room → ⊥) → entry_fits m room at ≡ false
  unfit h = false-by (λ e. let f = fits-parts m room at e in h f.kind f.short f.roomy)

  -- all but the path is in order
  pub fit-path : get_or m at 0 ≤ max_kind → len_at m at ≤ max_path → len_at m at ≤ room → is_resolved (entry_at m at).path ≡ entry_fits m room at
  unfolding entry_fits
  fit-path kind short roomy = rw (le-leb _ _ kind, le-leb _ _ short, le-leb _ _ roomy)

-- ---- one turn of the test

pub mark_of : {k j : Kind} {r : ℕ} (n : ℕ) → r ≡ marked k n → k ≡ j → r ≡ marked j n
mark_of {k} {j} {r} n e f = e ∙ ap (λ (x : Kind). marked x n) f

-- the test of `all` entries has `left` to go
pub record Scans (m : List ℕ) (all left room seen at : ℕ) : Type 0 where
  pub inside : at + entry_head * left + room ≤ length m
  pub small : seen ≤ 7
  pub goes : scanned m all max_path_bytes 0 table_head ≡ scanned m left room seen at

module _ {m : List ℕ} {all left room seen at : ℕ} (h : 0 < left) (S : Scans m all left room seen at) where
  step : scanned m left room seen at
      ≡ entry_fits m room at && scanned m (left - 1) (room - len_at m at) (marked (entry_at m at).kind seen) (next_at m at)
  unfolding scanned
  step = ap (λ (k : ℕ). scanned m k room seen at) (pred-suc left h)

  pub scans-bad : entry_fits m room at ≡ false → false ≡ scanned m all max_path_bytes 0 table_head
  scans-bad e = sym (S.goes ∙ step ∙ rw e)

  pub scans-next : (n seen' : ℕ) → n ≡ len_at m at → seen' ≡ marked (entry_at m at).kind seen → entry_fits m room at ≡ true
      → Scans m all (left - 1) (room - n) seen' (at + entry_head + n)
  scans-next n seen' size mark e =
      let fits = (fits-parts m room at e).roomy in
      record {
        inside = omega (arith, S.inside);
        small = rw mark (marked-small (entry_at m at).kind seen S.small);
        goes = rw (size, mark) (S.goes ∙ step ∙ rw e);
      }

scanned-none : (m : List ℕ) (n room seen at : ℕ) → n ≤ 0 → scanned m n room seen at ≡ eqb seen (get_or m marks_at 0)
unfolding scanned
scanned-none m zero room seen at h = refl
scanned-none m (suc n) room seen at h = absurd (not-suc-le-zero h)

pub scans-end : {m : List ℕ} {all left room seen at : ℕ} → left ≤ 0 → Scans m all left room seen at
    → eqb seen (get_or m marks_at 0) ≡ scanned m all max_path_bytes 0 table_head
scans-end {m} {all} {left} {room} {seen} {at} h S = sym (S.goes ∙ scanned-none m left room seen at h)

-- the test's answer, with the count that it read
pub holds_by : (m : List ℕ) (n : ℕ) (r : Bool) → table_bytes ≤ length m → n ≡ word_at m 0 → n ≤ max_entries → get_or m switches_at 0 ≤ max_switches
    → r ≡ scanned m n max_path_bytes 0 table_head → r ≡ holds m
holds_by m n r long count few low e =
    e ∙ ap (λ (k : ℕ). scanned m k max_path_bytes 0 table_head) count ∙ sym (holds-scanned m long (omega arith) low)
