-- Laws of the walk over a table: states, modes and their numbers, and what a table grants that allows all.
use Rattle.std.specs.Prelude.{None, Some}
use Prim.Native.Nat.{ℕ, zero, suc, ◌<◌}
use mathlib.Core.Path.{◌≡◌, refl, sym, ◌∙◌}
use mathlib.Core.List.{List, [], ◌∷◌}
use mathlib.Core.Bool.{Bool, true, false, ◌&&◌, ◌||◌, not, and-false, true≢false}
use native.Mathlib.Omega.{arith}
use lib.Dec.{eqb}
use borrow.Author.Tests.{eqb-true, not-true}
use Rattle.walk.specs.declared.PermissionState.{PermissionState}
use Rattle.walk.specs.declared.PermissionState.TheVariants.{
  Granted,
  GrantedPartial,
  Prompt,
  Denied,
  DeniedPartial,
  Ignored,
}
use Rattle.walk.specs.declared.AllowPartial.{AllowPartial}
use Rattle.walk.specs.declared.AllowPartial.TheVariants.{TreatAsDenied, TreatAsPartialGranted, TreatAsGranted}
use Rattle.walk.specs.Walk.{state_number, state_of, mode_number, mode_of, matches, first_match, is_flag, is_flag_below, is_partial, allowed, decided_by, is_denied_mode, is_denied, without_match, by_match, query_desc, is_allow_all}
use Rattle.paths.specs.Giving.{Query, no_path, path}
use Rattle.paths.proofs.ComponentLaws.{and_left, and_right, either}
use Rattle.table.specs.declared.Kind.{Kind}
use Rattle.table.specs.declared.Kind.TheVariants.{G, D, P, I}
use Rattle.table.specs.Entries.{Entry, kind_number}
use Rattle.table.specs.Tables.{Table, has, granted, flag_denied, flag_ignored, prompt_denied, any, present, marks_of, is_table}
use Rattle.table.proofs.TableLaws.{valid-parts, marks_by}

-- ---- states

-- each state is the one that its number names
pub state-numbered : (state : PermissionState) → state_of (state_number state) ≡ Some state
unfolding state_of
state-numbered Granted = refl
state-numbered GrantedPartial = refl
state-numbered Prompt = refl
state-numbered Denied = refl
state-numbered DeniedPartial = refl
state-numbered Ignored = refl

-- none has a number above 5
pub state-unknown : (n : ℕ) → 5 < n → state_of n ≡ None
unfolding state_of
state-unknown zero h = absurd (omega arith)
state-unknown (suc zero) h = absurd (omega arith)
state-unknown (suc (suc zero)) h = absurd (omega arith)
state-unknown (suc (suc (suc zero))) h = absurd (omega arith)
state-unknown (suc (suc (suc (suc zero)))) h = absurd (omega arith)
state-unknown (suc (suc (suc (suc (suc zero))))) h = absurd (omega arith)
state-unknown (suc (suc (suc (suc (suc (suc n)))))) h = refl

-- ---- modes

-- each mode is the one that its number names
pub mode-numbered : (mode : AllowPartial) → mode_of (mode_number mode) ≡ Some mode
unfolding mode_of
mode-numbered TreatAsDenied = refl
mode-numbered TreatAsPartialGranted = refl
mode-numbered TreatAsGranted = refl

-- none has a number above 2
pub mode-unknown : (n : ℕ) → 2 < n → mode_of n ≡ None
unfolding mode_of
mode-unknown zero h = absurd (omega arith)
mode-unknown (suc zero) h = absurd (omega arith)
mode-unknown (suc (suc zero)) h = absurd (omega arith)
mode-unknown (suc (suc (suc n))) h = refl

-- ---- partial

pub allowed-granted : (b : Bool) → allowed b TreatAsGranted ≡ Granted
unfolding allowed
allowed-granted true = refl
allowed-granted false = refl

-- ---- a table that allows all

-- every entry is a G
data Grants : List Entry → Type 0 where
  no-entry : Grants []
  grant : {e : Entry} {es : List Entry} → e.kind ≡ G → Grants es → Grants (e ∷ es)

no-mark : (a b c : Bool) → marks_by a b c ≡ 0 → (a ≡ false) × (b ≡ false) × (c ≡ false)
no-mark true b c e = absurd (omega arith)
no-mark false true c e = absurd (omega arith)
no-mark false false true e = absurd (omega arith)
no-mark false false false e = (refl, refl, refl)

granted-left : (k : Kind) → eqb (kind_number k) 1 ≡ false → eqb (kind_number k) 2 ≡ false → eqb (kind_number k) 3 ≡ false → k ≡ G
granted-left G d p i = refl
granted-left D d p i = cc
granted-left P d p i = cc
granted-left I d p i = cc

pub neither : (a b : Bool) → a || b ≡ false → (a ≡ false) × (b ≡ false)
neither true b e = absurd (true≢false e)
neither false b e = (refl, e)

unmarked : (es : List Entry) → present D es ≡ false → present P es ≡ false → present I es ≡ false → Grants es
unfolding present any
unmarked [] d p i = no-entry
unmarked (e ∷ es) d p i =
    let n = kind_number e.kind in
    let d = neither (eqb n 1) _ d in
    let p = neither (eqb n 2) _ p in
    let i = neither (eqb n 3) _ i in
    grant (granted-left e.kind d.0 p.0 i.0) (unmarked es d.1 p.1 i.1)

grants : (es : List Entry) → marks_of es ≡ 0 → Grants es
unfolding marks_of
grants es e =
    let n = no-mark (present D es) (present P es) (present I es) e in
    unmarked es n.0 n.1 n.2

no_flag : (q : List ℕ) {es : List Entry} → Grants es → any (is_flag_below q) es ≡ false
unfolding any is_flag_below is_flag
no_flag q no-entry = refl
no_flag q (grant k g) = rw k (no_flag q g)

-- the first match is a G, if there is one
by_first : (t : Table) (mode : AllowPartial) (q : List ℕ) (partial : Bool) {es : List Entry} → Grants es
    → allowed partial mode ≡ Granted → without_match t mode (path q) partial ≡ Granted
    → by_match t mode (path q) (first_match q es) partial ≡ Granted
unfolding first_match by_match decided_by
by_first t mode q partial no-entry a w = w
by_first t mode q partial (grant {e} {es} k g) a w =
    either (λ o. by_match t mode (path q) o partial ≡ Granted) (matches q e) (Some e) (first_match q es)
    (rw k a)
    (by_first t mode q partial g a w)

record AllowAll (t : Table) : Type 0 where
  switched : has t.switches granted ≡ true
  undenied : has t.switches flag_denied ≡ false
  unignored : has t.switches flag_ignored ≡ false
  unprompted : has t.switches prompt_denied ≡ false
  unmarked : t.marks ≡ 0

allow-all : (t : Table) → is_allow_all t ≡ true → AllowAll t
unfolding is_allow_all
allow-all t e =
    let a = has t.switches granted in
    let b = not (has t.switches flag_denied) in
    let c = not (has t.switches flag_ignored) in
    let d = not (has t.switches prompt_denied) in
    let e₁ = and_left (a && b && c && d) _ e in
    let e₂ = and_left (a && b && c) _ e₁ in
    let e₃ = and_left (a && b) _ e₂ in
    record {
      switched = and_left a _ e₃;
      undenied = not-true _ (and_right a _ e₃);
      unignored = not-true _ (and_right (a && b) _ e₂);
      unprompted = not-true _ (and_right (a && b && c) _ e₁);
      unmarked = eqb-true _ _ (and_right (a && b && c && d) _ e);
    }

module _ (t : Table) (all : AllowAll t) where
  all-undenied : (d : Query) → is_denied t d ≡ false
  unfolding is_denied has
  all-undenied no_path = rw (all.undenied, all.unprompted, all.unmarked)
  all-undenied (path q) = all.undenied

  all_without : (mode : AllowPartial) (d : Query) {partial : Bool} → partial ≡ false → without_match t mode d partial ≡ Granted
  unfolding without_match allowed
  all_without mode d p = rw (all.unignored, p, and-false (is_denied_mode mode), all-undenied d, all.switched)

-- every query of a table that allows all is granted
pub allow-all-granted : (t : Table) → is_allow_all t ≡ true → is_table t ≡ true → (mode : AllowPartial) (d : Query)
    → query_desc t mode d ≡ Granted
unfolding query_desc is_partial allowed has
allow-all-granted t e v mode no_path =
    let all = allow-all t e in
    all_without t all mode no_path (rw all.unmarked)
allow-all-granted t e v mode (path q) =
    let all = allow-all t e in
    let g = grants t.entries (sym (valid-parts t v).marks ∙ all.unmarked) in
    let p = no_flag q g in
    by_first t mode q _ g (rw p) (all_without t all mode (path q) p)
