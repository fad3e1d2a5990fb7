-- What each act does to a path that is shut, wherever an insert lands; and that a G for a path opens it where query gives it Prompt.
use Rattle.std.specs.Prelude.{Option, None, Some}
use Prim.Native.Nat.{ℕ, zero, suc, ◌+◌, ◌-◌, ◌/◌, ◌%◌}
use mathlib.Core.Path.{◌≡◌, refl, sym, ap, ◌∙◌}
use mathlib.Core.List.{List, [], ◌∷◌, ◌++◌}
use mathlib.Core.Bool.{Bool, true, false, ◌||◌, cond, true≢false}
use native.Mathlib.Omega.{arith}
use lib.ListN.{take, drop}
use lib.Dec.{eqb}
use borrow.Author.Tests.{eqb-true, ne_eqb}
use Rattle.paths.specs.Relations.{is_prefix}
use Rattle.paths.specs.Giving.{path}
use Rattle.paths.proofs.ComponentLaws.{and_left}
use Rattle.paths.proofs.RelationLaws.{prefix_refl}
use Rattle.table.specs.declared.Kind.{Kind}
use Rattle.table.specs.declared.Kind.TheVariants.{G, D, P, I}
use Rattle.table.specs.declared.Place.{Place}
use Rattle.table.specs.declared.Place.TheVariants.{Found, At}
use Rattle.table.specs.Entries.{Entry, is_granted, same_path}
use Rattle.table.specs.Placing.{place, placed_at}
use Rattle.table.specs.Tables.{Table, has, set_bit, clear_bit, any, granted, flag_denied, flag_ignored, prompt_denied}
use Rattle.table.specs.Acts.{insert, set_switches, revoke, revoke_all, inserted, inserted_by, kept_unless, without, dropped_by, starts_of, every_path, apply_act}
use Rattle.table.proofs.TableLaws.{any-more}
use Rattle.table.proofs.ActLaws.{dropped-grants}
use Rattle.table.proofs.FoundLaws.{found-any}
use Rattle.walk.specs.declared.PermissionState.TheVariants.{Prompt}
use Rattle.walk.specs.declared.AllowPartial.{AllowPartial}
use Rattle.walk.specs.declared.AllowPartial.TheVariants.{TreatAsDenied, TreatAsPartialGranted, TreatAsGranted}
use Rattle.walk.specs.Walk.{matches_kind, matches, first_match, allowed, decided_by, by_match, query_desc}
use Rattle.operator.proofs.OpenLaws.{IsShut, IsOpen, switches_allow, open_by, open_by_lem}

-- ---- an insert

-- the first match of a list with one entry e more, where it was `before`: as it was, or e, if it matches
data With (p : List ℕ) (e : Entry) (before : Option Entry) : Option Entry → Type 0 where
  as_before : With p e before before
  the-new : matches p e ≡ true → With p e before (Some e)

module _ (p : List ℕ) (e : Entry) where
  with-front : (x : Entry) (b : Bool) {before after : Option Entry} → With p e before after → With p e (cond b (Some x) before) (cond b (Some x) after)
  with-front x true w = as_before
  with-front x false w = w

  with-here : (b : Bool) {before : Option Entry} → matches p e ≡ b → With p e before (cond b (Some e) before)
  with-here true m = the-new m
  with-here false m = as_before

  first-with : (k : ℕ) (es : List Entry) → With p e (first_match p es) (first_match p (take k es ++ e ∷ drop k es))
  unfolding first_match
  first-with zero es = with-here (matches p e) refl
  first-with (suc k) [] = with-here (matches p e) refl
  first-with (suc k) (x ∷ es) = with-front x (matches p x) (first-with k es)

  -- an entry that does not match p, or is no G, leaves p shut
  with-shut : (s : ℕ) {before after : Option Entry} → With p e before after → (matches p e ≡ true → is_granted e.kind ≡ false)
      → open_by s before ≡ false → open_by s after ≡ false
  unfolding open_by
  with-shut s as_before f h = h
  with-shut s (the-new m) f h = f m

  placed-shut : (s : ℕ) (w : Place) (es : List Entry) → (matches p e ≡ true → is_granted e.kind ≡ false)
      → open_by s (first_match p es) ≡ false → open_by s (first_match p (placed_at w es e)) ≡ false
  unfolding placed_at
  placed-shut s Found es f h = h
  placed-shut s (At k) es f h = with-shut s (first-with k es) f h

-- ---- a revoke drops only G's, and no G was the first match

dropped-front : (s : ℕ) (p : List ℕ) (b c : Bool) (x : Entry) (es ks : List Entry) → (b ≡ true → is_granted x.kind ≡ true) → matches p x ≡ c
    → (open_by s (first_match p es) ≡ false → open_by s (first_match p ks) ≡ false)
    → open_by s (cond c (Some x) (first_match p es)) ≡ false → open_by s (first_match p (kept_unless b x ks)) ≡ false
unfolding kept_unless first_match open_by
dropped-front s p true true x es ks g m f h = absurd (true≢false (sym (g refl) ∙ h))
dropped-front s p true false x es ks g m f h = f h
dropped-front s p false true x es ks g m f h = rw m h
dropped-front s p false false x es ks g m f h = rw m (f h)

dropped-shut : (s : ℕ) (p : List ℕ) (dropped : Entry → Bool) → ((e : Entry) → dropped e ≡ true → is_granted e.kind ≡ true) → (es : List Entry)
    → open_by s (first_match p es) ≡ false → open_by s (first_match p (without dropped es)) ≡ false
unfolding without first_match
dropped-shut s p dropped g [] h = h
dropped-shut s p dropped g (x ∷ es) h =
    dropped-front s p (dropped x) (matches p x) x es (without dropped es) (g x) refl (dropped-shut s p dropped g es) h

-- ---- switches

bit-same : (a b bit : ℕ) → a / bit % 2 ≡ b / bit % 2 → has a bit ≡ has b bit
unfolding has
bit-same a b bit e = ap (λ (k : ℕ). eqb k 1) e

-- switch 8 is none that a path looks at
eight-same : (s : ℕ) (b : Bool) → has s prompt_denied ≡ b → switches_allow (set_bit s prompt_denied) ≡ switches_allow s
unfolding set_bit switches_allow
eight-same s true e = rw e
eight-same s false e =
    rw (e, bit-same (s + 8) s 4 (omega arith), bit-same (s + 8) s 2 (omega arith), bit-same (s + 8) s 1 (omega arith))

eight-shut : (s : ℕ) (o : Option Entry) → open_by s o ≡ false → open_by (set_bit s prompt_denied) o ≡ false
unfolding open_by
eight-shut s None h = eight-same s _ refl ∙ h
eight-shut s (Some e) h = h

one_less : (s : ℕ) → has s granted ≡ true → has (s - 1) granted ≡ false
unfolding has
one_less s e = ne_eqb ((s - 1) / 1 % 2) 1 (omega (arith, eqb-true (s / 1 % 2) 1 e))

one-cleared : (s : ℕ) (b : Bool) → has s granted ≡ b → has (clear_bit s granted) granted ≡ false
unfolding clear_bit
one-cleared s true e = rw e (one_less s e)
one-cleared s false e = rw e e

off-shut : (i d g : Bool) → g ≡ false → cond i false (cond d false g) ≡ false
off-shut true d g e = refl
off-shut false true g e = refl
off-shut false false g e = e

cleared-shut : (s : ℕ) (o : Option Entry) → open_by s o ≡ false → open_by (clear_bit s granted) o ≡ false
unfolding open_by switches_allow
cleared-shut s None h = off-shut (has (clear_bit s granted) flag_ignored) (has (clear_bit s granted) flag_denied) _ (one-cleared s _ refl)
cleared-shut s (Some e) h = h

-- ---- each act

module _ (t : Table) (p : List ℕ) (shut : IsShut t p) where
  was : open_by t.switches (first_match p t.entries) ≡ false
  was = sym (open_by_lem t p) ∙ shut

  -- an insert of an entry that does not match p, or is no G
  pub shut-insert : (e : Entry) → (matches p e ≡ true → is_granted e.kind ≡ false) → IsShut (apply_act t (insert e)) p
  unfolding apply_act inserted inserted_by
  shut-insert e f = open_by_lem _ p ∙ placed-shut p e t.switches (place t.entries e) t.entries f was

  pub shut-revoke : (q : List ℕ) → IsShut (apply_act t (revoke q)) p
  unfolding apply_act
  shut-revoke q = open_by_lem _ p ∙ dropped-shut t.switches p (dropped_by (starts_of q)) (dropped-grants (starts_of q)) t.entries was

  pub shut-revoke-all : IsShut (apply_act t revoke_all) p
  unfolding apply_act
  shut-revoke-all =
      open_by_lem _ p
      ∙ cleared-shut t.switches (first_match p (without (dropped_by every_path) t.entries))
      (dropped-shut t.switches p (dropped_by every_path) (dropped-grants every_path) t.entries was)

  pub shut-eight : IsShut (apply_act t (set_switches (set_bit t.switches prompt_denied))) p
  unfolding apply_act
  shut-eight = open_by_lem _ p ∙ eight-shut t.switches (first_match p t.entries) was

  -- switches as they are
  pub shut-same : (s : ℕ) → t.switches ≡ s → IsShut (apply_act t (set_switches s)) p
  unfolding apply_act
  shut-same s e = open_by_lem _ p ∙ ap (λ (k : ℕ). open_by k (first_match p t.entries)) (sym e) ∙ was

-- ---- a G for a path that query gives Prompt

-- Prompt says that there is no match
allowed-unprompted : (partial : Bool) (mode : AllowPartial) → allowed partial mode ≡ Prompt → ⊥
unfolding allowed
allowed-unprompted false mode e = let z : ◌≡◌ {A = ℕ} 0 1 = cc in omega arith
allowed-unprompted true TreatAsDenied e = let z : ◌≡◌ {A = ℕ} 0 1 = cc in omega arith
allowed-unprompted true TreatAsPartialGranted e = let z : ◌≡◌ {A = ℕ} 0 1 = cc in omega arith
allowed-unprompted true TreatAsGranted e = let z : ◌≡◌ {A = ℕ} 0 1 = cc in omega arith

decided-unprompted : (k : Kind) (partial : Bool) (mode : AllowPartial) → decided_by k (allowed partial mode) ≡ Prompt → ⊥
unfolding decided_by
decided-unprompted G partial mode e = allowed-unprompted partial mode e
decided-unprompted D partial mode e = let z : ◌≡◌ {A = ℕ} 0 1 = cc in omega arith
decided-unprompted P partial mode e = let z : ◌≡◌ {A = ℕ} 0 1 = cc in omega arith
decided-unprompted I partial mode e = let z : ◌≡◌ {A = ℕ} 0 1 = cc in omega arith

unmatched-by : (t : Table) (mode : AllowPartial) (p : List ℕ) (o : Option Entry) (partial : Bool) → by_match t mode (path p) o partial ≡ Prompt → o ≡ None
unfolding by_match
unmatched-by t mode p None partial e = refl
unmatched-by t mode p (Some x) partial e = absurd (decided-unprompted x.kind partial mode e)

prompt-unmatched : (t : Table) (mode : AllowPartial) (p : List ℕ) → query_desc t mode (path p) ≡ Prompt → first_match p t.entries ≡ None
unfolding query_desc
prompt-unmatched t mode p e = unmatched-by t mode p (first_match p t.entries) _ e

none-front : (b : Bool) (x : Entry) (o : Option Entry) (rest : Bool) → (o ≡ None → rest ≡ false) → cond b (Some x) o ≡ None → b || rest ≡ false
none-front true x o rest f e = let z : ◌≡◌ {A = ℕ} 0 1 = cc in absurd (omega arith)
none-front false x o rest f e = f e

none-matches : (p : List ℕ) (es : List Entry) → first_match p es ≡ None → any (matches p) es ≡ false
unfolding first_match any
none-matches p [] e = refl
none-matches p (x ∷ es) e = none-front (matches p x) x (first_match p es) (any (matches p) es) (none-matches p es) e

module _ (p : List ℕ) where
  abbrev grant : Entry
  grant = record { kind = G; path = p }

  grant-matches : matches p grant ≡ true
  unfolding matches matches_kind
  grant-matches = prefix_refl p

  same-matches : (old : Entry) → same_path old.path p ≡ true → old.kind ≡ G → matches p old ≡ true
  unfolding matches matches_kind same_path
  same-matches old e k = rw k (and_left (is_prefix old.path p) _ e)

  -- the first match is the new one: in the list as it was nothing matches, and in the new one something does
  with_open : (s : ℕ) (es : List Entry) {o : Option Entry} → With p grant None o → (o ≡ None → ⊥) → open_by s o ≡ true
  unfolding open_by
  with_open s es as_before f = absurd (f refl)
  with_open s es (the-new m) f = refl

  more-matches : (k : ℕ) (es : List Entry) → first_match p (take k es ++ grant ∷ drop k es) ≡ None → ⊥
  more-matches k es e = true≢false (sym (any-more (matches p) k es grant ∙ rw grant-matches) ∙ none-matches p _ e)

  placed-open : (s : ℕ) (es : List Entry) (w : Place) → place es grant ≡ w → first_match p es ≡ None → open_by s (first_match p (placed_at w es grant)) ≡ true
  unfolding placed_at
  placed-open s es Found e n = absurd (true≢false (sym (found-any (matches p) es grant e same-matches) ∙ none-matches p es n))
  placed-open s es (At k) e n = with_open s es (rw n at (first-with p grant k es)) (more-matches k es)

  pub open-grant : (t : Table) (mode : AllowPartial) → query_desc t mode (path p) ≡ Prompt → IsOpen (apply_act t (insert grant)) p
  unfolding apply_act inserted inserted_by
  open-grant t mode e = open_by_lem _ p ∙ placed-open t.switches t.entries (place t.entries grant) refl (prompt-unmatched t mode p e)
