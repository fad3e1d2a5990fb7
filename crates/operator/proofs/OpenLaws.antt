-- When query in mode partial gives a path Granted or GrantedPartial, over any list of entries: by the first match, or by the switches where there is none.
-- The key law, `granted-below`: what is Granted in mode partial is so all the way down.
use Rattle.std.specs.Prelude.{Option, None, Some}
use Prim.Native.Nat.{ℕ}
use mathlib.Core.Path.{◌≡◌, refl, sym, ap, ◌∙◌}
use mathlib.Core.List.{List, [], ◌∷◌}
use mathlib.Core.Bool.{Bool, true, false, ◌&&◌, cond, true≢false, false≢true}
use Rattle.paths.specs.Components.{same, components}
use Rattle.paths.specs.Relations.{is_prefix}
use Rattle.paths.specs.CommonPart.{leads}
use Rattle.paths.specs.Giving.{path}
use Rattle.paths.proofs.ComponentLaws.{and_left, and_right, and_both, same-eq, same_refl}
use Rattle.paths.proofs.CommonLaws.{prefix-leads}
use Rattle.paths.proofs.RelationLaws.{prefix_trans}
use Rattle.table.specs.declared.Kind.{Kind}
use Rattle.table.specs.declared.Kind.TheVariants.{G, D, P, I}
use Rattle.table.specs.Entries.{Entry, is_granted}
use Rattle.table.specs.Tables.{Table, has, any, granted, flag_denied, flag_ignored}
use Rattle.walk.specs.declared.PermissionState.{PermissionState}
use Rattle.walk.specs.declared.PermissionState.TheVariants.{Granted, GrantedPartial, Prompt, Denied, Ignored}
use Rattle.walk.specs.declared.AllowPartial.TheVariants.{TreatAsPartialGranted}
use Rattle.walk.specs.Walk.{
  matches_kind,
  matches,
  first_match,
  is_flag,
  is_flag_below,
  is_partial,
  allowed,
  decided_by,
  is_denied_mode,
  is_denied,
  without_match,
  by_match,
  query_desc,
}
use Rattle.walk.proofs.WalkLaws.{neither}
use Rattle.operator.specs.Operator.{is_open, state_of}

-- p on the table t
abbrev pub IsShut : Table → List ℕ → Type 0
IsShut t p = is_open (state_of t p) ≡ false

abbrev pub IsOpen : Table → List ℕ → Type 0
IsOpen t p = is_open (state_of t p) ≡ true

-- ---- open by the first match, or by the switches

unfoldable pub switches_allow : ℕ → Bool
switches_allow s = cond (has s flag_ignored) false (cond (has s flag_denied) false (has s granted))

unfoldable pub open_by : ℕ → Option Entry → Bool
open_by s None = switches_allow s
open_by s (Some e) = is_granted e.kind

-- the state by whether the path is open and whether it is partial
data StateBy : Bool → Bool → PermissionState → Type 0 where
  whole : StateBy true false Granted
  in-part : StateBy true true GrantedPartial
  shut : {partial : Bool} {state : PermissionState} → is_open state ≡ false → StateBy false partial state

allowed-by : (partial : Bool) → StateBy true partial (allowed partial TreatAsPartialGranted)
unfolding allowed
allowed-by true = in-part
allowed-by false = whole

kind-by : (k : Kind) (partial : Bool) → StateBy (is_granted k) partial (decided_by k (allowed partial TreatAsPartialGranted))
unfolding decided_by is_open
kind-by G partial = allowed-by partial
kind-by D partial = shut refl
kind-by P partial = shut refl
kind-by I partial = shut refl

switches-by : (i d g partial : Bool)
    → StateBy (cond i false (cond d false g)) partial (cond i Ignored (cond d Denied (cond g (allowed partial TreatAsPartialGranted) Prompt)))
unfolding is_open
switches-by true d g partial = shut refl
switches-by false true g partial = shut refl
switches-by false false true partial = allowed-by partial
switches-by false false false partial = shut refl

match_by : (t : Table) (p : List ℕ) (o : Option Entry) (partial : Bool)
    → StateBy (open_by t.switches o) partial (by_match t TreatAsPartialGranted (path p) o partial)
unfolding open_by switches_allow by_match without_match is_denied_mode is_denied
match_by t p None partial = switches-by (has t.switches flag_ignored) (has t.switches flag_denied) (has t.switches granted) partial
match_by t p (Some e) partial = kind-by e.kind partial

state-by : (t : Table) (p : List ℕ) → StateBy (open_by t.switches (first_match p t.entries)) (any (is_flag_below p) t.entries) (state_of t p)
unfolding query_desc is_partial
state-by t p = match_by t p (first_match p t.entries) (any (is_flag_below p) t.entries)

open_of : {opens partial : Bool} {state : PermissionState} → StateBy opens partial state → is_open state ≡ opens
unfolding is_open
open_of whole = refl
open_of in-part = refl
open_of (shut e) = e

pub open_by_lem : (t : Table) (p : List ℕ) → is_open (state_of t p) ≡ open_by t.switches (first_match p t.entries)
open_by_lem t p = open_of (state-by t p)

granted-of : {opens partial : Bool} {state : PermissionState} → StateBy opens partial state → state ≡ Granted → (opens ≡ true) × (partial ≡ false)
unfolding is_open
granted-of whole e = (refl, refl)
granted-of in-part e = (refl, cc)
granted-of (shut n) e = absurd (true≢false (ap is_open (sym e) ∙ n))

of-granted : {opens partial : Bool} {state : PermissionState} → StateBy opens partial state → opens ≡ true → partial ≡ false → state ≡ Granted
of-granted whole o n = refl
of-granted in-part o n = absurd (true≢false n)
of-granted (shut e) o n = absurd (false≢true o)

-- ---- all the way down

-- of two prefixes of one path, one is a prefix of the other
leads-either : (cs ds es : List (List ℕ)) → leads cs es ≡ true → leads ds es ≡ true → leads cs ds ≡ false → leads ds cs ≡ true
unfolding leads
leads-either [] ds es a b n = absurd (true≢false n)
leads-either (c ∷ cs) [] es a b n = refl
leads-either (c ∷ cs) (d ∷ ds) [] a b n = absurd (false≢true a)
leads-either (c ∷ cs) (d ∷ ds) (e ∷ es) a b n =
    let c-d : c ≡ d = same-eq c e (and_left (same c e) _ a) ∙ sym (same-eq d e (and_left (same d e) _ b)) in
    let same-cd : same c d ≡ true = ap (same c) (sym c-d) ∙ same_refl c in
    let same-dc : same d c ≡ true = ap (same d) c-d ∙ same_refl d in
    and_both same-dc (leads-either cs ds es (and_right (same c e) _ a) (and_right (same d e) _ b) (rw same-cd at n))

prefix-either : (x q p : List ℕ) → is_prefix x p ≡ true → is_prefix q p ≡ true → is_prefix x q ≡ false → is_prefix q x ≡ true
prefix-either x q p =
    rw (prefix-leads x p, prefix-leads q p, prefix-leads x q, prefix-leads q x) (leads-either (components x) (components q) (components p))

module _ (q p : List ℕ) (h : is_prefix q p ≡ true) where
  -- a G that matches q matches p
  granted-matches : (k : Kind) (x : List ℕ) → is_granted k ≡ true → matches_kind k x q ≡ true → matches_kind k x p ≡ true
  unfolding matches_kind
  granted-matches G x g m = prefix_trans x q p m h
  granted-matches D x g m = absurd (false≢true g)
  granted-matches P x g m = absurd (false≢true g)
  granted-matches I x g m = absurd (false≢true g)

  -- an entry that matches p and not q is a G, or a D or I below q
  new-match : (k : Kind) (x : List ℕ) → is_flag k && is_prefix q x ≡ false → matches_kind k x q ≡ false → matches_kind k x p ≡ true → is_granted k ≡ true
  unfolding matches_kind is_flag
  new-match G x f n m = refl
  new-match D x f n m = absurd (true≢false (sym (prefix-either x q p m h n) ∙ f))
  new-match P x f n m = absurd (true≢false (sym (prefix_trans q p x h m) ∙ n))
  new-match I x f n m = absurd (true≢false (sym (prefix-either x q p m h n) ∙ f))

  -- a D or I below p is below q
  flag-below : (f : Bool) (x : List ℕ) (b : Bool) → is_prefix p x ≡ b → f && is_prefix q x ≡ false → f && b ≡ false
  flag-below false x b e n = refl
  flag-below true x false e n = refl
  flag-below true x true e n = absurd (true≢false (sym (prefix_trans q p x h e) ∙ n))

  below-front : (s : ℕ) (a b : Bool) (e : Entry) (x y : Option Entry) → (is_granted e.kind ≡ true → a ≡ true → b ≡ true)
      → (a ≡ false → b ≡ true → is_granted e.kind ≡ true) → (open_by s x ≡ true → open_by s y ≡ true)
      → open_by s (cond a (Some e) x) ≡ true → open_by s (cond b (Some e) y) ≡ true
  unfolding open_by
  below-front s true true e x y f g r o = o
  below-front s true false e x y f g r o = absurd (false≢true (f o refl))
  below-front s false true e x y f g r o = g refl refl
  below-front s false false e x y f g r o = r o

  -- where no D or I is below q: if q is open, so is p
  below-open : (s : ℕ) (es : List Entry) → any (is_flag_below q) es ≡ false → open_by s (first_match q es) ≡ true → open_by s (first_match p es) ≡ true
  unfolding any is_flag_below first_match matches
  below-open s [] f o = o
  below-open s (e ∷ es) f o =
      let rest = neither (is_flag_below q e) _ f in
      below-front s (matches q e) (matches p e) e (first_match q es) (first_match p es)
      (granted-matches e.kind e.path)
      (new-match e.kind e.path rest.0)
      (below-open s es rest.1)
      o

  -- and no D or I is below p
  below-whole : (es : List Entry) → any (is_flag_below q) es ≡ false → any (is_flag_below p) es ≡ false
  unfolding any is_flag_below
  below-whole [] f = refl
  below-whole (e ∷ es) f =
      let rest = neither (is_flag_below q e) _ f in
      rw (flag-below (is_flag e.kind) e.path (is_prefix p e.path) refl rest.0) (below-whole es rest.1)

-- where q is a prefix of p and q is Granted in mode partial, p is Granted too
pub granted-below : (t : Table) (q p : List ℕ) → is_prefix q p ≡ true → state_of t q ≡ Granted → state_of t p ≡ Granted
granted-below t q p h e =
    let Q = granted-of (state-by t q) e in
    of-granted (state-by t p) (below-open q p h t.switches t.entries Q.1 Q.0) (below-whole q p h t.entries Q.1)
