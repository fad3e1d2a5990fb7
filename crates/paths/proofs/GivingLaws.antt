-- Laws of what is given with a call: what the code's answer tells of it.
use Rattle.std.specs.Prelude.{Option, None, Some, Ok, Err}
use Prim.Native.Nat.{ℕ, ◌≤◌}
use mathlib.Core.Path.{◌≡◌, refl, sym, ◌∙◌, subst}
use mathlib.Core.List.{List, []}
use mathlib.Core.Bool.{true}
use native.Mathlib.Omega.{arith}
use lib.ListN.{length, take}
use lib.Seq.{length-take-le}
use borrow.Author.Tests.{le-leb, ltb-false}
use Rattle.refusals.specs.declared.Refusal.{Refusal}
use Rattle.refusals.specs.Refusals.{first_cause, Result, and_then, unless}
use Rattle.refusals.proofs.CauseLaws.{no-cause-head, no-cause-tail, unless-ok}
use Rattle.paths.specs.declared.Descriptor.{Descriptor}
use Rattle.paths.specs.declared.Descriptor.TheVariants.{NoPath, Path}
use Rattle.paths.specs.declared.Comparison.{Comparison}
use Rattle.paths.specs.Resolving.{max_path, resolve, path_conditions, resolved_into, Resolves}
use Rattle.paths.specs.Giving.{is_path, resolved, Query, is_query, query_of, given, given_size, given_resolution, given_into, Gives}
use Rattle.paths.specs.Relations.{comparison}
use Rattle.paths.specs.Comparing.{compare_call}
use Rattle.paths.proofs.ComponentLaws.{and_both}
use Rattle.paths.proofs.ResolvingLaws.{resolve-resolved}
use Rattle.paths.proofs.Answering.{Given, no-cause-short, resolution-resolved, resolution-refused, given-space, given-room}

-- ---- a path that resolving gives

pub resolve-path : (p cwd : List ℕ) → first_cause (path_conditions p cwd) ≡ None → is_path (resolve p cwd) ≡ true
unfolding is_path
resolve-path p cwd e = and_both (le-leb _ _ (no-cause-short p cwd e)) (resolve-resolved p cwd)

-- ---- what is given, once it is resolved

-- the first n bytes of the space stand for what is given
pub record Stands (d : Descriptor) (p cwd : List ℕ) (n : ℕ) (space : List ℕ) : Type 0 where
  pub query : given d p cwd ≡ Ok (query_of d (take n space))
  pub room : n ≤ length space
  pub short : n ≤ max_path
  pub size : n ≡ given_size d p cwd
  pub fits : is_query (query_of d (take n space)) ≡ true
  pub brief : d ≡ Path → length p ≤ max_path
  pub bytes : d ≡ Path → take n space ≡ resolve p cwd

given-short : (p cwd : List ℕ) → first_cause (path_conditions p cwd) ≡ None → length p ≤ max_path
unfolding path_conditions
given-short p cwd e = ltb-false _ _ (no-cause-head _ _ _ (no-cause-tail _ _ _ e))

-- with no path, whatever the space holds
none-stands : (p cwd space : List ℕ) → Stands NoPath p cwd 0 space
unfolding given query_of is_query given_size
none-stands p cwd space = record {
  query = refl;
  room = omega arith;
  short = omega arith;
  size = refl;
  fits = refl;
  brief = λ d. let z : ◌≡◌ {A = ℕ} 0 1 = cc in absurd (omega arith);
  bytes = λ d. let z : ◌≡◌ {A = ℕ} 0 1 = cc in absurd (omega arith);
}

path-stands : (p cwd space after : List ℕ) (n : ℕ) → Given p cwd n → after ≡ resolved_into p cwd space → Stands Path p cwd n after
unfolding given resolved and_then unless query_of is_query given_size
path-stands p cwd space after n g e =
    let same = given-space p cwd space after n g e in
    record {
      query = rw (g.free, same);
      room = given-room p cwd space after n g e;
      short = g.short;
      size = sym g.size;
      fits = rw same (resolve-path p cwd g.free);
      brief = λ _. given-short p cwd g.free;
      bytes = λ _. same;
    }

-- ---- what the code's answer tells, of a path that is resolved by itself

module _ {p cwd space after : List ℕ} {r : Result ℕ} (R : Resolves p cwd space r after) where
  pub resolves-refused : {cause : Refusal} → r ≡ Err cause → resolved p cwd ≡ Err cause
  unfolding resolved unless
  resolves-refused {cause} e = rw (resolution-refused p cwd cause (sym R.answer ∙ e))

  resolves-given : {n : ℕ} → r ≡ Ok n → Given p cwd n
  resolves-given {n} e = resolution-resolved p cwd n (sym R.answer ∙ e)

  pub resolves-ok : {n : ℕ} → r ≡ Ok n → resolved p cwd ≡ Ok (take n after)
  unfolding resolved unless
  resolves-ok {n} e = let g = resolves-given e in rw (g.free, given-space p cwd space after n g R.bytes)

  pub resolves-room : {n : ℕ} → r ≡ Ok n → n ≤ length after
  resolves-room {n} e = given-room p cwd space after n (resolves-given e) R.bytes

-- ---- and of what is given

module _ {p cwd space after : List ℕ} {r : Result ℕ} where
  none-zero : {n : ℕ} → Gives NoPath p cwd space r after → r ≡ Ok n → 0 ≡ n
  unfolding given_resolution
  none-zero S e = cc S.answer

  none-refused : {cause : Refusal} → Gives NoPath p cwd space r after → r ≡ Err cause → given NoPath p cwd ≡ Err cause
  unfolding given_resolution
  none-refused S e = let z : ◌≡◌ {A = ℕ} 0 1 = cc S.answer in absurd (omega arith)

  path-resolves : Gives Path p cwd space r after → Resolves p cwd space r after
  unfolding given_resolution given_into
  path-resolves S = record { answer = S.answer; bytes = S.bytes }

  path-refused : {cause : Refusal} → Gives Path p cwd space r after → r ≡ Err cause → given Path p cwd ≡ Err cause
  unfolding given and_then
  path-refused S e = rw (resolves-refused (path-resolves S) e)

  path-given : {n : ℕ} → Gives Path p cwd space r after → r ≡ Ok n → Stands Path p cwd n after
  path-given {n} S e = let R = path-resolves S in path-stands p cwd space after n (resolves-given R e) R.bytes

pub gives-refused : {d : Descriptor} {p cwd space after : List ℕ} {r : Result ℕ} {cause : Refusal}
    → Gives d p cwd space r after → r ≡ Err cause → given d p cwd ≡ Err cause
gives-refused {d = NoPath} S e = none-refused S e
gives-refused {d = Path} S e = path-refused S e

pub gives-stands : {d : Descriptor} {p cwd space after : List ℕ} {r : Result ℕ} {n : ℕ}
    → Gives d p cwd space r after → r ≡ Ok n → Stands d p cwd n after
gives-stands {d = NoPath} {p = p} {cwd = cwd} {after = after} S e = subst (λ (n : ℕ). Stands NoPath p cwd n after) (none-zero S e) (none-stands p cwd after)
gives-stands {d = Path} S e = path-given S e

-- ---- two paths that are compared

module _ (p q cwd : List ℕ) where
  pub compare-first : {cause : Refusal} → resolved p cwd ≡ Err cause → Err cause ≡ compare_call p q cwd
  unfolding compare_call and_then
  compare-first e = rw e

  pub compare-second : {a : List ℕ} {cause : Refusal} → resolved p cwd ≡ Ok a → resolved q cwd ≡ Err cause → Err cause ≡ compare_call p q cwd
  unfolding compare_call and_then
  compare-second e f = rw (e, f)

  pub compare-found : {a b : List ℕ} {r : Comparison} → resolved p cwd ≡ Ok a → resolved q cwd ≡ Ok b → r ≡ comparison a b
      → Ok r ≡ compare_call p q cwd
  unfolding compare_call and_then
  compare-found e f g = rw (e, f, g)

-- ---- what follows from what is given

free-by : (cause : Option Refusal) (path : List ℕ) {q : Query} → and_then (unless cause path) (λ x. Ok (query_of Path x)) ≡ Ok q → cause ≡ None
unfolding and_then unless
free-by None path e = refl
free-by (Some cause) path e = let z : ◌≡◌ {A = ℕ} 0 1 = cc in absurd (omega arith)

pub resolved-fits : (p cwd : List ℕ) {q : List ℕ} → resolved p cwd ≡ Ok q → is_path q ≡ true
unfolding resolved
resolved-fits p cwd e =
    let b = unless-ok (first_cause (path_conditions p cwd)) (resolve p cwd) e in
    rw b.1 at (resolve-path p cwd b.0)

-- where nothing refuses it, its bytes stand in a space that it was resolved into
pub given-stands : (d : Descriptor) (p cwd space : List ℕ) {q : Query} → given d p cwd ≡ Ok q → Stands d p cwd (given_size d p cwd) (given_into d p cwd space)
unfolding given resolved given_size given_into query_of
given-stands NoPath p cwd space e = none-stands p cwd space
given-stands Path p cwd space e =
    let free = free-by (first_cause (path_conditions p cwd)) (resolve p cwd) e in
    path-stands p cwd space _ _ (record { free = free; size = refl; short = no-cause-short p cwd free }) refl

pub given-fits : (d : Descriptor) (p cwd : List ℕ) {q : Query} → given d p cwd ≡ Ok q → is_query q ≡ true
given-fits d p cwd {q} e =
    let S = given-stands d p cwd [] e in
    let same : query_of d (take (given_size d p cwd) (given_into d p cwd [])) ≡ q = cc S.query in
    subst (λ (x : Query). is_query x ≡ true) same S.fits

pub ruleset comparing = (resolves-ok, resolves-room, length-take-le, compare-found)
