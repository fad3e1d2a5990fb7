-- Laws of the single pass: what one entry more adds to what was seen, and that the state follows from what was seen at its end.
use Rattle.std.specs.Prelude.{Option, None, Some}
use Prim.Native.Nat.{ℕ}
use mathlib.Core.Path.{◌≡◌, refl, sym, ap, ◌∙◌}
use mathlib.Core.List.{List, [], ◌∷◌, ◌++◌, append-nil, append_assoc}
use mathlib.Core.Bool.{Bool, true, false, ◌&&◌, ◌||◌, cond, or-false, or_assoc, true≢false, false≢true}
use lib.ListN.{length}
use lib.Dec.{leb}
use Rattle.paths.specs.Resolving.{max_path, is_resolved}
use Rattle.paths.specs.Giving.{Query, path, is_path}
use Rattle.paths.specs.declared.Comparison.{Comparison}
use Rattle.paths.specs.Relations.{is_prefix, comparison}
use Rattle.paths.proofs.ComponentLaws.{and_right}
use Rattle.paths.proofs.RelationLaws.{says_prefix, turned, compared-said}
use Rattle.table.specs.declared.Kind.{Kind}
use Rattle.table.specs.declared.Kind.TheVariants.{G, D, P, I}
use Rattle.table.specs.Entries.{Entry}
use Rattle.table.specs.Tables.{Table, any, is_entry}
use Rattle.walk.specs.declared.AllowPartial.{AllowPartial}
use Rattle.walk.specs.declared.AllowPartial.TheVariants.{TreatAsDenied, TreatAsPartialGranted, TreatAsGranted}
use Rattle.walk.specs.declared.Met.{Met}
use Rattle.walk.specs.declared.Seen.{Seen}
use Rattle.walk.specs.Walk.{matches_kind, matches, first_match, is_flag, is_flag_below, is_partial, allowed, decided_by, by_match, query_desc}
use Rattle.walk.specs.Seeing.{Meets, matches_by, partial_by, kind_of_match, Sees, first_of, settles, is_settled, Walks, Decides}
use Rattle.walk.proofs.WalkLaws.{neither, allowed-granted}

-- ---- one comparison answers both questions

-- what a comparison says of the two paths
pub meets-compared : {p q : List ℕ} {r : Comparison} {a b : Bool} → r ≡ comparison p q → a ≡ says_prefix r.relation → b ≡ says_prefix (turned r.relation)
    → Meets p q (record { above = a; below = b })
meets-compared e f g = let s = compared-said e refl in record { above = f ∙ sym s.prefix; below = g ∙ sym s.extension }

match-kind : (k : Kind) (p q : List ℕ) → matches_by k (is_prefix p q) (is_prefix q p) ≡ matches_kind k p q
unfolding matches_kind
match-kind G p q = refl
match-kind D p q = refl
match-kind P p q = refl
match-kind I p q = refl

partial-kind : (partial : Bool) (k : Kind) (below : Bool) → partial_by partial k below ≡ partial || (is_flag k && below)
unfolding is_flag
partial-kind partial G below = sym (or-false partial)
partial-kind partial D below = refl
partial-kind partial P below = sym (or-false partial)
partial-kind partial I below = refl

module _ (q : List ℕ) (e : Entry) {met : Met} (M : Meets e.path q met) where
  match-met : matches_by e.kind met.above met.below ≡ matches q e
  unfolding matches
  match-met = rw (M.above, M.below) (match-kind e.kind e.path q)

  partial-met : (partial : Bool) → partial_by partial e.kind met.below ≡ partial || is_flag_below q e
  unfolding is_flag_below
  partial-met partial = rw M.below (partial-kind partial e.kind (is_prefix q e.path))

-- ---- the entries one after the other

-- the first of two, if there is one
abbrev or_later : Option Entry → Option Entry → Option Entry
or_later None later = later
or_later (Some e) later = Some e

first_by : (b : Bool) (e : Entry) (o later : Option Entry) {o' : Option Entry} → o' ≡ or_later o later → cond b (Some e) o' ≡ or_later (cond b (Some e) o) later
first_by true e o later h = refl
first_by false e o later h = h

first-append : (q : List ℕ) (read rest : List Entry) → first_match q (read ++ rest) ≡ or_later (first_match q read) (first_match q rest)
unfolding first_match
first-append q [] rest = refl
first-append q (e ∷ read) rest = first_by (matches q e) e (first_match q read) (first_match q rest) (first-append q read rest)

any_append : (f : Entry → Bool) (read rest : List Entry) → any f (read ++ rest) ≡ any f read || any f rest
unfolding any
any_append f [] rest = refl
any_append f (e ∷ read) rest = ap (λ (b : Bool). f e || b) (any_append f read rest) ∙ sym (or_assoc (f e) (any f read) (any f rest))

-- ---- one entry more

first_one : (b : Bool) (e : Entry) (o : Option Entry) → kind_of_match (or_later o (cond b (Some e) None)) ≡ first_of (kind_of_match o) e.kind b
unfolding kind_of_match
first_one true e None = refl
first_one true e (Some f) = refl
first_one false e None = refl
first_one false e (Some f) = refl

first_more : (q : List ℕ) (read : List Entry) (e : Entry) → kind_of_match (first_match q (read ++ e ∷ [])) ≡ first_of (kind_of_match (first_match q read)) e.kind (matches q e)
unfolding first_match
first_more q read e = ap kind_of_match (first-append q read (e ∷ [])) ∙ first_one (matches q e) e (first_match q read)

flag-more : (q : List ℕ) (read : List Entry) (e : Entry) → any (is_flag_below q) (read ++ e ∷ []) ≡ any (is_flag_below q) read || is_flag_below q e
unfolding any
flag-more q read e = any_append (is_flag_below q) read (e ∷ []) ∙ ap (λ (b : Bool). any (is_flag_below q) read || b) (or-false (is_flag_below q e))

-- what is seen with one entry more
pub sees_more : (q : List ℕ) (read : List Entry) (e : Entry) {k : Kind} {met : Met} {hit : Bool} {s s' : Seen} → k ≡ e.kind → Meets e.path q met
    → hit ≡ matches_by k met.above met.below → Sees q read s → s'.first ≡ first_of s.first k hit → s'.partial ≡ partial_by s.partial k met.below
    → Sees q (read ++ e ∷ []) s'
sees_more q read e {met = met} {s = s} a M h S f p = record {
  first = f ∙ rw (h, a, match-met q e M, S.first) (sym (first_more q read e));
  partial = p ∙ rw (a, partial-met q e M s.partial, S.partial) (sym (flag-more q read e));
}

match-unmet : (k : Kind) → matches_by k false false ≡ false
match-unmet G = refl
match-unmet D = refl
match-unmet P = refl
match-unmet I = refl

partial-unmet : (partial : Bool) (k : Kind) → partial ≡ partial_by partial k false
partial-unmet partial G = refl
partial-unmet partial D = sym (or-false partial)
partial-unmet partial P = refl
partial-unmet partial I = sym (or-false partial)

-- nothing more, where the entry has nothing to do with q
pub sees-passed : (q : List ℕ) (read : List Entry) (e : Entry) {met : Met} {s : Seen} → Meets e.path q met → met.above || met.below ≡ false
    → Sees q read s → Sees q (read ++ e ∷ []) s
sees-passed q read e {met} {s} M h S =
    let n = neither met.above met.below h in
    sees_more q read e refl M refl S (rw (n.0, n.1, match-unmet e.kind)) (rw n.1 (partial-unmet s.partial e.kind))

-- ---- the walk on its way

-- the path of an entry is in resolved form
pub path-resolved : (e : Entry) → is_entry e ≡ true → is_resolved e.path ≡ true
unfolding is_entry is_path
path-resolved e ok = and_right (leb (length e.path) max_path) _ ok

-- the list is the entries read and those that are left, and `seen` was seen of the former
pub record Walking (t : Table) (q : List ℕ) (left : List Entry) (seen : Seen) : Type 0 where
  pub read : List Entry
  pub whole : t.entries ≡ read ++ left
  pub sees : Sees q read seen

pub walking_start : (t : Table) (q : List ℕ) {left : List Entry} (seen : Seen) → left ≡ t.entries → seen.first ≡ None → seen.partial ≡ false → Walking t q left seen
unfolding kind_of_match first_match any
walking_start t q seen e f p = record { read = []; whole = sym e; sees = record { first = f; partial = p } }

module _ {t : Table} {q : List ℕ} {left : List Entry} {seen : Seen} where
  -- a turn: the first of the entries that are left is read too
  pub walking_on : {e : Entry} {rest : List Entry} {seen' : Seen} → left ≡ e ∷ rest → (W : Walking t q left seen) → Sees q (W.read ++ e ∷ []) seen'
      → Walking t q rest seen'
  walking_on {e} {rest} next W S = record {
    read = W.read ++ e ∷ [];
    whole = W.whole ∙ ap (λ (es : List Entry). W.read ++ es) next ∙ sym (append_assoc W.read (e ∷ []) rest);
    sees = S;
  }

  -- at the list's end
  pub walking-end : (mode : AllowPartial) → left ≡ [] → Walking t q left seen → Walks t.entries mode q seen
  walking-end mode none W = record {
    read = W.read;
    rest = left;
    whole = W.whole;
    sees = W.sees;
    enough = λ e. none;
  }

  -- and before it, where the state is settled
  pub walking-settled : (mode : AllowPartial) → is_settled seen.first mode seen.partial ≡ true → Walking t q left seen → Walks t.entries mode q seen
  walking-settled mode e W = record {
    read = W.read;
    rest = left;
    whole = W.whole;
    sees = W.sees;
    enough = λ f. absurd (true≢false (sym e ∙ f));
  }

-- ---- leaving early

-- a settled state stays, whatever partial denials are still to come
stays : (k : Kind) (mode : AllowPartial) (now later : Bool) → settles k mode now ≡ true → (now ≡ true → later ≡ true)
    → decided_by k (allowed now mode) ≡ decided_by k (allowed later mode)
unfolding decided_by
stays G TreatAsDenied now later s h = rw (s, h s)
stays G TreatAsPartialGranted now later s h = rw (s, h s)
stays G TreatAsGranted now later s h = allowed-granted now ∙ sym (allowed-granted later)
stays D mode now later s h = refl
stays P mode now later s h = refl
stays I mode now later s h = refl

settled-stays : (t : Table) (mode : AllowPartial) (d : Query) (found later : Option Entry) (now then : Bool) → is_settled (kind_of_match found) mode now ≡ true
    → (now ≡ true → then ≡ true) → by_match t mode d found now ≡ by_match t mode d (or_later found later) then
unfolding kind_of_match by_match
settled-stays t mode d None later now then s h = absurd (false≢true s)
settled-stays t mode d (Some e) later now then s h = stays e.kind mode now then s h

-- ---- the state

module _ (t : Table) (mode : AllowPartial) (q : List ℕ) {s : Seen} (W : Walks t.entries mode q s) where
  -- the whole list's first match and partial denial decide as those of the entries read
  same-state : (settled : Bool) → is_settled s.first mode s.partial ≡ settled
      → by_match t mode (path q) (first_match q W.read) s.partial ≡ by_match t mode (path q) (first_match q (W.read ++ W.rest)) (any (is_flag_below q) (W.read ++ W.rest))
  same-state true e =
      rw (first-append q W.read W.rest, any_append (is_flag_below q) W.read W.rest)
      (settled-stays t mode (path q) (first_match q W.read) (first_match q W.rest) s.partial _ (rw (← W.sees.first) e) (λ h. rw (← W.sees.partial, h)))
  same-state false e = rw (W.enough e, append-nil W.read, W.sees.partial)

  pub walks-decides : Decides t mode (path q) s
  unfolding query_desc is_partial
  walks-decides = record {
    found = first_match q W.read;
    first = W.sees.first;
    state =
        same-state (is_settled s.first mode s.partial) refl
        ∙ ap (λ (es : List Entry). by_match t mode (path q) (first_match q es) (any (is_flag_below q) es)) (sym W.whole);
  }
