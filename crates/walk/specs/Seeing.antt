-- What the walk sees of the entries, in a single pass, and when it may end.
use Rattle.std.specs.Prelude.{ℕ, ◌≡◌, List, [], ◌∷◌, ◌++◌, Bool, true, false, ◌||◌, Option, None, Some}
use Rattle.paths.specs.Giving.{Query}
use Rattle.paths.specs.Relations.{is_prefix}
use Rattle.table.specs.declared.Kind.{Kind}
use Rattle.table.specs.declared.Kind.TheVariants.{G, D, P, I}
use Rattle.table.specs.Entries.{Entry}
use Rattle.table.specs.Tables.{Table, any}
use Rattle.walk.specs.declared.AllowPartial.{AllowPartial}
use Rattle.walk.specs.declared.AllowPartial.TheVariants.{TreatAsDenied, TreatAsPartialGranted, TreatAsGranted}
use Rattle.walk.specs.declared.PermissionState.{PermissionState}
use Rattle.walk.specs.declared.Met.{Met}
use Rattle.walk.specs.declared.Seen.{Seen}
use Rattle.walk.specs.Walk.{first_match, is_flag_below, by_match, query_desc}

-- ---- an entry

-- what one comparison tells of an entry's path p and of q; it answers both questions about the entry
pub record Meets (p q : List ℕ) (met : Met) : Type 0 where
  pub above : met.above ≡ is_prefix p q
  pub below : met.below ≡ is_prefix q p

-- whether an entry of a kind matches
abbrev pub matches_by : Kind → Bool → Bool → Bool
matches_by G above below = above
matches_by D above below = above
matches_by P above below = below
matches_by I above below = above

-- whether a partial denial was met, with the entry: a D or I whose path has prefix q is one
abbrev pub partial_by : Bool → Kind → Bool → Bool
partial_by partial G below = partial
partial_by partial D below = partial || below
partial_by partial P below = partial
partial_by partial I below = partial || below

-- ---- the entries read so far

-- the kind of a match, if there is one
unfoldable pub kind_of_match : Option Entry → Option Kind
kind_of_match None = None
kind_of_match (Some e) = Some e.kind

-- the first match among the entries read, and whether a partial denial is among them
pub record Sees (q : List ℕ) (read : List Entry) (seen : Seen) : Type 0 where
  pub first : seen.first ≡ kind_of_match (first_match q read)
  pub partial : seen.partial ≡ any (is_flag_below q) read

-- with one entry more: a match is the first only if there was none
abbrev pub first_of : Option Kind → Kind → Bool → Option Kind
first_of first kind false = first
first_of None kind true = Some kind
first_of (Some earlier) kind true = Some earlier

-- what is seen with one entry more, of a kind and met so, whatever was read before
pub record SeesMore (kind : Kind) (met : Met) (seen seen' : Seen) : Type 0 where
  pub more : (q : List ℕ) (read : List Entry) (e : Entry) → kind ≡ e.kind → Meets e.path q met → Sees q read seen → Sees q (read ++ e ∷ []) seen'

-- ---- the end of the walk

-- a match of a kind settles the state: what D, P and I decide does not hang on whether it is partial, nor does what a G allows in mode granted;
-- in the other modes it does, and only a partial denial that was met is there for good
abbrev pub settles : Kind → AllowPartial → Bool → Bool
settles G TreatAsDenied partial = partial
settles G TreatAsPartialGranted partial = partial
settles G TreatAsGranted partial = true
settles D mode partial = true
settles P mode partial = true
settles I mode partial = true

-- no later entry can change the state, and the walk may end: the first match stays the first, and settles the state. Without a match any later
-- entry may be the first
abbrev pub is_settled : Option Kind → AllowPartial → Bool → Bool
is_settled None mode partial = false
is_settled (Some kind) mode partial = settles kind mode partial

-- what was seen at the end of a walk: that of all entries, or of so many of the first that the rest cannot change the state
pub record Walks (entries : List Entry) (mode : AllowPartial) (q : List ℕ) (seen : Seen) : Type 0 where
  pub read : List Entry
  pub rest : List Entry
  pub whole : entries ≡ read ++ rest
  pub sees : Sees q read seen
  pub enough : is_settled seen.first mode seen.partial ≡ false → rest ≡ []

-- ---- the state

-- a state follows from what was seen, the switches and the marks: it is that by any match of the kind seen
pub record Follows (t : Table) (mode : AllowPartial) (d : Query) (seen : Seen) (state : PermissionState) : Type 0 where
  pub by : (found : Option Entry) → seen.first ≡ kind_of_match found → state ≡ by_match t mode d found seen.partial

-- the state that follows is the query's
pub record Decides (t : Table) (mode : AllowPartial) (d : Query) (seen : Seen) : Type 0 where
  pub found : Option Entry
  pub first : seen.first ≡ kind_of_match found
  pub state : by_match t mode d found seen.partial ≡ query_desc t mode d
