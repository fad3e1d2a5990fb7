-- What a query answers. Scope, "The walk", and "A call comes in" for the numbers of states and modes.
use Rattle.std.specs.Prelude.{ℕ, zero, suc, List, [], ◌∷◌, Bool, true, false, ◌&&◌, ◌||◌, not, cond, eqb, Option, None, Some, Ok, Err}
use Rattle.walk.specs.declared.PermissionState.{PermissionState}
use Rattle.walk.specs.declared.PermissionState.TheVariants.{
  Granted,
  GrantedPartial,
  Prompt,
  Denied,
  DeniedPartial,
  Ignored,
}
use Rattle.walk.specs.declared.AllowPartial.{AllowPartial}
use Rattle.walk.specs.declared.AllowPartial.TheVariants.{TreatAsDenied, TreatAsPartialGranted, TreatAsGranted}
use Rattle.refusals.specs.declared.Refusal.TheVariants as refusal
use Rattle.refusals.specs.Refusals.{Result}
use Rattle.paths.specs.Giving.{Query, no_path, path}
use Rattle.table.specs.declared.Kind.{Kind}
use Rattle.table.specs.declared.Kind.TheVariants.{G, D, P, I}
use Rattle.table.specs.Entries.{Entry}
use Rattle.table.specs.Tables.{
  Table,
  has,
  any,
  granted,
  flag_denied,
  flag_ignored,
  prompt_denied,
  has_flag_denied,
  has_prompt_denied,
  has_flag_ignored,
}
use Rattle.paths.specs.Relations.{is_prefix}

-- ---- numbers

-- states carry the Rust's numbers
abbrev pub state_number : PermissionState → ℕ
state_number Granted = 0
state_number GrantedPartial = 1
state_number Prompt = 2
state_number Denied = 3
state_number DeniedPartial = 4
state_number Ignored = 5

-- the state that a number names; none has a number above 5
unfoldable pub state_of : ℕ → Option PermissionState
state_of zero = Some Granted
state_of (suc zero) = Some GrantedPartial
state_of (suc (suc zero)) = Some Prompt
state_of (suc (suc (suc zero))) = Some Denied
state_of (suc (suc (suc (suc zero)))) = Some DeniedPartial
state_of (suc (suc (suc (suc (suc zero))))) = Some Ignored
state_of (suc (suc (suc (suc (suc (suc n)))))) = None

-- 12 where it names none
unfoldable pub known_state : Option PermissionState → Result PermissionState
known_state (Some state) = Ok state
known_state None = Err refusal.UnknownState

-- modes: 0 denied, 1 partial, 2 granted
abbrev pub mode_number : AllowPartial → ℕ
mode_number TreatAsDenied = 0
mode_number TreatAsPartialGranted = 1
mode_number TreatAsGranted = 2

-- the mode that a number names; none has a number above 2
unfoldable pub mode_of : ℕ → Option AllowPartial
mode_of zero = Some TreatAsDenied
mode_of (suc zero) = Some TreatAsPartialGranted
mode_of (suc (suc zero)) = Some TreatAsGranted
mode_of (suc (suc (suc n))) = None

-- 3 where it names none
unfoldable pub known_mode : Option AllowPartial → Result AllowPartial
known_mode (Some mode) = Ok mode
known_mode None = Err refusal.Unknown

-- ---- the walk

-- an entry's kind and path p, for a query q: G, D, I match if their path is a prefix of q; P matches if q is a prefix of its path
unfoldable pub matches_kind : Kind → List ℕ → List ℕ → Bool
matches_kind G p q = is_prefix p q
matches_kind D p q = is_prefix p q
matches_kind P p q = is_prefix q p
matches_kind I p q = is_prefix p q

unfoldable pub matches : List ℕ → Entry → Bool
matches q e = matches_kind e.kind e.path q

-- entries go in list order, and the first match decides
unfoldable pub first_match : List ℕ → List Entry → Option Entry
first_match q [] = None
first_match q (e ∷ es) = cond (matches q e) (Some e) (first_match q es)

-- ---- partial

-- D and I
unfoldable pub is_flag : Kind → Bool
is_flag G = false
is_flag D = true
is_flag P = false
is_flag I = true

-- a D or I whose path has prefix q
unfoldable pub is_flag_below : List ℕ → Entry → Bool
is_flag_below q e = is_flag e.kind && is_prefix q e.path

-- the Rust's `is_partial_flag_denied`: some D or I path has prefix q; with no path, mark 1 or 4
unfoldable pub is_partial : Table → Query → Bool
is_partial t no_path = has t.marks has_flag_denied || has t.marks has_flag_ignored
is_partial t (path q) = any (is_flag_below q) t.entries

-- allowed is Granted, but when partial it is DeniedPartial in mode denied and GrantedPartial in mode partial
unfoldable pub allowed : Bool → AllowPartial → PermissionState
allowed false mode = Granted
allowed true TreatAsDenied = DeniedPartial
allowed true TreatAsPartialGranted = GrantedPartial
allowed true TreatAsGranted = Granted

-- ---- the state

-- the first match decides: D or P Denied, I Ignored, G allowed
unfoldable pub decided_by : Kind → PermissionState → PermissionState
decided_by G when_allowed = when_allowed
decided_by D when_allowed = Denied
decided_by P when_allowed = Denied
decided_by I when_allowed = Ignored

unfoldable pub is_denied_mode : AllowPartial → Bool
is_denied_mode TreatAsDenied = true
is_denied_mode TreatAsPartialGranted = false
is_denied_mode TreatAsGranted = false

-- with no path, switch 8 or mark 2 also gives Denied beside switch 2
unfoldable pub is_denied : Table → Query → Bool
is_denied t no_path = has t.switches flag_denied || (has t.switches prompt_denied || has t.marks has_prompt_denied)
is_denied t (path q) = has t.switches flag_denied

-- without a match: switch 4 Ignored; mode denied and partial, DeniedPartial; switch 2 Denied; switch 1 allowed; else Prompt
unfoldable pub without_match : Table → AllowPartial → Query → Bool → PermissionState
without_match t mode d partial =
    cond (has t.switches flag_ignored) Ignored
    (cond (is_denied_mode mode && partial) DeniedPartial
    (cond (is_denied t d) Denied
    (cond (has t.switches granted) (allowed partial mode)
    Prompt)))

-- by the first match, if there is one, and by whether what is asked about is partial
unfoldable pub by_match : Table → AllowPartial → Query → Option Entry → Bool → PermissionState
by_match t mode d None partial = without_match t mode d partial
by_match t mode d (Some e) partial = decided_by e.kind (allowed partial mode)

-- the Rust's `query_desc`; with no path the walk is skipped
unfoldable pub query_desc : Table → AllowPartial → Query → PermissionState
query_desc t mode no_path = without_match t mode no_path (is_partial t no_path)
query_desc t mode (path q) = by_match t mode (path q) (first_match q t.entries) (is_partial t (path q))

-- the Rust's `is_allow_all`: switch 1 alone of 1, 2, 4, 8 is set and no mark is
unfoldable pub is_allow_all : Table → Bool
is_allow_all t =
    has t.switches granted
    && not (has t.switches flag_denied)
    && not (has t.switches flag_ignored)
    && not (has t.switches prompt_denied)
    && eqb t.marks 0
