-- The operator against the script: whether saying no is enough. Scope, "The operator against the script".
--
-- A script makes any calls, from any memory that holds a table: its list in any order, with or without duplicates, whatever switches are set. Each step is a
-- call's own promise, the one that its `ensures` cites, refused or not. `OperatorAgainstScript` says what an operator keeps shut who says no, and that a yes opens.
use Rattle.std.specs.Prelude.{ℕ, ◌≡◌, List, Bool, true, false, not, Some, Ok}
use Rattle.refusals.specs.Refusals.{Result}
use Rattle.paths.specs.declared.Descriptor.TheVariants.{Path}
use Rattle.paths.specs.Resolving.{resolve}
use Rattle.paths.specs.Relations.{is_prefix}
use Rattle.paths.specs.Giving.{Query, no_path, path, query_of, resolved}
use Rattle.table.specs.Tables.{Table}
use Rattle.table.specs.Memory.{table_of, holds}
use Rattle.link.specs.declared.Link.{Link}
use Rattle.link.specs.Sending.{Lent, lent}
use Rattle.walk.specs.declared.PermissionState.{PermissionState}
use Rattle.walk.specs.declared.PermissionState.TheVariants.{
  Granted,
  GrantedPartial,
  Prompt,
  Denied,
  DeniedPartial,
  Ignored,
}
use Rattle.walk.specs.declared.AllowPartial.TheVariants.{TreatAsPartialGranted}
use Rattle.walk.specs.Walk.{mode_number, query_desc}
use Rattle.walk.specs.Calls.{query_call}
use Rattle.deciding.specs.declared.PromptResponse.{PromptResponse}
use Rattle.deciding.specs.declared.PromptResponse.TheVariants.{Deny, Allow, AllowAll}
use Rattle.deciding.specs.declared.Call.{Call}
use Rattle.deciding.specs.Decisions.{response_of}
use Rattle.calls.specs.declared.Asked.{Asked}
use Rattle.calls.specs.declared.Revoked.{Revoked}
use Rattle.calls.specs.Calls.{About, about, told, Asks, Revokes}

-- ---- the path

-- Granted or GrantedPartial
unfoldable pub is_open : PermissionState → Bool
is_open Granted = true
is_open GrantedPartial = true
is_open Prompt = false
is_open Denied = false
is_open DeniedPartial = false
is_open Ignored = false

-- what query in mode partial gives the path p, on the table t
abbrev pub state_of : Table → List ℕ → PermissionState
state_of t p = query_desc t TreatAsPartialGranted (path p)

-- memory holds a table, and query in mode partial gives p neither Granted nor GrantedPartial
pub record Shut (p m : List ℕ) : Type 0 where
  pub holding : holds m ≡ true
  pub state : is_open (state_of (table_of m) p) ≡ false

-- memory holds a table, and query in mode partial gives p Granted or GrantedPartial
pub record Open (p m : List ℕ) : Type 0 where
  pub holding : holds m ≡ true
  pub state : is_open (state_of (table_of m) p) ≡ true

-- ---- the operator

-- which answers an operator may give to what is asked about
abbrev pub Operator : Type 0
Operator = Query → PromptResponse → Bool

-- who never answers Allow for a prefix of p, nor for the call with no path, and never AllowAll
unfoldable pub says_no : List ℕ → Operator
says_no p q Deny = true
says_no p no_path Allow = false
says_no p (path q) Allow = not (is_prefix q p)
says_no p q AllowAll = false

-- A call was handed the number `response` for the operator's answer. Where it asked about q, the answer that the number names is one that the operator may give;
-- where it did not ask, as a refused call never does, nobody gave an answer, and the number may be any.
abbrev pub Answered : Operator → Bool → Query → ℕ → Type 0
Answered operator asked q response = asked ≡ true → (answer : PromptResponse) → response_of response ≡ Some answer → operator q answer ≡ true

-- ---- what the calls promise: check and request, and revoke, plain or linked

pub record Promises : Type 1 where
  pub asks : (call : Call) (link : Link) (l : Lent) (s : List ℕ) (a : About) (response : ℕ) (l' : Lent) (s' : List ℕ) (r : Result Asked) → Type 0
  pub revokes : (link : Link) (l : Lent) (a : About) (l' : Lent) (r : Result Revoked) → Type 0

-- the calls' own
abbrev pub promised : Promises
promised = record { asks = Asks; revokes = Revokes }

-- ---- the script

-- One call of the script, plain or linked, with a path or without, by what it promises: memory m becomes m', with whatever it is lent and handed, refused or not.
-- A linked call is handed any run number, after any number n and with any record space w.
pub data Step (P : Promises) (operator : Operator) (m m' : List ℕ) : Type 0 where
  -- a query is lent the memory for reading alone
  queries : (mode : ℕ) (a : About) (r : Result PermissionState) → r ≡ query_call m mode a.descriptor a.given a.cwd
      → m' ≡ m
      → Step P operator m m'
  -- check and request
  asks : (call : Call) (link : Link) (n : ℕ) (w s : List ℕ) (a : About) (response n' : ℕ) (w' s' : List ℕ) (r : Result Asked)
      → P.asks call link (lent m n w) s a response (lent m' n' w') s' r
      → Answered operator (told r) (query_of a.descriptor (resolve a.given a.cwd)) response
      → Step P operator m m'
  revokes : (link : Link) (n : ℕ) (w : List ℕ) (a : About) (n' : ℕ) (w' : List ℕ) (r : Result Revoked)
      → P.revokes link (lent m n w) a (lent m' n' w') r
      → Step P operator m m'

-- steps one after the other, from memory m on
pub data Script (Next : List ℕ → List ℕ → Type 0) (m : List ℕ) : List ℕ → Type 0 where
  start : Script Next m m
  then_call : {m₁ m₂ : List ℕ} → Script Next m m₁ → Next m₁ m₂ → Script Next m m₂

-- ---- a yes

-- a call for p, as given and with its working directory, asked, and its answer was Allow; it was not refused, since a refused call did not ask
pub record IsYes (p given cwd : List ℕ) (asked : Bool) (response : ℕ) : Type 0 where
  pub for : resolve given cwd ≡ p
  pub told : asked ≡ true
  pub answer : response_of response ≡ Some Allow

-- a check or request for p, plain or linked, that got a yes: memory m becomes m'
pub data Allowed (P : Promises) (p m m' : List ℕ) : Type 0 where
  allowed : (call : Call) (link : Link) (n : ℕ) (w s given cwd : List ℕ) (response n' : ℕ) (w' s' : List ℕ) (r : Result Asked)
      → P.asks call link (lent m n w) s (about Path given cwd) response (lent m' n' w') s' r
      → IsYes p given cwd (told r) response
      → Allowed P p m m'

-- ---- the claim

-- a path that is shut stays so, whatever steps are made; which may be made can depend on the path
abbrev pub KeepsShut : (List ℕ → List ℕ → List ℕ → Type 0) → Type 0
KeepsShut Next = (p m m' : List ℕ) → Script (Next p) m m' → Shut p m → Shut p m'

pub record Claim (P : Promises) : Type 0 where
  -- the operator who says no keeps p shut for good
  pub no : KeepsShut (λ p. Step P (says_no p))
  -- in turn, a yes opens p
  pub yes : (p m m' : List ℕ) → Allowed P p m m' → Open p m'
  -- `state_of` is what the call query answers in mode partial, for every path as given that resolves to p
  pub seen : (p m given cwd : List ℕ) → holds m ≡ true → resolved given cwd ≡ Ok p
      → query_call m (mode_number TreatAsPartialGranted) Path given cwd ≡ Ok (state_of (table_of m) p)

abbrev pub OperatorAgainstScript : Type 0
OperatorAgainstScript = Claim promised
