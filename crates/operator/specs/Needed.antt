-- Each premise of the claim is needed: where one is dropped, a single call opens a path. Scope, "The operator against the script".
use Rattle.std.specs.Prelude.{ℕ, List, true, false, not}
use Rattle.refusals.specs.Refusals.{Result}
use Rattle.paths.specs.Relations.{is_prefix}
use Rattle.paths.specs.Giving.{no_path, path}
use Rattle.table.specs.Entries.{same_path}
use Rattle.link.specs.declared.Link.TheVariants.{Plain}
use Rattle.link.specs.Sending.{alone}
use Rattle.deciding.specs.declared.PromptResponse.TheVariants.{Deny, Allow, AllowAll}
use Rattle.calls.specs.Changes.{SetsSwitches, Inserts}
use Rattle.operator.specs.Operator.{Shut, Open, Operator, says_no, promised, Step, KeepsShut}

-- ---- the operator of `says_no`, but for one answer

-- Allow for any path but p, so for those above it
unfoldable pub allows_above : List ℕ → Operator
allows_above p q Deny = true
allows_above p no_path Allow = false
allows_above p (path q) Allow = not (same_path q p)
allows_above p q AllowAll = false

-- Allow for the call with no path
unfoldable pub allows_no_path : List ℕ → Operator
allows_no_path p q Deny = true
allows_no_path p no_path Allow = true
allows_no_path p (path q) Allow = not (is_prefix q p)
allows_no_path p q AllowAll = false

-- AllowAll
unfoldable pub allows_all : List ℕ → Operator
allows_all p q Deny = true
allows_all p no_path Allow = false
allows_all p (path q) Allow = not (is_prefix q p)
allows_all p q AllowAll = true

-- ---- a script, beside which someone makes one plain call more

-- inserts an entry directly
pub data OrInserts (p m m' : List ℕ) : Type 0 where
  script : Step promised (says_no p) m m' → OrInserts p m m'
  inserts : (kind : ℕ) (given cwd : List ℕ) (r : Result ℕ) → Inserts Plain (alone m) kind given cwd (alone m') r → OrInserts p m m'

-- sets switches
pub data OrSwitches (p m m' : List ℕ) : Type 0 where
  script : Step promised (says_no p) m m' → OrSwitches p m m'
  switches : (v : ℕ) (r : Result ℕ) → SetsSwitches Plain (alone m) v (alone m') r → OrSwitches p m m'

-- ---- what `proofs/Needed.antt` shows

-- a path that is shut, and one step that opens it
pub record Opens (Next : List ℕ → List ℕ → List ℕ → Type 0) : Type 0 where
  pub p : List ℕ
  pub before : List ℕ
  pub after : List ℕ
  pub shut : Shut p before
  pub step : Next p before after
  pub opened : Open p after

-- so the path is not kept shut
abbrev pub Needed : (List ℕ → List ℕ → List ℕ → Type 0) → Type 0
Needed Next = Opens Next × (KeepsShut Next → ⊥)

pub record EachNeeded : Type 0 where
  pub never_prefix : Needed (λ p. Step promised (allows_above p))
  pub never_no_path : Needed (λ p. Step promised (allows_no_path p))
  pub never_all : Needed (λ p. Step promised (allows_all p))
  pub no_insert : Needed OrInserts
  pub no_switches : Needed OrSwitches
