-- The operator against the script, proved: from single calls to runs of them.
use Rattle.std.specs.Prelude.{Ok}
use Prim.Native.Nat.{ℕ}
use mathlib.Core.Path.{◌≡◌, sym, subst}
use mathlib.Core.List.{List}
use mathlib.Core.Bool.{true}
use Rattle.refusals.specs.Refusals.{and_then}
use Rattle.paths.specs.declared.Descriptor.TheVariants.{Path}
use Rattle.paths.specs.Giving.{resolved, given}
use Rattle.table.specs.Memory.{table_of, holds}
use Rattle.table.proofs.CallLaws.{a-table}
use Rattle.walk.specs.declared.AllowPartial.TheVariants.{TreatAsPartialGranted}
use Rattle.walk.specs.Walk.{mode_number, mode_of, known_mode}
use Rattle.walk.specs.Calls.{query_call}
use Rattle.operator.specs.Operator.{
  state_of,
  Shut,
  Open,
  says_no,
  promised,
  Step,
  queries,
  asks,
  revokes,
  Script,
  start,
  then_call,
  Allowed,
  allowed,
  OperatorAgainstScript,
}
use Rattle.operator.proofs.CallLaws.{ask-shut, ask-open, revoke-shut}

step-shut : {p m m' : List ℕ} → Step promised (says_no p) m m' → Shut p m → Shut p m'
step-shut {p} (queries mode a r e same) S = subst (Shut p) (sym same) S
step-shut (asks call link n w s a response n' w' s' r A f) S = ask-shut A f S
step-shut (revokes link n w a n' w' r R) S = revoke-shut R S

script-shut : {p m m' : List ℕ} → Script (Step promised (says_no p)) m m' → Shut p m → Shut p m'
script-shut start S = S
script-shut (then_call R C) S = step-shut C (script-shut R S)

allowed-open : {p m m' : List ℕ} → Allowed promised p m m' → Open p m'
allowed-open (allowed call link n w s given cwd response n' w' s' r A Y) = ask-open A Y

query-seen : (p m given cwd : List ℕ) → holds m ≡ true → resolved given cwd ≡ Ok p
    → query_call m (mode_number TreatAsPartialGranted) Path given cwd ≡ Ok (state_of (table_of m) p)
unfolding query_call and_then mode_of known_mode given
query-seen p m given cwd h e = rw (a-table m h, e)

pub operator-against-script : OperatorAgainstScript
operator-against-script = record { no = λ p m m'. script-shut; yes = λ p m m'. allowed-open; seen = query-seen }
