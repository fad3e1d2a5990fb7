-- The claim is not empty: a script against an operator who says no, on a list in no order and with a duplicate, and a yes. Scope, "The operator against the script".
use Rattle.std.specs.Prelude.{ℕ, ◌≡◌, List, [], ◌∷◌, ◌++◌, Bool, true, false, Ok, Err}
use Rattle.refusals.specs.declared.Refusal.TheVariants.{EmptyPath}
use Rattle.refusals.specs.Refusals.{Result}
use Rattle.paths.specs.declared.Descriptor.{Descriptor}
use Rattle.paths.specs.declared.Descriptor.TheVariants.{NoPath, Path}
use Rattle.table.specs.declared.Kind.TheVariants.{G, D}
use Rattle.table.specs.Tables.{Table}
use Rattle.table.specs.Memory.{table_of}
use Rattle.link.specs.declared.Link.{Link}
use Rattle.link.specs.declared.Link.TheVariants.{Plain, Linked}
use Rattle.walk.specs.declared.PermissionState.{PermissionState}
use Rattle.walk.specs.declared.PermissionState.TheVariants.{Granted, Prompt, Denied}
use Rattle.walk.specs.Cases.{bytes, entry}
use Rattle.calls.specs.Calls.{answered, told, revoked_answer}
use Rattle.deciding.specs.declared.Call.{Call}
use Rattle.deciding.specs.declared.Call.TheVariants.{Check, Request}
use Rattle.operator.specs.Operator.{
  Shut,
  Operator,
  says_no,
  promised,
  Step,
  queries,
  asks,
  revokes,
  Script,
  start,
  then_call,
  Allowed,
}

-- ---- the calls of a script, with what each is handed, whether it asked, and what it answers

pub data Line : Type 0 where
  querying : ℕ → Descriptor → List ℕ → Result PermissionState → Line
  asking : Link → Call → Descriptor → List ℕ → ℕ → Bool → Result PermissionState → Line
  revoking : Link → Descriptor → List ℕ → Result PermissionState → Line

unfoldable pub line_of : {operator : Operator} {m m' : List ℕ} → Step promised operator m m' → Line
line_of (queries mode a r promise same) = querying mode a.descriptor a.given r
line_of (asks call link n w s a response n' w' s' r promise allowed) = asking link call a.descriptor a.given response (told r) (answered r)
line_of (revokes link n w a n' w' r promise) = revoking link a.descriptor a.given (revoked_answer r)

unfoldable pub lines : {operator : Operator} {m m' : List ℕ} → Script (Step promised operator) m m' → List Line
lines start = []
lines (then_call script step) = lines script ++ line_of step ∷ []

-- ---- a script

-- the scope's list of five, in which `G/z/b` stands first and last, and the operator may be asked
abbrev pub five : Table
five = record { entries = entry G "/z/b" ∷ entry D "/z" ∷ entry G "/c" ∷ entry G "/d" ∷ entry G "/z/b" ∷ []; switches = 16; marks = 1 }

-- A script tries to open `/a/b`. It asks for what lies above it and for the path itself, and is denied; for a path beside it and for one below it, and is allowed;
-- it hands in AllowAll (2) where it is refused, and where nobody is asked; and it revokes, by a path and all.
abbrev pub calls : List Line
calls =
    asking Plain Request Path (bytes "/a") 0 true (Ok Denied)
    ∷ asking Plain Check Path (bytes "/a/b") 0 true (Ok Denied)
    ∷ asking Plain Request Path (bytes "/e") 1 true (Ok Granted)
    ∷ asking Plain Request Path [] 2 false (Err EmptyPath)
    ∷ asking (Linked 1) Request NoPath [] 2 false (Ok Denied)
    ∷ asking (Linked 1) Check Path (bytes "/a/b/c") 1 true (Ok Granted)
    ∷ revoking (Linked 1) Path (bytes "/e") (Ok Prompt)
    ∷ revoking Plain NoPath [] (Ok Denied)
    ∷ querying 1 Path (bytes "/a/b") (Ok Denied)
    ∷ []

pub record Witness : Type 0 where
  pub before : List ℕ
  pub table : table_of before ≡ five
  pub shut : Shut (bytes "/a/b") before
  pub after : List ℕ
  pub script : Script (Step promised (says_no (bytes "/a/b"))) before after
  pub made : lines script ≡ calls
  -- a yes for another path on the same table
  pub yes : List ℕ
  pub allowed : Allowed promised (bytes "/e") before yes
