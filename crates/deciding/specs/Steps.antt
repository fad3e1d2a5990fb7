-- What the functions inside the crate ensure, step by step; `Decisions.antt` and `Questions.antt` have what they come to.
use Rattle.std.specs.Prelude.{ℕ, ◌≤◌, ◌≡◌, List, length}
use Rattle.paths.specs.declared.Descriptor.{Descriptor}
use Rattle.paths.specs.declared.Descriptor.TheVariants.{Path}
use Rattle.paths.specs.Resolving.{max_path}
use Rattle.table.specs.Carrying.{act_of}
use Rattle.deciding.specs.declared.Decided.{Decided}
use Rattle.deciding.specs.Decisions.{Decision}
use Rattle.deciding.specs.Questions.{text_bytes}

-- what the code decided, with the path q lent beside it, is this decision
pub record Decides (decision : Decision) (q : List ℕ) (r : Decided) : Type 0 where
  pub state : r.state ≡ decision.state
  pub asked : r.asked ≡ decision.asked
  pub writes : r.writes ≡ decision.writes
  pub act : act_of r.action q ≡ decision.act

-- ---- texts

-- the space s is large enough for a text of what is given, with its resolved path
pub record HasText (d : Descriptor) (given resolved s : List ℕ) : Type 0 where
  pub room : text_bytes ≤ length s
  pub short : length resolved ≤ max_path
  pub brief : d ≡ Path → length given ≤ max_path
