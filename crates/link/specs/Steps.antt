-- Steps of a call that may be linked: an act that is carried out and, where the call is linked, recorded.
use Rattle.std.specs.Prelude.{ℕ, ◌+◌, ◌≤◌, ◌≡◌, List, Bool, true, false, cond, length, Option, None, Some, Ok, Err}
use Rattle.refusals.specs.declared.Refusal.{Refusal}
use Rattle.refusals.specs.declared.Refusal.TheVariants.{TableFull, NumbersUsedUp}
use Rattle.refusals.specs.Refusals.{Result, unless}
use Rattle.paths.specs.Copying.{Appends}
use Rattle.table.specs.Tables.{Table}
use Rattle.table.specs.Acts.{Act, act_overflows}
use Rattle.table.specs.Memory.{table_of, do_acts}
use Rattle.table.specs.Carrying.{acts_of}
use Rattle.records.specs.Numbers.{is_run, record_space}
use Rattle.records.specs.Records.{all_words}
use Rattle.link.specs.declared.Link.{Link}
use Rattle.link.specs.declared.Link.TheVariants.{Linked}
use Rattle.link.specs.declared.ImageSent.{ImageSent}
use Rattle.link.specs.Linking.{lacks_room, lacks_run, numbering, carry_cause}
use Rattle.link.specs.Sending.{changes_of, Lent}

unfoldable pub is_none : Option Act → Bool
is_none None = true
is_none (Some act) = false

-- the link's tests of a call of k items are passed
pub record Admits (k : ℕ) (link : Link) (w : List ℕ) : Type 0 where
  pub roomy : lacks_room k link w ≡ false
  pub run : lacks_run link ≡ false

-- a linked call has a known run, and room for a record from `at` on
pub record Ready (link : Link) (w : List ℕ) (at : ℕ) : Type 0 where
  pub known : (run : ℕ) → link ≡ Linked run → is_run run ≡ true
  pub room : (run : ℕ) → link ≡ Linked run → at + record_space ≤ length w

-- what an act comes to where no number is left
unfoldable pub no_number : Table → Option Act → Result Unit
no_number t None = Ok tt
no_number t (Some act) = cond (act_overflows t act) (Err TableFull) (Err NumbersUsedUp)

-- acts are recorded, if the call is linked, from `at` on; their records end at r
pub record Records (link : Link) (acts : List Act) (n : ℕ) (w : List ℕ) (at n' : ℕ) (w' : List ℕ) (r : ℕ) : Type 0 where
  pub number : n' ≡ n + length (changes_of link n acts)
  pub words : Appends (all_words (changes_of link n acts)) w at w' r

-- one act of a run, if there is one
pub record SendsAt (act : Option Act) (run n : ℕ) (w : List ℕ) (at n' : ℕ) (w' : List ℕ) (r : ℕ) : Type 0 where
  pub records : Records (Linked run) (acts_of None act) n w at n' w' r
  pub few : r ≤ at + record_space

abbrev pub refused_image : Refusal → ℕ → ImageSent
refused_image cause words = record { outcome = Err cause; words = words }

-- why an act on what is lent is refused, if it is
abbrev pub cause_on : Link → Lent → Option Act → Option Refusal
cause_on link l act = carry_cause (numbering link l.number) (table_of l.memory) act

-- an act is carried out and, if the call is linked, recorded from `at` on, to `end`; or refused by 8 or 9
pub record Performs (link : Link) (act : Option Act) (l : Lent) (at : ℕ) (l' : Lent) (r : Result ℕ) : Type 0 where
  pub end : ℕ
  pub answer : r ≡ unless (cause_on link l act) end
  pub memory : l'.memory ≡ do_acts l.memory (acts_of (cause_on link l act) act)
  pub records : Records link (acts_of (cause_on link l act) act) l.number l.words at l'.number l'.words end
  pub few : end ≤ at + record_space
