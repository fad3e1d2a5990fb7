-- What a call leaves of what is lent: its acts are done; if it is linked, they are numbered on from the main's number, and their records, of the run that
-- it was handed, stand at the start of the record space. Scope, "Handover, at the top", and "A main that starts over".
use Rattle.std.specs.Prelude.{ℕ, ◌+◌, ◌≡◌, List, [], length, Ok, Err}
use Rattle.refusals.specs.Refusals.{Result, cause_of}
use Rattle.paths.specs.Copying.{begun}
use Rattle.table.specs.Acts.{Act}
use Rattle.table.specs.Memory.{do_acts}
use Rattle.records.specs.Records.{Change, numbered, all_words}
use Rattle.link.specs.declared.Link.{Link}
use Rattle.link.specs.declared.Link.TheVariants.{Plain, Linked}
use Rattle.link.specs.Linking.{single_act}

-- the changes that acts are recorded as: a plain call records none
unfoldable pub changes_of : Link → ℕ → List Act → List Change
changes_of Plain n acts = []
changes_of (Linked run) n acts = numbered run n acts

-- what a call is lent and changes: memory with a table, the main's change number, and the record space
pub record Lent : Type 0 where
  pub memory : List ℕ
  pub number : ℕ
  pub words : List ℕ

abbrev pub lent : List ℕ → ℕ → List ℕ → Lent
lent m n w = record { memory = m; number = n; words = w }

-- a plain call is lent memory alone: it changes neither number nor words, and does not look at them
abbrev pub alone : List ℕ → Lent
alone m = lent m 0 []

-- what is lent, l, becomes l' by acts; k words hold the records
pub record Sends (link : Link) (acts : List Act) (l l' : Lent) (k : ℕ) : Type 0 where
  pub memory : l'.memory ≡ do_acts l.memory acts
  pub number : l'.number ≡ l.number + length (changes_of link l.number acts)
  pub words : l'.words ≡ begun (all_words (changes_of link l.number acts)) l.words
  pub count : k ≡ length (all_words (changes_of link l.number acts))

-- how many words hold the records, by what a call answers: none where it is refused
abbrev pub sent_words : Result ℕ → ℕ
sent_words (Ok k) = k
sent_words (Err cause) = 0

-- what a call answers that makes one act unless it is refused
pub record Does (link : Link) (call : Result Act) (l l' : Lent) (r : Result ℕ) : Type 0 where
  pub outcome : cause_of r ≡ cause_of call
  pub sends : Sends link (single_act call) l l' (sent_words r)
