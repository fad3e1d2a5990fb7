-- A record as the code has it: the words that writing leaves, what reading answers, and the lent space after it.
use Rattle.std.specs.Prelude.{ℕ, ◌+◌, ◌≡◌, List, [], length, Option, None, Some}
use Rattle.paths.specs.Copying.{begun}
use Rattle.table.specs.Acts.{Act}
use Rattle.table.specs.Carrying.{action_of}
use Rattle.records.specs.declared.Record.{Record}
use Rattle.records.specs.Records.{Change, Read, act_path, change_words}

-- ---- writing

-- the record of an act of a run under a number; with no act there is none
unfoldable pub record_words : ℕ → ℕ → Option Act → List ℕ
record_words run number None = []
record_words run number (Some act) = change_words (record { run = run; number = number; act = act })

-- ---- reading

-- a record that was read from `from` on: its run, its number, its act, its path's length, and where the words behind it begin
unfoldable pub record_answer : ℕ → Option (Read Change) → Option Record
record_answer from None = None
record_answer from (Some r) =
    Some (record {
      run = r.value.run;
      number = r.value.number;
      action = action_of (Some r.value.act);
      size = length (act_path r.value.act);
      end = from + length (change_words r.value);
    })

-- its path stands from the space's start, and no more of the space is written; malformed words leave it as it was
unfoldable pub record_into : Option (Read Change) → List ℕ → List ℕ
record_into None space = space
record_into (Some r) space = begun (act_path r.value.act) space

pub record ReadsRecord (from : ℕ) (first : Option (Read Change)) (space : List ℕ) (r : Option Record) (after : List ℕ) : Type 0 where
  pub answer : r ≡ record_answer from first
  pub bytes : after ≡ record_into first space
