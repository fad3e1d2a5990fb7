-- What a standby holds after input of records, and where reading stopped. Scope, "Handover, at the top" (`holdlist`).
use Rattle.std.specs.Prelude.{ℕ, zero, suc, ◌+◌, ◌*◌, ◌-◌, ◌≡◌, List, Bool, true, false, ◌||◌, cond, length, drop, leb, Option, None, Some, Ok, Err}
use Rattle.refusals.specs.Refusals.{Result}
pub use Rattle.records.specs.Numbers.{record_space}
use Rattle.records.specs.Records.{Change, Read, change_words, read_first}
use Rattle.standby.specs.declared.Numbers.{Numbers}
use Rattle.standby.specs.declared.Arrival.{Arrival}
use Rattle.standby.specs.Arriving.{Left, arrival}
use Rattle.input.specs.Words.{words_of}
use Rattle.holdlist.specs.declared.Held.{Held}

-- ---- record after record

-- the standby so far, how many words it has taken of the input, and whether reading stopped after them
pub record Standing : Type 0 where
  pub memory : List ℕ
  pub numbers : Numbers
  pub words : ℕ
  pub stopped : Bool

-- reading stops at the record's first word
unfoldable pub stop : Standing → Standing
stop s = record { memory = s.memory; numbers = s.numbers; words = s.words; stopped = true }

-- a record of k words arrives; one that is refused ends reading
unfoldable pub after_arrival : Result Left → ℕ → Standing → Standing
after_arrival (Err cause) k s = stop s
after_arrival (Ok left) k s = record { memory = left.memory; numbers = left.numbers; words = s.words + k; stopped = false }

-- the record that the words begin with ends where its own act and length say; a malformed one ends reading
unfoldable pub after_record : Option (Read Change) → Standing → Standing
after_record None s = stop s
after_record (Some r) s = after_arrival (arrival s.memory (change_words r.value) s.numbers) (length (change_words r.value)) s

-- the input after what was taken; a broken word leaves no whole word, which is malformed
abbrev pub untaken : Standing → List ℕ → List ℕ
untaken s input = drop (4 * s.words) input

unfoldable pub after_next : Standing → List ℕ → Standing
after_next s input = after_record (read_first (words_of (untaken s input))) s

-- record after record, while more than `keep` bytes of the input are left; each turn takes one, so that the input's length is enough of them
unfoldable pub held_from : ℕ → ℕ → Standing → List ℕ → Standing
held_from keep zero s input = s
held_from keep (suc turns) s input =
    cond (s.stopped || leb (length (untaken s input)) keep) s (held_from keep turns (after_next s input) input)

-- a fresh standby's numbers
abbrev pub unnumbered : Numbers
unnumbered = record { n = 0; h = 0; run = 0; highest = 0 }

-- memory m and the numbers s before any of the input
abbrev pub beginning : List ℕ → Numbers → Standing
beginning m s = record { memory = m; numbers = s; words = 0; stopped = false }

-- all of the input
abbrev pub held : List ℕ → Numbers → List ℕ → Standing
held m s input = held_from 0 (length input) (beginning m s) input

-- ---- part by part

-- one byte less than the longest record has; where no more bytes than these are left of a part, the record there may go on in the next one
abbrev pub kept_bytes : ℕ
kept_bytes = 4 * record_space - 1

-- after w words of the input
unfoldable pub counted : ℕ → Standing → Standing
counted w s = record { memory = s.memory; numbers = s.numbers; words = w + s.words; stopped = s.stopped }

-- goes on with what is left of the part before and the next part after it, unless reading stopped; parts are as the whole: `in_parts`
unfoldable pub held_on : ℕ → Standing → List ℕ → Standing
held_on keep s input =
    cond s.stopped s (counted s.words (held_from keep (length input) (beginning s.memory s.numbers) input))

-- ---- as the code has it

-- what was held, once k words arrived with this answer and left these numbers
unfoldable pub held_arrived : Held → ℕ → Numbers → Result Arrival → Held
held_arrived held k n (Err cause) = record { numbers = held.numbers; words = held.words; stopped = true }
held_arrived held k n (Ok arrival) = record { numbers = n; words = held.words + k; stopped = false }

-- memory m and what was held
abbrev pub standing : List ℕ → Held → Standing
standing m r = record { memory = m; numbers = r.numbers; words = r.words; stopped = r.stopped }

-- memory m' and the answer r are the standing s
pub record Holds (s : Standing) (m' : List ℕ) (r : Held) : Type 0 where
  pub memory : m' ≡ s.memory
  pub numbers : r.numbers ≡ s.numbers
  pub words : r.words ≡ s.words
  pub stopped : r.stopped ≡ s.stopped
