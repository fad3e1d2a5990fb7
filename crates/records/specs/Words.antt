-- Words one after another: what stands at a place, where a reader is after it, and what a record or an image begins with. Scope, "Handover, at the top": a record is
-- read word after word from the lent words.
use Rattle.std.specs.Prelude.{ℕ, ◌+◌, ◌-◌, List, [], ◌∷◌, length, drop, Option, None, Some}
use Rattle.records.specs.declared.words.WordRead.{WordRead}
use Rattle.records.specs.declared.words.Reader.{Reader}
use Rattle.records.specs.declared.words.Front.{Front}

-- what words begin with
unfoldable pub first_word : List ℕ → Option ℕ
first_word [] = None
first_word (w ∷ ws) = Some w

-- the place behind it, for words from `at` on; at the end the place stays
unfoldable pub behind_first : List ℕ → ℕ → ℕ
behind_first [] at = at
behind_first (w ∷ ws) at = at + 1

abbrev pub read_at : List ℕ → ℕ → WordRead
read_at ws at = record { word = first_word (drop at ws); at = behind_first (drop at ws) at }

-- a reader once its next word is read: its words stay, and it stands behind that word
abbrev pub past : Reader → Reader
past r = record { words = r.words; at = (read_at r.words.now r.at).at }

-- three words from `from` on, the place behind them, and how many words are left there
abbrev pub front_at : List ℕ → ℕ → Front
front_at ws from =
    let run = read_at ws from in
    let head = read_at ws run.at in
    let next = read_at ws head.at in
    record { run = run.word; head = head.word; next = next.word; at = next.at; left = length ws - next.at }
