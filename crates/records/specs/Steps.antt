-- Steps of reading a record: what a word says, the bytes that words hold, a path, and the act of a head that takes one.
use Rattle.std.specs.Prelude.{ℕ, zero, suc, ◌+◌, ◌/◌, ◌≡◌, List, [], ◌∷◌, cond, length, eqb, Option, None, Some}
use Rattle.paths.specs.Copying.{begun}
use Rattle.table.specs.declared.Kind.TheVariants.{G, D, P, I}
use Rattle.table.specs.Acts.{Act, revoke}
use Rattle.records.specs.declared.PathRead.{PathRead}
use Rattle.records.specs.Records.{Read, path_words, is_run_word, is_length, is_switches, kind_of_word, low_of_word, insert_of, first, second, third, read_path}

-- ---- words that say a number

-- what stands below the kind of a word of that kind
abbrev pub low_of : ℕ → Option ℕ → Option ℕ
low_of kind None = None
low_of kind (Some w) = cond (eqb (kind_of_word w) kind) (Some (low_of_word w)) None

-- the run that a word says, if it says one
unfoldable pub run_of : Option ℕ → Option ℕ
run_of None = None
run_of (Some w) = cond (is_run_word w) (Some (low_of_word w)) None

-- the length that a word says, if it says one
unfoldable pub length_of : Option ℕ → Option ℕ
length_of None = None
length_of (Some w) = cond (is_length w) (Some (low_of_word w)) None

-- the switches that a word says, if it says some
unfoldable pub switches_of : Option ℕ → Option ℕ
switches_of None = None
switches_of (Some w) = cond (is_switches w) (Some (low_of_word w)) None

-- ---- a path's words by their places

-- three bytes to a word
abbrev pub words_for : ℕ → ℕ
words_for n = (n + 2) / 3

-- the bytes that words hold, whatever their kinds
unfoldable pub word_bytes : List ℕ → List ℕ
word_bytes [] = []
word_bytes (w ∷ ws) = first w ∷ second w ∷ third w ∷ word_bytes ws

-- ---- reading a path

-- the path whose length a word says, from the words behind that word
unfoldable pub path_behind : Option ℕ → List ℕ → Option (Read (List ℕ))
path_behind None ws = None
path_behind (Some w) ws = read_path (w ∷ ws)

-- a path whose words begin at `at`: its length, and where the words behind it begin
unfoldable pub path_answer : ℕ → Option (Read (List ℕ)) → Option PathRead
path_answer at None = None
path_answer at (Some r) = Some (record { size = length r.value; end = at + length (path_words r.value) })

-- it stands from the space's start, or the space is as it was
unfoldable pub path_into : Option (Read (List ℕ)) → List ℕ → List ℕ
path_into None space = space
path_into (Some r) space = begun r.value space

pub record ReadsPath (at : ℕ) (path : Option (Read (List ℕ))) (space : List ℕ) (r : Option PathRead) (after : List ℕ) : Type 0 where
  pub answer : r ≡ path_answer at path
  pub bytes : after ≡ path_into path space

-- ---- an act that takes a path

-- the act of a head that takes a path: 1 to 4 insert, and the other one, 6, revokes
unfoldable pub path_act : ℕ → List ℕ → Act
path_act zero = revoke
path_act (suc zero) = insert_of G
path_act (suc (suc zero)) = insert_of D
path_act (suc (suc (suc zero))) = insert_of I
path_act (suc (suc (suc (suc zero)))) = insert_of P
path_act (suc (suc (suc (suc (suc n))))) = revoke
