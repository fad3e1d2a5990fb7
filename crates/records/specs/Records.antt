-- Records: an act on the main's table with its run and its number, as 32-bit words, and back. Scope, "Handover, at the top", and "A main that starts over".
use Rattle.std.specs.Prelude.{ℕ, zero, suc, ◌+◌, ◌*◌, ◌/◌, ◌%◌, ◌≤◌, ◌≡◌, List, [], ◌∷◌, ◌++◌, Bool, true, false, ◌&&◌, cond, length, leb, eqb, Option, None, Some}
use Rattle.paths.specs.Components.{Bytes}
use Rattle.paths.specs.Resolving.{max_path, is_resolved}
use Rattle.table.specs.declared.Kind.{Kind}
use Rattle.table.specs.declared.Kind.TheVariants.{G, D, P, I}
use Rattle.table.specs.Tables.{max_switches}
use Rattle.table.specs.Acts.{Act, insert, set_switches, revoke, revoke_all, is_act}
use Rattle.records.specs.Numbers.{is_run, max_number}

-- a change: an act of the main with its run, and its number in that run
pub record Change : Type 0 where
  pub run : ℕ
  pub number : ℕ
  pub act : Act

-- ---- words: the top four bits are the kind, and unused bits are zero

abbrev pub head_kind : ℕ
head_kind = 1

abbrev pub length_kind : ℕ
length_kind = 2

abbrev pub path_kind : ℕ
path_kind = 3

abbrev pub switches_kind : ℕ
switches_kind = 4

abbrev pub run_kind : ℕ
run_kind = 8

-- below the four kind bits there are 28, and below a head's four act bits 24
abbrev pub kind_unit : ℕ
kind_unit = 268435456

abbrev pub act_unit : ℕ
act_unit = 16777216

abbrev pub word_of : ℕ → ℕ → ℕ
word_of kind low = kind * kind_unit + low

-- ---- act numbers: 1 insert G, 2 insert D, 3 insert I, 4 insert P, 5 switches, 6 revoke path, 7 revoke all. Kinds have another sequence, G, D, P, I.

abbrev pub insert_number : Kind → ℕ
insert_number G = 1
insert_number D = 2
insert_number I = 3
insert_number P = 4

unfoldable pub act_number : Act → ℕ
act_number (insert e) = insert_number e.kind
act_number (set_switches v) = 5
act_number (revoke q) = 6
act_number revoke_all = 7

-- ---- writing

-- a record, and an image, begins with the number of its run
abbrev pub run_word : ℕ → ℕ
run_word run = word_of run_kind run

abbrev pub head_word : ℕ → ℕ → ℕ
head_word act number = word_of head_kind (act * act_unit + number)

-- three bytes, first highest
abbrev pub path_word : ℕ → ℕ → ℕ → ℕ
path_word a b c = word_of path_kind (a * 65536 + b * 256 + c)

-- unused bytes of the last word are zero
unfoldable pub path_words : List ℕ → List ℕ
path_words [] = []
path_words (a ∷ []) = path_word a 0 0 ∷ []
path_words (a ∷ b ∷ []) = path_word a b 0 ∷ []
path_words (a ∷ b ∷ c ∷ p) = path_word a b c ∷ path_words p

-- length and path words
unfoldable pub path_part : List ℕ → List ℕ
path_part p = word_of length_kind (length p) ∷ path_words p

-- acts 1 to 4 and 6 take length and path words, act 5 a switches word, act 7 nothing
unfoldable pub act_part : Act → List ℕ
act_part (insert e) = path_part e.path
act_part (set_switches v) = word_of switches_kind v ∷ []
act_part (revoke q) = path_part q
act_part revoke_all = []

unfoldable pub change_words : Change → List ℕ
change_words c = run_word c.run ∷ head_word (act_number c.act) c.number ∷ act_part c.act

-- the changes that acts of a run make after number n
unfoldable pub numbered : ℕ → ℕ → List Act → List Change
numbered run n [] = []
numbered run n (a ∷ acts) = record { run = run; number = n + 1; act = a } ∷ numbered run (n + 1) acts

-- their words, one record behind the other
unfoldable pub all_words : List Change → List ℕ
all_words [] = []
all_words (c ∷ changes) = change_words c ++ all_words changes

-- ---- what can be recorded

-- an act's path, if it has one
unfoldable pub act_path : Act → List ℕ
act_path (insert e) = e.path
act_path (set_switches v) = []
act_path (revoke q) = q
act_path revoke_all = []

-- a change whose words read back as itself: `read_first`
pub record Readable (c : Change) : Type 0 where
  pub of_run : is_run c.run ≡ true
  pub above : 1 ≤ c.number
  pub few : c.number ≤ max_number
  pub fits : is_act c.act ≡ true
  pub bytes : Bytes (act_path c.act)

-- ---- reading, word after word

abbrev pub kind_of_word : ℕ → ℕ
kind_of_word w = w / kind_unit

abbrev pub low_of_word : ℕ → ℕ
low_of_word w = w % kind_unit

-- the act bits and the number of a head
abbrev pub act_bits : ℕ → ℕ
act_bits w = w / act_unit % 16

abbrev pub number_bits : ℕ → ℕ
number_bits w = w % act_unit

-- the three bytes of a path word
abbrev pub first : ℕ → ℕ
first w = w / 65536 % 256

abbrev pub second : ℕ → ℕ
second w = w / 256 % 256

abbrev pub third : ℕ → ℕ
third w = w % 256

-- a run number of 1 or more, in all 28 bits
unfoldable pub is_run_word : ℕ → Bool
is_run_word w = eqb (kind_of_word w) run_kind && leb 1 (low_of_word w)

-- a length of 1 to 1,024, and no other bit
unfoldable pub is_length : ℕ → Bool
is_length w = eqb (kind_of_word w) length_kind && leb 1 (low_of_word w) && leb (low_of_word w) max_path

-- the low five bits, and no other
unfoldable pub is_switches : ℕ → Bool
is_switches w = eqb (kind_of_word w) switches_kind && leb (low_of_word w) max_switches

-- three bytes, and no bit between the kind and them
unfoldable pub is_path_word : ℕ → Bool
is_path_word w = eqb (w / act_unit) (path_kind * 16)

-- what was read, and the words behind it; none is malformed
pub record Read (A : Type 0) : Type 0 where
  pub value : A
  pub rest : List ℕ

-- bytes of a word that is in order, before those that follow
unfoldable pub with_bytes : Bool → List ℕ → Option (Read (List ℕ)) → Option (Read (List ℕ))
with_bytes true p (Some r) = Some (record { value = p ++ r.value; rest = r.rest })
with_bytes true p None = None
with_bytes false p r = None

-- n bytes from path words; unused bytes of the last are zero
unfoldable pub bytes_from : ℕ → List ℕ → Option (Read (List ℕ))
bytes_from zero ws = Some (record { value = []; rest = ws })
bytes_from (suc n) [] = None
bytes_from (suc zero) (w ∷ ws) =
    with_bytes (is_path_word w && eqb (second w) 0 && eqb (third w) 0) (first w ∷ []) (bytes_from zero ws)
bytes_from (suc (suc zero)) (w ∷ ws) = with_bytes (is_path_word w && eqb (third w) 0) (first w ∷ second w ∷ []) (bytes_from zero ws)
bytes_from (suc (suc (suc n))) (w ∷ ws) = with_bytes (is_path_word w) (first w ∷ second w ∷ third w ∷ []) (bytes_from n ws)

-- a path not in resolved form is malformed
unfoldable pub if_resolved : Option (Read (List ℕ)) → Option (Read (List ℕ))
if_resolved None = None
if_resolved (Some r) = cond (is_resolved r.value) (Some r) None

-- length and path words
unfoldable pub read_path : List ℕ → Option (Read (List ℕ))
read_path [] = None
read_path (w ∷ ws) = cond (is_length w) (if_resolved (bytes_from (low_of_word w) ws)) None

unfoldable pub with_path : (List ℕ → Act) → Option (Read (List ℕ)) → Option (Read Act)
with_path act None = None
with_path act (Some r) = Some (record { value = act r.value; rest = r.rest })

unfoldable pub read_switches : List ℕ → Option (Read Act)
read_switches [] = None
read_switches (w ∷ ws) = cond (is_switches w) (Some (record { value = set_switches (low_of_word w); rest = ws })) None

abbrev pub insert_of : Kind → List ℕ → Act
insert_of kind p = insert (record { kind = kind; path = p })

-- what must follow a head, by its act number; above 7 there is none
unfoldable pub read_act : ℕ → List ℕ → Option (Read Act)
read_act zero ws = None
read_act (suc zero) ws = with_path (insert_of G) (read_path ws)
read_act (suc (suc zero)) ws = with_path (insert_of D) (read_path ws)
read_act (suc (suc (suc zero))) ws = with_path (insert_of I) (read_path ws)
read_act (suc (suc (suc (suc zero)))) ws = with_path (insert_of P) (read_path ws)
read_act (suc (suc (suc (suc (suc zero))))) ws = read_switches ws
read_act (suc (suc (suc (suc (suc (suc zero)))))) ws = with_path revoke (read_path ws)
read_act (suc (suc (suc (suc (suc (suc (suc zero))))))) ws = Some (record { value = revoke_all; rest = ws })
read_act (suc (suc (suc (suc (suc (suc (suc (suc n)))))))) ws = None

-- no record has number 0
unfoldable pub with_number : ℕ → ℕ → Option (Read Act) → Option (Read Change)
with_number run zero r = None
with_number run (suc n) None = None
with_number run (suc n) (Some r) = Some (record { value = record { run = run; number = suc n; act = r.value }; rest = r.rest })

-- what follows the run word: a head, and what its act takes
unfoldable pub read_head : ℕ → List ℕ → Option (Read Change)
read_head run [] = None
read_head run (w ∷ ws) = cond (eqb (kind_of_word w) head_kind) (with_number run (number_bits w) (read_act (act_bits w) ws)) None

-- the record that words begin with; it ends where its own act and length say. Without its run word it is malformed
unfoldable pub read_first : List ℕ → Option (Read Change)
read_first [] = None
read_first (w ∷ ws) = cond (is_run_word w) (read_head (low_of_word w) ws) None

unfoldable pub ended_by : Change → List ℕ → Option Change
ended_by c [] = Some c
ended_by c (w ∷ ws) = None

unfoldable pub ended : Option (Read Change) → Option Change
ended None = None
ended (Some r) = ended_by r.value r.rest

-- the change that words are: its record must end where they end
unfoldable pub read_change : List ℕ → Option Change
read_change words = ended (read_first words)
