-- Laws of writing an image: the words of an entry, how many words are still to come, and entries written one behind the other.
use Prim.Native.Nat.{ℕ, ◌+◌, ◌≤◌}
use mathlib.Core.Path.{◌≡◌, refl, sym, ap, ◌∙◌}
use mathlib.Core.List.{List, [], ◌∷◌}
use mathlib.Core.Bool.{true}
use native.Mathlib.Omega.{arith}
use lib.ListN.{length, set}
use Rattle.paths.specs.Copying.{overwrite, begun, Appends}
use Rattle.paths.specs.Resolving.{max_path}
use Rattle.table.specs.Entries.{Entry}
use Rattle.table.specs.Tables.{Table, is_entry, is_table}
use Rattle.table.proofs.Overwrites.{over-sets, over-above, appends-none, appends-as, appends-more}
use Rattle.records.specs.Steps.{words_for}
use Rattle.records.proofs.RecordLaws.{path-short}
use Rattle.records.proofs.ReadingLaws.{over-start}
use Rattle.records.proofs.WritingLaws.{three-before}
use Rattle.images.specs.Images.{image_head, entry_words, all_entry_words, image_size, max_image}
use Rattle.images.proofs.ImageLaws.{entry_length, size-more, few_words}

-- a word stored before others
pub one-before : (m : List ℕ) (at a : ℕ) (s : List ℕ) → at + 1 ≤ length m → overwrite (set m at a) (at + 1) s ≡ overwrite m at (a ∷ s)
one-before m at a s h = rw (over-sets (a ∷ []) m at h) (over-above m at (a ∷ []) s h)

-- the path of an entry of a table is within its limit
pub path-fits : (e : Entry) → is_entry e ≡ true → length e.path ≤ max_path
unfolding is_entry
path-fits e ok = path-short e.path ok

-- ---- how many words are still to come

pub record Counting (t : Table) (size : ℕ) (left : List Entry) : Type 0 where
  pub goes : size + length (all_entry_words left) ≡ image_size t
  pub most : image_size t ≤ max_image

pub counting-start : (t : Table) {left : List Entry} → is_table t ≡ true → left ≡ t.entries → Counting t image_head left
unfolding image_size
counting-start t h e = record { goes = rw e; most = few_words t h }

module _ {t : Table} {size : ℕ} {e : Entry} {left rest : List Entry} (C : Counting t size left) (next : left ≡ e ∷ rest) where
  more : length (all_entry_words left) ≡ 1 + words_for (length e.path) + length (all_entry_words rest)
  more = ap (λ (es : List Entry). length (all_entry_words es)) next ∙ size-more e rest

  pub counting-next : {n : ℕ} → n ≡ words_for (length e.path) → Counting t (size + (1 + n)) rest
  counting-next n = record { goes = omega (arith, C.goes, more); most = C.most }

pub counting-done : {t : Table} {size : ℕ} {left : List Entry} → Counting t size left → left ≡ [] → (size ≡ image_size t) × (size ≤ max_image)
unfolding all_entry_words
counting-done {left = left} C e =
    let none : length (all_entry_words left) ≡ 0 = rw e in
    (omega (arith, C.goes), omega (arith, C.goes, C.most))

-- ---- entries written one behind the other

-- whatever writing the entries that are left comes to, writing all of them comes to that
pub record Writing (t : Table) (w w' : List ℕ) (at : ℕ) (left : List Entry) : Type 0 where
  pub goes : {w'' : List ℕ} {end : ℕ} → Appends (all_entry_words left) w' at w'' end → Appends (all_entry_words t.entries) w image_head w'' end
  pub room : at + length (all_entry_words left) ≤ length w'
  pub same : length w' ≡ length w

pub writing_start : (t : Table) (w : List ℕ) {left : List Entry} → image_size t ≤ length w → left ≡ t.entries → Writing t w w image_head left
unfolding image_size
writing_start t w long e = record { goes = λ A. appends-as (ap all_entry_words e) A; room = rw e (omega arith); same = refl }

module _ {t : Table} {w w' : List ℕ} {at : ℕ} {left : List Entry} (W : Writing t w w' at left) where
  module _ {e : Entry} {rest : List Entry} (next : left ≡ e ∷ rest) where
    words_more : length (all_entry_words left) ≡ length (entry_words e) + length (all_entry_words rest)
    words_more = ap (λ (es : List Entry). length (all_entry_words es)) next ∙ size-more e rest ∙ rw (entry_length e)

    pub writing-fits : at + length (entry_words e) ≤ length w'
    writing-fits = omega (arith, W.room, words_more)

    pub writing-next : {w'' : List ℕ} {at' : ℕ} → Appends (entry_words e) w' at w'' at' → length w'' ≡ length w' → Writing t w w'' at' rest
    unfolding all_entry_words
    writing-next A same = record {
      goes = λ B. W.goes (appends-as (ap all_entry_words (sym next)) (appends-more writing-fits A B));
      room = omega (arith, W.room, words_more, A.end, same);
      same = same ∙ W.same;
    }

  -- and the words of run, number and table before them
  pub writing-done : (v : List ℕ) (run number table : ℕ) → left ≡ [] → w ≡ set (set (set v 0 run) 1 number) 2 table → image_head ≤ length v
      → w' ≡ begun (run ∷ number ∷ table ∷ all_entry_words t.entries) v
  unfolding all_entry_words
  writing-done v run number table none e three =
      let A = W.goes (appends-as (ap all_entry_words (sym none)) (appends-none w' at)) in
      A.content
      ∙ ap (λ (x : List ℕ). overwrite x image_head (all_entry_words t.entries)) e
      ∙ three-before v 0 run number table (all_entry_words t.entries) three
      ∙ over-start v (run ∷ number ∷ table ∷ all_entry_words t.entries)
