-- As many words as the longest record has decide what the record is that words begin with.
use Rattle.std.specs.Prelude.{Some}
use Prim.Native.Nat.{ℕ}
use mathlib.Core.Path.{◌≡◌, sym, ap, ◌∙◌}
use mathlib.Core.List.{List, ◌++◌}
use lib.ListN.{length, take, drop, take-append-drop}
use lib.Seq.{take-append_seam, take-take}
use Rattle.records.specs.Numbers.{record_space}
use Rattle.records.specs.Records.{Change, Read, change_words, read_first}
use Rattle.records.proofs.RecordLaws.{read-first, few_words}
use Rattle.records.proofs.WrittenLaws.{written-first}

module _ (ws ws' : List ℕ) (same : take record_space ws ≡ take record_space ws') where
  -- the record that words begin with
  pub same_first : (r : Read Change) → read_first ws ≡ Some r
      → read_first ws' ≡ Some (record { value = r.value; rest = drop (length (change_words r.value)) ws' })
  same_first r e =
      let c = change_words r.value in
      let W = written-first ws r e in
      let few = few_words r.value W.readable.fits in
      let front : take (length c) ws' ≡ c =
      sym (take-take (length c) record_space ws' few) ∙ ap (take (length c)) (sym same) ∙ take-take (length c) record_space ws few
      ∙ ap (take (length c)) W.words ∙ take-append_seam c r.rest in
      ap read_first (sym (take-append-drop (length c) ws') ∙ ap (λ (l : List ℕ). l ++ drop (length c) ws') front)
      ∙ read-first r.value (drop (length c) ws') W.readable
