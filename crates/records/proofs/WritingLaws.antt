-- Laws of writing a record: stores that are one sequence of words, and the words of each action.
use Rattle.std.specs.Prelude.{Option, None, Some, option_map, ◌⊎◌}
use Rattle.std.proofs.Common.{inl, inr}
use Rattle.refusals.proofs.CauseLaws.{Some-injective}
use Prim.Native.Nat.{ℕ, ◌+◌, ◌≤◌}
use mathlib.Core.Path.{◌≡◌, refl, ap}
use mathlib.Core.List.{List, [], ◌∷◌}
use mathlib.Core.Bool.{true}
use native.Mathlib.Numerals.{towards_suc}
use lib.ListN.{length, set}
use Rattle.paths.specs.Copying.{overwrite}
use Rattle.paths.specs.Resolving.{max_path}
use Rattle.table.specs.declared.Kind.{Kind}
use Rattle.table.specs.declared.Action.{Action}
use Rattle.table.specs.declared.Action.TheVariants.{Nothing, Insert, SetSwitches, Revoke, RevokeAll}
use Rattle.table.specs.Tables.{is_entry}
use Rattle.table.specs.Acts.{Act, is_act}
use Rattle.table.specs.Carrying.{act_of, fits}
use Rattle.table.proofs.Overwrites.{over-sets, over-above}
use Rattle.records.specs.Records.{switches_kind, word_of, act_number, run_word, head_word, path_part, act_part, change_words}
use Rattle.records.specs.Answers.{record_words}
use Rattle.records.proofs.RecordLaws.{path-short}

-- words stored one by one, and the same with more words behind them
pub two-stores : (m : List ℕ) (at a b : ℕ) → at + 2 ≤ length m → set (set m at a) (at + 1) b ≡ overwrite m at (a ∷ b ∷ [])
two-stores m at a b h = simp towards_suc (over-sets (a ∷ b ∷ []) m at h)

pub three-stores : (m : List ℕ) (at a b c : ℕ) → at + 3 ≤ length m → set (set (set m at a) (at + 1) b) (at + 2) c ≡ overwrite m at (a ∷ b ∷ c ∷ [])
three-stores m at a b c h = simp towards_suc (over-sets (a ∷ b ∷ c ∷ []) m at h)

pub three-before : (m : List ℕ) (at a b c : ℕ) (s : List ℕ) → at + 3 ≤ length m
    → overwrite (set (set (set m at a) (at + 1) b) (at + 2) c) (at + 3) s ≡ overwrite m at (a ∷ b ∷ c ∷ s)
three-before m at a b c s h = rw (three-stores m at a b c h) (over-above m at (a ∷ b ∷ c ∷ []) s h)

-- ---- the words of each action

-- an action that takes a path
abbrev pub WithPath : Action → Type 0
WithPath action = ((k : Kind) × (action ≡ Insert k)) ⊎ (action ≡ Revoke)

no-act : (o : Option Act) → None ≡ option_map act_number o → o ≡ None
no-act None e = refl
no-act (Some act) e = cc

with-number : (run number : ℕ) (l : List ℕ) {k j : ℕ} → Some k ≡ Some j → run_word run ∷ head_word k number ∷ l ≡ run_word run ∷ head_word j number ∷ l
with-number run number l e = ap (λ (x : ℕ). run_word run ∷ head_word x number ∷ l) (Some-injective _ _ e)

module _ (action : Action) (q : List ℕ) where
  -- its path is within its limit
  pub fits-short : WithPath action → fits (act_of action q) ≡ true → length q ≤ max_path
  unfolding act_of fits is_act is_entry
  fits-short (inl k) ok = path-short q (rw k.1 at ok)
  fits-short (inr e) ok = path-short q (rw e at ok)

  module _ (run number : ℕ) where
    pub no-record : None ≡ option_map act_number (act_of action q) → [] ≡ record_words run number (act_of action q)
    unfolding record_words
    no-record e = rw (no-act (act_of action q) e)

    module _ {k : ℕ} (n : Some k ≡ option_map act_number (act_of action q)) where
      pub path-record : WithPath action → run_word run ∷ head_word k number ∷ path_part q ≡ record_words run number (act_of action q)
      unfolding act_of record_words change_words act_number act_part
      path-record (inl i) = rw i.1 (with-number run number (path_part q) (rw i.1 at n))
      path-record (inr e) = rw e (with-number run number (path_part q) (rw e at n))

      pub switches-record : {v : ℕ} → action ≡ SetSwitches v
          → run_word run ∷ head_word k number ∷ word_of switches_kind v ∷ [] ≡ record_words run number (act_of action q)
      unfolding act_of record_words change_words act_number act_part
      switches-record {v} e = rw e (with-number run number (word_of switches_kind v ∷ []) (rw e at n))

      pub alone-record : (action ≡ RevokeAll) ⊎ (action ≡ Nothing) → run_word run ∷ head_word k number ∷ [] ≡ record_words run number (act_of action q)
      unfolding act_of record_words change_words act_number act_part
      alone-record (inl e) = rw e (with-number run number [] (rw e at n))
      alone-record (inr e) = let no : Some k ≡ None = rw e at n in cc
