-- What is written reads back as itself, whatever words follow, and a record has at most as many words as its space.
use Rattle.std.specs.Prelude.{Some}
use Prim.Native.Nat.{ℕ, zero, suc, ◌+◌, ◌/◌, ◌≤◌, ◌<◌}
use mathlib.Core.Path.{◌≡◌, refl, sym, ap, ◌∙◌}
use mathlib.Core.List.{List, [], ◌∷◌, ◌++◌, append-nil}
use mathlib.Core.Bool.{true, false≢true}
use native.Mathlib.Omega.{arith}
use lib.ListN.{length}
use lib.Dec.{leb}
use borrow.Author.Tests.{eq-eqb, le-leb, leb-true}
use Rattle.paths.specs.Components.{Bytes, same, pieces, spell}
use Rattle.paths.specs.Resolving.{max_path, is_resolved, normalize, enter_all, entered}
use Rattle.paths.specs.Giving.{is_path}
use Rattle.paths.proofs.ByteLaws.{bytes-head, bytes-tail}
use Rattle.paths.proofs.ComponentLaws.{and_left, and_right}
use Rattle.table.specs.declared.Kind.{Kind}
use Rattle.table.specs.declared.Kind.TheVariants.{G, D, P, I}
use Rattle.table.specs.Tables.{max_switches, is_entry}
use Rattle.table.specs.Acts.{Act, insert, set_switches, revoke, revoke_all, is_act}
use Rattle.records.specs.Numbers.{max_run, is_run, record_space}
use Rattle.records.specs.Records.{
  Change,
  head_kind,
  length_kind,
  switches_kind,
  run_kind,
  act_unit,
  word_of,
  insert_number,
  act_number,
  run_word,
  head_word,
  path_word,
  path_words,
  path_part,
  act_part,
  change_words,
  numbered,
  all_words,
  act_path,
  Readable,
  kind_of_word,
  low_of_word,
  act_bits,
  number_bits,
  first,
  second,
  third,
  is_run_word,
  is_length,
  is_switches,
  is_path_word,
  with_bytes,
  bytes_from,
  if_resolved,
  read_path,
  with_path,
  read_switches,
  insert_of,
  read_act,
  with_number,
  read_head,
  read_first,
  ended_by,
  ended,
  read_change,
}
use Rattle.records.specs.Steps.{words_for}

-- ---- a run word reads back

module _ (run : ℕ) (ok : is_run run ≡ true) where
  pub run-few : run ≤ max_run
  unfolding is_run
  run-few = leb-true run max_run (and_right (leb 1 run) _ ok)

  pub run-low : low_of_word (run_word run) ≡ run
  run-low = omega (arith, run-few)

  pub word-run : is_run_word (run_word run) ≡ true
  unfolding is_run_word is_run
  word-run = rw (run-low, eq-eqb (kind_of_word (run_word run)) run_kind (omega (arith, run-few)), and_left (leb 1 run) _ ok)

-- ---- path words read back

module _ (a b c : ℕ) (ha : a < 256) (hb : b < 256) (hc : c < 256) where
  word-path : is_path_word (path_word a b c) ≡ true
  unfolding is_path_word
  word-path = eq-eqb (path_word a b c / act_unit) 48 (omega arith)

  pub word_first : first (path_word a b c) ≡ a
  word_first = omega arith

  pub word-second : second (path_word a b c) ≡ b
  word-second = omega arith

  pub word-third : third (path_word a b c) ≡ c
  word-third = omega arith

pub path-back : (p rest : List ℕ) → Bytes p → bytes_from (length p) (path_words p ++ rest) ≡ Some (record { value = p; rest = rest })
unfolding bytes_from path_words with_bytes
path-back [] rest B = refl
path-back (a ∷ []) rest B =
    let ha = bytes-head B in
    rw (
      word-path a 0 0 ha (omega arith) (omega arith),
      word-second a 0 0 ha (omega arith) (omega arith),
      word-third a 0 0 ha (omega arith) (omega arith),
      word_first a 0 0 ha (omega arith) (omega arith),
    )
path-back (a ∷ b ∷ []) rest B =
    let ha = bytes-head B in
    let hb = bytes-head (bytes-tail B) in
    rw (
      word-path a b 0 ha hb (omega arith),
      word-third a b 0 ha hb (omega arith),
      word_first a b 0 ha hb (omega arith),
      word-second a b 0 ha hb (omega arith),
    )
path-back (a ∷ b ∷ c ∷ p) rest B =
    let ha = bytes-head B in
    let hb = bytes-head (bytes-tail B) in
    let hc = bytes-head (bytes-tail (bytes-tail B)) in
    rw (
      word-path a b c ha hb hc,
      word_first a b c ha hb hc,
      word-second a b c ha hb hc,
      word-third a b c ha hb hc,
      path-back p rest (bytes-tail (bytes-tail (bytes-tail B))),
    )

-- ---- length and path words read back

pub path-short : (p : List ℕ) → is_path p ≡ true → length p ≤ max_path
unfolding is_path
path-short p ok = leb-true _ _ (and_left (leb (length p) max_path) _ ok)

module _ (p : List ℕ) (some_byte : 1 ≤ length p) (ok : is_path p ≡ true) where
  length-low : low_of_word (word_of length_kind (length p)) ≡ length p
  length-low = omega (arith, path-short p ok)

  length-word : is_length (word_of length_kind (length p)) ≡ true
  unfolding is_length
  length-word =
      rw (
        length-low,
        eq-eqb (kind_of_word (word_of length_kind (length p))) length_kind (omega (arith, path-short p ok)),
        le-leb 1 (length p) some_byte,
        le-leb (length p) max_path (path-short p ok),
      )

  path-read-back : (rest : List ℕ) → Bytes p → read_path (path_part p ++ rest) ≡ Some (record { value = p; rest = rest })
  unfolding read_path path_part if_resolved is_path
  path-read-back rest B = rw (length-word, length-low, path-back p rest B, and_right (leb (length p) max_path) _ ok)

-- ---- what follows the head reads back

-- a resolved path is not empty
none-empty : is_path [] ≡ true → ⊥
unfolding is_path is_resolved normalize spell enter_all pieces same entered
none-empty e = false≢true e

pub not-empty : (p : List ℕ) → is_path p ≡ true → 1 ≤ length p
not-empty [] e = absurd (none-empty e)
not-empty (b ∷ p) e = omega arith

insert-back : (k : Kind) (p rest : List ℕ) → is_path p ≡ true → Bytes p
    → read_act (insert_number k) (path_part p ++ rest) ≡ Some (record { value = insert_of k p; rest = rest })
unfolding read_act with_path
insert-back G p rest ok B = rw (path-read-back p (not-empty p ok) ok rest B)
insert-back D p rest ok B = rw (path-read-back p (not-empty p ok) ok rest B)
insert-back I p rest ok B = rw (path-read-back p (not-empty p ok) ok rest B)
insert-back P p rest ok B = rw (path-read-back p (not-empty p ok) ok rest B)

switches-back : (v : ℕ) (rest : List ℕ) → leb v max_switches ≡ true
    → read_switches (word_of switches_kind v ∷ rest) ≡ Some (record { value = set_switches v; rest = rest })
unfolding read_switches is_switches
switches-back v rest e =
    let h = leb-true v max_switches e in
    let low : low_of_word (word_of switches_kind v) ≡ v = omega arith in
    rw (low, eq-eqb (kind_of_word (word_of switches_kind v)) switches_kind (omega arith), e)

act-back : (act : Act) (rest : List ℕ) → is_act act ≡ true → Bytes (act_path act)
    → read_act (act_number act) (act_part act ++ rest) ≡ Some (record { value = act; rest = rest })
unfolding read_act act_number act_part is_act is_entry act_path with_path
act-back (insert e) rest ok B = unfold read_act with_path in insert-back e.kind e.path rest ok B
act-back (set_switches v) rest ok B = switches-back v rest ok
act-back (revoke q) rest ok B = rw (path-read-back q (not-empty q ok) ok rest B)
act-back revoke_all rest ok B = refl

-- ---- a record reads back

pub insert-few : (k : Kind) → insert_number k ≤ 7
insert-few G = omega arith
insert-few D = omega arith
insert-few I = omega arith
insert-few P = omega arith

pub act-few : (act : Act) → act_number act ≤ 7
unfolding act_number
act-few (insert e) = insert-few e.kind
act-few (set_switches v) = omega arith
act-few (revoke q) = omega arith
act-few revoke_all = omega arith

pub with-number : (run n : ℕ) (act : Act) (rest : List ℕ) → 1 ≤ n
    → with_number run n (Some (record { value = act; rest = rest })) ≡ Some (record { value = record { run = run; number = n; act = act }; rest = rest })
unfolding with_number
with-number run zero act rest h = absurd (omega arith)
with-number run (suc n) act rest h = refl

-- whatever words follow
pub read-first : (c : Change) (rest : List ℕ) → Readable c → read_first (change_words c ++ rest) ≡ Some (record { value = c; rest = rest })
unfolding read_first read_head change_words
read-first c rest R =
    let n = c.number in
    let k = act_number c.act in
    let w = head_word k n in
    let few = act-few c.act in
    let bits : act_bits w ≡ k = omega (arith, R.few) in
    let number : number_bits w ≡ n = omega (arith, R.few) in
    let head : kind_of_word w ≡ head_kind = omega (arith, R.few) in
    rw (
      word-run c.run R.of_run,
      run-low c.run R.of_run,
      eq-eqb (kind_of_word w) head_kind head,
      bits,
      number,
      act-back c.act rest R.fits R.bytes,
      with-number c.run n c.act rest R.above,
    )

pub read_back : (c : Change) → Readable c → read_change (change_words c) ≡ Some c
unfolding read_change ended ended_by
read_back c R = rw (ap read_first (sym (append-nil (change_words c))) ∙ read-first c [] R)

-- ---- how many words

pub path-count : (p : List ℕ) → length (path_words p) ≡ words_for (length p)
unfolding path_words
path-count [] = refl
path-count (a ∷ []) = refl
path-count (a ∷ b ∷ []) = refl
path-count (a ∷ b ∷ c ∷ p) = ap suc (path-count p) ∙ omega arith

-- behind the run word and the head
path-few : (p : List ℕ) → is_path p ≡ true → length (path_part p) + 2 ≤ record_space
unfolding path_part
path-few p ok = omega (arith, path-count p, path-short p ok)

part-few : (act : Act) → is_act act ≡ true → length (act_part act) + 2 ≤ record_space
unfolding act_part is_act is_entry
part-few (insert e) ok = path-few e.path ok
part-few (set_switches v) ok = omega arith
part-few (revoke q) ok = path-few q ok
part-few revoke_all ok = omega arith

pub few_words : (c : Change) → is_act c.act ≡ true → length (change_words c) ≤ record_space
unfolding change_words
few_words c ok = omega (arith, part-few c.act ok)

-- ---- the scope's example: 80000001 11000001 20000002 302F6300 80000001 12000002 20000002 302F7A00

example : all_words (numbered 1 0 (insert_of G (47 ∷ 99 ∷ []) ∷ insert_of D (47 ∷ 122 ∷ []) ∷ []))
    ≡ 2147483649 ∷ 285212673 ∷ 536870914 ∷ 808411904 ∷ 2147483649 ∷ 301989890 ∷ 536870914 ∷ 808417792 ∷ []
unfolding all_words numbered change_words act_number act_part path_part path_words
example = refl
