-- Laws of reading: the answer at each way out of the code.
use Rattle.std.specs.Prelude.{Option, None, Some}
use borrow.Rule.Slice.PartMut.{post_of}
use Prim.Native.Nat.{ℕ, zero, suc, ◌+◌, ◌-◌, ◌/◌, ◌%◌, ◌≤◌, ◌<◌}
use mathlib.Core.Path.{◌≡◌, refl, sym, ap, subst, ◌∙◌}
use mathlib.Core.List.{List, [], ◌∷◌, ◌++◌}
use mathlib.Core.Bool.{Bool, true, false, ◌&&◌, cond}
use native.Mathlib.Nat.{zero-add}
use native.Mathlib.Omega.{arith}
use lib.ListN.{length, take, drop, length-drop}
use lib.Seq.{drop-drop, take-append-le, length-take-le}
use lib.Dec.{eqb, leb}
use borrow.Author.Tests.{eq-eqb, eqb-true, leb-true}
use Rattle.paths.specs.Components.{same}
use Rattle.paths.specs.Copying.{overwrite, begun}
use Rattle.paths.specs.Resolving.{max_path, is_resolved}
use Rattle.paths.proofs.ComponentLaws.{and_left, and_right}
use Rattle.table.specs.declared.Action.{Action}
use Rattle.table.specs.declared.Action.TheVariants.{SetSwitches, RevokeAll}
use Rattle.table.specs.Acts.{set_switches, revoke_all}
use Rattle.records.specs.declared.PathRead.{PathRead}
use Rattle.table.specs.Carrying.{action_of}
use Rattle.records.specs.declared.Record.{Record}
use Rattle.records.specs.declared.words.Front.{Front}
use Rattle.records.specs.Records.{Change, head_kind, length_kind, act_unit, kind_of_word, low_of_word, act_bits, number_bits, is_run_word, is_length, is_switches, act_path, path_words, path_part, act_part, change_words, Read, bytes_from, if_resolved, read_path, with_path, read_switches, read_act, with_number, read_head, read_first}
use Rattle.records.specs.Answers.{record_answer, record_into, ReadsRecord}
use Rattle.records.specs.Words.{first_word, behind_first, front_at}
use Rattle.records.specs.Steps.{words_for, word_bytes, run_of, length_of, switches_of, path_behind, path_answer, path_into, ReadsPath, path_act}
use Rattle.records.proofs.WordLaws.{of-run, Headed, run_alone}
use Rattle.records.proofs.RecordLaws.{path-count, with-number}
use Rattle.records.proofs.SpellingLaws.{spelled, bytes_count, bytes-short, bytes-other, spelled-length, bytes-spelled}

and-off : (b : Bool) → b && false ≡ false
and-off true = refl
and-off false = refl

-- ---- a run

pub no-run-word : (w : ℕ) → run_of (Some w) ≡ None → is_run_word w ≡ false
unfolding run_of
no-run-word w e = go (is_run_word w) e
  where
    go : (b : Bool) → cond b (Some (low_of_word w)) None ≡ None → b ≡ false
    go true z = cc
    go false z = refl

-- ---- a path by its length

-- a word that says a length
pub record Sized (word : Option ℕ) (n : ℕ) (ws : List ℕ) : Type 0 where
  pub some_byte : 1 ≤ n
  pub short : n ≤ max_path
  pub path : path_behind word ws ≡ if_resolved (bytes_from n ws)

length-least : (w : ℕ) → is_length w ≡ true → (1 ≤ low_of_word w) × (low_of_word w ≤ max_path)
unfolding is_length
length-least w e = (
  leb-true 1 (low_of_word w) (and_right (eqb (kind_of_word w) length_kind) _ (and_left (eqb (kind_of_word w) length_kind && leb 1 (low_of_word w)) _ e)),
  leb-true (low_of_word w) max_path (and_right (eqb (kind_of_word w) length_kind && leb 1 (low_of_word w)) _ e),
)

unsized : (word : Option ℕ) (ws : List ℕ) → length_of word ≡ None → path_behind word ws ≡ None
unfolding length_of path_behind read_path
unsized None ws e = refl
unsized (Some w) ws e = go (is_length w) e
  where
    go : (b : Bool) → cond b (Some (low_of_word w)) None ≡ None → cond b (if_resolved (bytes_from (low_of_word w) ws)) None ≡ None
    go true f = cc
    go false f = refl

pub sized : (word : Option ℕ) (n : ℕ) (ws : List ℕ) → Some n ≡ length_of word → Sized word n ws
unfolding length_of path_behind read_path
sized None n ws e = cc
sized (Some w) n ws e = go (is_length w) refl e
  where
    go : (b : Bool) → is_length w ≡ b → Some n ≡ cond b (Some (low_of_word w)) None → Sized (Some w) n ws
    go true q f =
        let L = length-least w q in
        let same : low_of_word w ≡ n = cc in
        record { some_byte = omega (arith, L.0); short = omega (arith, L.1); path = rw (q, same) }
    go false q f = cc

-- ---- a path

reads-no-path : {at : ℕ} {o : Option (Read (List ℕ))} {space after : List ℕ} → o ≡ None → after ≡ space → ReadsPath at o space None after
unfolding path_answer path_into
reads-no-path e a = record { answer = rw e; bytes = a ∙ rw e }

pub over-start : (s x : List ℕ) → overwrite s 0 x ≡ begun x s
unfolding overwrite begun
over-start s x = rw (zero-add (length x))

-- the bytes of the words that a path of n bytes has, from the start of a work area
pub work-spells : (m ws own work : List ℕ) (n : ℕ) → own ≡ take (words_for n) ws → work ≡ overwrite m 0 (word_bytes own) → words_for n ≤ length ws
    → take n work ≡ spelled n ws
unfolding overwrite spelled
work-spells m ws own work n o e h =
    rw (e, o) (take-append-le n (word_bytes (take (words_for n) ws)) _ (omega (arith, bytes_count (take (words_for n) ws), length-take-le (words_for n) ws h)))

pub own-words : (ws : List ℕ) (at n : ℕ) {count : ℕ} → count ≡ words_for n → take (at + count - at) (drop at ws) ≡ take (words_for n) (drop at ws)
own-words ws at n {count} c = let same : at + count - at ≡ words_for n = omega arith in rw same

-- bytes put over a start that is as long
pub start-put : (p s q : List ℕ) (n : ℕ) → q ≡ p → length p ≡ n → q ++ post_of 0 n s ≡ begun p s
unfolding begun
start-put p s q n e l = rw (e, l)

-- a path of n bytes whose words begin at a place
module _ (ws : List ℕ) (at n : ℕ) where
  pub path-cut : {space : List ℕ} → length ws - at < words_for n → ReadsPath at (if_resolved (bytes_from n (drop at ws))) space None space
  unfolding if_resolved
  path-cut h = reads-no-path (ap if_resolved (bytes-short n (drop at ws) (omega (arith, length-drop at ws)))) refl

  module _ {own p : List ℕ} (o : own ≡ take (words_for n) (drop at ws)) (s : p ≡ spelled n (drop at ws)) (h : words_for n ≤ length (drop at ws)) where
    pub size_is : length p ≡ n
    size_is = ap length s ∙ spelled-length n (drop at ws) h

    compared : same own (path_words p) ≡ same (take (words_for n) (drop at ws)) (path_words (spelled n (drop at ws)))
    compared = λ i. same (o i) (path_words (s i))

    pub path-other : {space : List ℕ} → same own (path_words p) ≡ false → ReadsPath at (if_resolved (bytes_from n (drop at ws))) space None space
    unfolding if_resolved
    path-other f = reads-no-path (ap if_resolved (bytes-other n (drop at ws) (sym compared ∙ f))) refl

    module _ (t : same own (path_words p) ≡ true) where
      path-if : if_resolved (bytes_from n (drop at ws)) ≡ cond (is_resolved p) (Some (record { value = p; rest = drop (words_for n) (drop at ws) })) None
      unfolding if_resolved
      path-if =
          ap if_resolved (bytes-spelled n (drop at ws) h (sym compared ∙ t))
          ∙ ap (λ (l : List ℕ). cond (is_resolved l) (Some (record { value = l; rest = drop (words_for n) (drop at ws) })) None) (sym s)

      pub path-unresolved : {space : List ℕ} → is_resolved p ≡ false → ReadsPath at (if_resolved (bytes_from n (drop at ws))) space None space
      path-unresolved f = reads-no-path (path-if ∙ rw f) refl

      pub path-taken : {space after : List ℕ} {count : ℕ} → is_resolved p ≡ true → count ≡ words_for n → after ≡ begun p space
          → ReadsPath at (if_resolved (bytes_from n (drop at ws))) space (Some (record { size = n; end = at + count })) after
      unfolding path_answer path_into
      path-taken r c b = record { answer = rw (path-if, r, path-count p, size_is, c); bytes = b ∙ rw (path-if, r) }

-- a path whose length is what the word behind the head says
module _ (ws : List ℕ) (at : ℕ) (next : Option ℕ) where
  pub path-without-length : {space : List ℕ} → None ≡ length_of next → ReadsPath at (path_behind next (drop at ws)) space None space
  path-without-length e = reads-no-path (unsized next (drop at ws) (sym e)) refl

  pub path-behind : (n : ℕ) → Some n ≡ length_of next → {space after : List ℕ} {r : Option PathRead}
      → ReadsPath at (if_resolved (bytes_from n (drop at ws))) space r after → ReadsPath at (path_behind next (drop at ws)) space r after
  path-behind n e {space} {after} {r} R = rw (sized next n (drop at ws) e).path R

-- ---- an act that takes a path

module _ (q : List ℕ) where
  act-path : (k : ℕ) → (act_path (path_act k q) ≡ q) × (act_part (path_act k q) ≡ path_part q)
  unfolding path_act act_path act_part
  act-path zero = (refl, refl)
  act-path (suc zero) = (refl, refl)
  act-path (suc (suc zero)) = (refl, refl)
  act-path (suc (suc (suc zero))) = (refl, refl)
  act-path (suc (suc (suc (suc zero)))) = (refl, refl)
  act-path (suc (suc (suc (suc (suc k))))) = (refl, refl)

-- of such an act the code has the kind alone
act-same : (k : ℕ) (q : List ℕ) → action_of (Some (path_act k q)) ≡ action_of (Some (path_act k []))
unfolding path_act action_of
act-same zero q = refl
act-same (suc zero) q = refl
act-same (suc (suc zero)) q = refl
act-same (suc (suc (suc zero))) q = refl
act-same (suc (suc (suc (suc zero)))) q = refl
act-same (suc (suc (suc (suc (suc k))))) q = refl

no_change : (run n : ℕ) → with_number run n None ≡ None
unfolding with_number
no_change run zero = refl
no_change run (suc n) = refl

pub reads_nothing : {from : ℕ} {o : Option (Read Change)} {space : List ℕ} → o ≡ None → ReadsRecord from o space None space
unfolding record_answer record_into
reads_nothing e = record { answer = rw e; bytes = rw e }

-- the record of an act that takes a path, by what reading the path answered
abbrev pub record_of : ℕ → ℕ → Action → Option PathRead → Option Record
record_of run number action None = None
record_of run number action (Some p) = Some (record { run = run; number = number; action = action; size = p.size; end = p.end })

reads-path : {from : ℕ} (run number k : ℕ) {action : Action} {space after : List ℕ} (o : Option (Read (List ℕ))) {r : Option PathRead}
    → action ≡ action_of (Some (path_act k [])) → ReadsPath (from + 2 + 1) o space r after → 0 < number
    → ReadsRecord from (with_number run number (with_path (path_act k) o)) space (record_of run number action r) after
unfolding with_path path_answer path_into record_answer record_into change_words path_part
reads-path run number k None a R h = record { answer = rw (no_change run number, R.answer); bytes = rw (no_change run number) R.bytes }
reads-path {from} run number k {action} (Some p) a R h =
    let q = p.value in
    let end : from + 2 + 1 + length (path_words q) ≡ from + suc (suc (length (path_part q))) = omega arith in
    record {
      answer = rw (R.answer, with-number run number (path_act k q) p.rest h, act-same k q, (act-path q k).0, (act-path q k).1, a, end);
      bytes = rw (with-number run number (path_act k q) p.rest h, (act-path q k).0) R.bytes;
    }

pub reads-behind : {from : ℕ} (run number k : ℕ) (ws l : List ℕ) {action : Action} {space after : List ℕ} {r : Option PathRead} → drop (from + 2) ws ≡ l
    → action ≡ action_of (Some (path_act k []))
    → ReadsPath (behind_first l (from + 2)) (path_behind (first_word l) (drop (behind_first l (from + 2)) ws)) space r after → 0 < number
    → ReadsRecord from (with_number run number (with_path (path_act k) (read_path l))) space (record_of run number action r) after
unfolding first_word behind_first path_behind read_path with_path path_answer path_into record_answer record_into
reads-behind run number k ws [] e a R h = record { answer = rw (no_change run number, R.answer); bytes = rw (no_change run number) R.bytes }
reads-behind {from} run number k ws (w ∷ l) {action} {space} {after} {r} e a R h =
    let behind : drop (from + 2 + 1) ws ≡ l = sym (drop-drop 1 (from + 2) ws) ∙ ap (drop 1) e in
    reads-path run number k (read_path (w ∷ l)) a (subst (λ (x : List ℕ). ReadsPath (from + 2 + 1) (read_path (w ∷ x)) space r after) behind R) h

-- ---- an act that takes switches

-- the record of an act that takes switches, by those that the word behind the head says
abbrev pub switches_record : ℕ → ℕ → Option ℕ → ℕ → Option Record
switches_record run number None end = None
switches_record run number (Some v) end = Some (record { run = run; number = number; action = SetSwitches v; size = 0; end = end })

-- they leave the lent space as it is
pub reads-switches : {from : ℕ} (run number : ℕ) (l space : List ℕ) {v : Option ℕ} → v ≡ switches_of (first_word l) → 0 < number
    → ReadsRecord from (with_number run number (read_switches l)) space (switches_record run number v (behind_first l (from + 2))) space
unfolding switches_of first_word behind_first read_switches record_answer record_into action_of act_path change_words act_part begun
reads-switches run number [] space e h = record { answer = rw (e, no_change run number); bytes = rw (no_change run number) }
reads-switches {from} run number (w ∷ l) space {v} e h = rw e (go (is_switches w))
  where
    go : (b : Bool)
        → ReadsRecord from (with_number run number (cond b (Some (record { value = set_switches (low_of_word w); rest = l })) None)) space
        (switches_record run number (cond b (Some (low_of_word w)) None) (from + 2 + 1)) space
    go true =
        let o = with-number run number (set_switches (low_of_word w)) l h in
        let end : from + 2 + 1 ≡ from + 3 = omega arith in
        record { answer = rw (o, end); bytes = rw o }
    go false = record { answer = rw (no_change run number); bytes = rw (no_change run number) }

-- ---- a head

act-unknown : (k : ℕ) (ws : List ℕ) → (1 ≤ k → 8 ≤ k) → read_act k ws ≡ None
unfolding read_act
act-unknown zero ws h = refl
act-unknown (suc zero) ws h = absurd (omega (arith, h (omega arith)))
act-unknown (suc (suc zero)) ws h = absurd (omega (arith, h (omega arith)))
act-unknown (suc (suc (suc zero))) ws h = absurd (omega (arith, h (omega arith)))
act-unknown (suc (suc (suc (suc zero)))) ws h = absurd (omega (arith, h (omega arith)))
act-unknown (suc (suc (suc (suc (suc zero))))) ws h = absurd (omega (arith, h (omega arith)))
act-unknown (suc (suc (suc (suc (suc (suc zero)))))) ws h = absurd (omega (arith, h (omega arith)))
act-unknown (suc (suc (suc (suc (suc (suc (suc zero))))))) ws h = absurd (omega (arith, h (omega arith)))
act-unknown (suc (suc (suc (suc (suc (suc (suc (suc k)))))))) ws h = refl

-- acts 1 to 4, and 6
act-with-path : (k : ℕ) (ws : List ℕ) → 1 ≤ k → k ≤ 6 → (k ≡ 5 → ⊥) → read_act k ws ≡ with_path (path_act k) (read_path ws)
unfolding read_act path_act
act-with-path zero ws l h n = absurd (omega arith)
act-with-path (suc zero) ws l h n = refl
act-with-path (suc (suc zero)) ws l h n = refl
act-with-path (suc (suc (suc zero))) ws l h n = refl
act-with-path (suc (suc (suc (suc zero)))) ws l h n = refl
act-with-path (suc (suc (suc (suc (suc zero))))) ws l h n = absurd (n refl)
act-with-path (suc (suc (suc (suc (suc (suc zero)))))) ws l h n = refl
act-with-path (suc (suc (suc (suc (suc (suc (suc k))))))) ws l h n = absurd (omega arith)

-- words that begin with a head w, behind a run word
module _ (run w : ℕ) (ws : List ℕ) where
  -- the head's eight top bits, by kind and act bits
  head-by : (k : ℕ) → k < 16 → w / act_unit ≡ 16 + k → read_head run (w ∷ ws) ≡ with_number run (number_bits w) (read_act k ws)
  unfolding read_head
  head-by k l e =
      let bits : act_bits w ≡ k = omega arith in
      rw (eq-eqb (kind_of_word w) head_kind (omega arith), bits)

  head-unnumbered : number_bits w ≡ 0 → read_head run (w ∷ ws) ≡ None
  unfolding read_head with_number
  head-unnumbered e = rw e (go (eqb (kind_of_word w) head_kind))
    where
      go : (b : Bool) → ◌≡◌ {A = Option (Read Change)} (cond b None None) None
      go true = refl
      go false = refl

  -- a word of another kind, or an act number that is none
  head-unknown : (17 ≤ w / act_unit → 24 ≤ w / act_unit) → read_head run (w ∷ ws) ≡ None
  unfolding read_head
  head-unknown u = go (eqb (kind_of_word w) head_kind) refl
    where
      go : (b : Bool) → eqb (kind_of_word w) head_kind ≡ b → cond b (with_number run (number_bits w) (read_act (act_bits w) ws)) None ≡ None
      go true e =
          let k = eqb-true (kind_of_word w) head_kind e in
          rw (act-unknown (act_bits w) ws (λ l. omega (arith, u (omega arith)))) (no_change run (number_bits w))
      go false e = refl

-- ---- a record by its front

run-missing : (ws : List ℕ) → run_of (first_word ws) ≡ None → read_first ws ≡ None
unfolding first_word read_first
run-missing [] e = refl
run-missing (w ∷ ws) e = rw (no-run-word w e)

module _ (ws : List ℕ) (from : ℕ) {f : Front} {space : List ℕ} (F : f ≡ front_at ws from) where
  pub without-run : None ≡ run_of f.run → ReadsRecord from (read_first (drop from ws)) space None space
  without-run r = reads_nothing (run-missing (drop from ws) (ap (λ (g : Front). run_of g.run) (sym F) ∙ sym r))

  pub no-head : {run : ℕ} → Some run ≡ run_of f.run → f.head ≡ None → ReadsRecord from (read_first (drop from ws)) space None space
  unfolding read_first read_head
  no-head r e = let R = of-run f.run r in reads_nothing (ap read_first (run_alone ws from F R e) ∙ rw R.right)

module _ {ws : List ℕ} {from run w : ℕ} {f : Front} (H : Headed ws from run w f) where
  headed-as : {o : Option (Read Change)} {space after : List ℕ} {r : Option Record} → read_head run (w ∷ drop (from + 2) ws) ≡ o → ReadsRecord from o space r after
      → ReadsRecord from (read_first (drop from ws)) space r after
  unfolding read_first
  headed-as {space = space} {after = after} {r = r} e R =
      let first : read_first (drop from ws) ≡ read_head run (w ∷ drop (from + 2) ws) = ap read_first H.words ∙ rw (H.of_run.right, H.of_run.low) in
      subst (λ (x : Option (Read Change)). ReadsRecord from x space r after) (sym (first ∙ e)) R

  pub headed-unnumbered : {space : List ℕ} → number_bits w ≡ 0 → ReadsRecord from (read_first (drop from ws)) space None space
  headed-unnumbered e = headed-as (head-unnumbered run w (drop (from + 2) ws) e) (reads_nothing refl)

  pub headed-unknown : {space : List ℕ} → (17 ≤ w / act_unit → 24 ≤ w / act_unit) → ReadsRecord from (read_first (drop from ws)) space None space
  headed-unknown u = headed-as (head-unknown run w (drop (from + 2) ws) u) (reads_nothing refl)

  module _ (some-number : number_bits w ≡ 0 → ⊥) where
    pub headed-path : (t : ℕ) {action : Action} {space after : List ℕ} {p : Option PathRead} → t ≡ w / act_unit → (17 ≤ t) × (t ≤ 22) × (t ≡ 21 → ⊥)
        → ReadsPath f.at (path_behind f.next (drop f.at ws)) space p after → action ≡ action_of (Some (path_act (t % 16) []))
        → ReadsRecord from (read_first (drop from ws)) space (record_of run (number_bits w) action p) after
    headed-path t {action} {space} {after} {p} e k R a =
        headed-as
        (head-by run w (drop (from + 2) ws) (t % 16) (omega arith) (omega arith)
        ∙ ap (with_number run (number_bits w)) (act-with-path (t % 16) (drop (from + 2) ws) (omega arith) (omega arith) (λ five. k.2 (omega arith))))
        (reads-behind run (number_bits w) (t % 16) ws (drop (from + 2) ws) refl a
        (subst (λ (g : Option ℕ × ℕ). ReadsPath g.1 (path_behind g.0 (drop g.1 ws)) space p after) (λ i. (H.next i, H.behind i)) R) (omega arith))

    pub headed-switches : {space : List ℕ} {v : Option ℕ} → w / act_unit ≡ 21 → v ≡ switches_of f.next
        → ReadsRecord from (read_first (drop from ws)) space (switches_record run (number_bits w) v f.at) space
    unfolding read_act
    headed-switches {space} e a =
        headed-as (head-by run w (drop (from + 2) ws) 5 (omega arith) e)
        (rw H.behind (reads-switches run (number_bits w) (drop (from + 2) ws) space (a ∙ ap switches_of H.next) (omega arith)))

    pub headed-revoke-all : {space : List ℕ} → w / act_unit ≡ 23
        → ReadsRecord from (read_first (drop from ws)) space
        (Some (record { run = run; number = number_bits w; action = RevokeAll; size = 0; end = from + 2 })) space
    unfolding read_act record_answer record_into action_of act_path change_words act_part begun
    headed-revoke-all e =
        headed-as (head-by run w (drop (from + 2) ws) 7 (omega arith) e ∙ with-number run (number_bits w) revoke_all (drop (from + 2) ws) (omega arith)) (record { answer = refl; bytes = refl })
