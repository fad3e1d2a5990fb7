-- Words that are not malformed are the writing of what was read, and what was read can be recorded: a change has one record.
use Rattle.std.specs.Prelude.{Option, None, Some}
use Prim.Native.Nat.{ℕ, zero, suc, ◌+◌, ◌/◌, ◌≤◌}
use mathlib.Core.Path.{◌≡◌, refl, sym, ap, subst, ◌∙◌}
use mathlib.Core.List.{List, [], ◌∷◌, ◌++◌, append-nil}
use mathlib.Core.Bool.{Bool, true, false, ◌&&◌, cond}
use native.Mathlib.Omega.{arith}
use lib.ListN.{length, length-append}
use lib.Dec.{leb, eqb}
use borrow.Author.Tests.{eqb-true, le-leb}
use Rattle.paths.specs.Components.{Bytes}
use Rattle.paths.specs.Resolving.{max_path, is_resolved}
use Rattle.paths.specs.Giving.{is_path}
use Rattle.paths.proofs.ByteLaws.{bytes-none, bytes-cons}
use Rattle.paths.proofs.ComponentLaws.{and_left, and_right}
use Rattle.table.specs.declared.Kind.{Kind}
use Rattle.table.specs.declared.Kind.TheVariants.{G, D, P, I}
use Rattle.table.specs.Tables.{is_entry}
use Rattle.table.specs.Acts.{Act, set_switches, revoke, revoke_all, is_act}
use Rattle.records.specs.Numbers.{max_run, is_run}
use Rattle.records.specs.Records.{
  Change,
  head_kind,
  run_kind,
  act_unit,
  word_of,
  insert_number,
  act_number,
  run_word,
  head_word,
  path_word,
  path_words,
  path_part,
  act_part,
  change_words,
  act_path,
  Readable,
  kind_of_word,
  low_of_word,
  act_bits,
  number_bits,
  first,
  second,
  third,
  is_run_word,
  is_length,
  is_switches,
  is_path_word,
  Read,
  with_bytes,
  bytes_from,
  if_resolved,
  read_path,
  with_path,
  read_switches,
  insert_of,
  read_act,
  with_number,
  read_head,
  read_first,
  ended_by,
  ended,
  read_change,
}

-- ---- what was read, if something was

pub if_some : {A : Type 0} (b : Bool) {o : Option A} {a : A} → cond b o None ≡ Some a → (b ≡ true) × (o ≡ Some a)
if_some true e = (refl, e)
if_some false e = cc

-- ---- words are what was read of them

path-word : (w : ℕ) → is_path_word w ≡ true → w ≡ path_word (first w) (second w) (third w)
unfolding is_path_word
path-word w e = omega (arith, eqb-true (w / act_unit) 48 e)

head-word : (w : ℕ) → kind_of_word w ≡ head_kind → w ≡ head_word (act_bits w) (number_bits w)
head-word w e = omega arith

kind-word : (w kind : ℕ) → eqb (kind_of_word w) kind ≡ true → w ≡ word_of kind (low_of_word w)
kind-word w kind e = omega (arith, eqb-true (kind_of_word w) kind e)

-- ---- a run word

module _ (w : ℕ) (e : is_run_word w ≡ true) where
  pub run-word : w ≡ run_word (low_of_word w)
  unfolding is_run_word
  run-word = kind-word w run_kind (and_left (eqb (kind_of_word w) run_kind) _ e)

  pub run-right : is_run (low_of_word w) ≡ true
  unfolding is_run_word is_run
  run-right = rw (and_right (eqb (kind_of_word w) run_kind) _ e, le-leb (low_of_word w) max_run (omega arith))

-- ---- path words

-- words that begin with those of a path of n bytes
pub record PathWritten (n : ℕ) (ws : List ℕ) (r : Read (List ℕ)) : Type 0 where
  pub size : length r.value ≡ n
  pub words : ws ≡ path_words r.value ++ r.rest
  pub bytes : Bytes r.value

record WithBytes (b : Bool) (p : List ℕ) (o : Option (Read (List ℕ))) (r : Read (List ℕ)) : Type 0 where
  good : b ≡ true
  q : Read (List ℕ)
  behind : o ≡ Some q
  whole : r ≡ record { value = p ++ q.value; rest = q.rest }

with-bytes : (b : Bool) (p : List ℕ) (o : Option (Read (List ℕ))) (r : Read (List ℕ)) → with_bytes b p o ≡ Some r → WithBytes b p o r
unfolding with_bytes
with-bytes true p (Some q) r e = record { good = refl; q = q; behind = refl; whole = cc }
with-bytes true p None r e = cc
with-bytes false p o r e = cc

-- from its bytes and what follows
path-is : {n : ℕ} {ws : List ℕ} {r : Read (List ℕ)} (p rest : List ℕ) → r ≡ record { value = p; rest = rest } → length p ≡ n
    → ws ≡ path_words p ++ rest → Bytes p → PathWritten n ws r
path-is p rest f l e B = record {
  size = ap (λ (x : Read (List ℕ)). length x.value) f ∙ l;
  words = e ∙ ap (λ (x : Read (List ℕ)). path_words x.value ++ x.rest) (sym f);
  bytes = subst (λ (x : Read (List ℕ)). Bytes x.value) (sym f) B;
}

path-none : (ws : List ℕ) (r : Read (List ℕ)) → Some (record { value = []; rest = ws }) ≡ Some r → PathWritten 0 ws r
unfolding path_words
path-none ws r e =
    let f : record { value = []; rest = ws } ≡ r = cc in
    path-is [] ws (sym f) refl refl bytes-none

path-one : (w : ℕ) (ws : List ℕ) (r : Read (List ℕ))
    → WithBytes (is_path_word w && eqb (second w) 0 && eqb (third w) 0) (first w ∷ []) (Some (record { value = []; rest = ws })) r → PathWritten 1 (w ∷ ws) r
unfolding path_words
path-one w ws r W =
    let q : record { value = []; rest = ws } ≡ W.q = cc W.behind in
    let s = eqb-true (second w) 0 (and_right (is_path_word w) _ (and_left (is_path_word w && eqb (second w) 0) _ W.good)) in
    let t = eqb-true (third w) 0 (and_right (is_path_word w && eqb (second w) 0) _ W.good) in
    let word : w ≡ path_word (first w) 0 0 =
    path-word w (and_left (is_path_word w) _ (and_left (is_path_word w && eqb (second w) 0) _ W.good))
    ∙ ap (λ (k : ℕ). path_word (first w) k (third w)) s ∙ ap (λ (k : ℕ). path_word (first w) 0 k) t in
    path-is (first w ∷ []) ws
    (W.whole ∙ ap (λ (x : Read (List ℕ)). record { value = first w ∷ x.value; rest = x.rest }) (sym q)) refl (ap (λ (k : ℕ). k ∷ ws) word)
    (bytes-cons {a = first w} (omega arith) bytes-none)

path-two : (w : ℕ) (ws : List ℕ) (r : Read (List ℕ))
    → WithBytes (is_path_word w && eqb (third w) 0) (first w ∷ second w ∷ []) (Some (record { value = []; rest = ws })) r → PathWritten 2 (w ∷ ws) r
unfolding path_words
path-two w ws r W =
    let q : record { value = []; rest = ws } ≡ W.q = cc W.behind in
    let t = eqb-true (third w) 0 (and_right (is_path_word w) _ W.good) in
    let word : w ≡ path_word (first w) (second w) 0 =
    path-word w (and_left (is_path_word w) _ W.good) ∙ ap (λ (k : ℕ). path_word (first w) (second w) k) t in
    path-is (first w ∷ second w ∷ []) ws
    (W.whole ∙ ap (λ (x : Read (List ℕ)). record { value = first w ∷ second w ∷ x.value; rest = x.rest }) (sym q)) refl (ap (λ (k : ℕ). k ∷ ws) word)
    (bytes-cons {a = first w} (omega arith) (bytes-cons {a = second w} (omega arith) bytes-none))

path-three : (n w : ℕ) (ws : List ℕ) (r : Read (List ℕ)) (W : WithBytes (is_path_word w) (first w ∷ second w ∷ third w ∷ []) (bytes_from n ws) r)
    → PathWritten n ws W.q → PathWritten (suc (suc (suc n))) (w ∷ ws) r
unfolding path_words
path-three n w ws r W R =
    path-is (first w ∷ second w ∷ third w ∷ W.q.value) W.q.rest W.whole (ap (λ (k : ℕ). suc (suc (suc k))) R.size)
    (ap (λ (k : ℕ). k ∷ ws) (path-word w W.good) ∙ ap (λ (l : List ℕ). path_word (first w) (second w) (third w) ∷ l) R.words)
    (bytes-cons {a = first w} (omega arith) (bytes-cons {a = second w} (omega arith) (bytes-cons {a = third w} (omega arith) R.bytes)))

pub bytes_read : (n : ℕ) (ws : List ℕ) (r : Read (List ℕ)) → bytes_from n ws ≡ Some r → PathWritten n ws r
unfolding bytes_from
bytes_read zero ws r e = path-none ws r e
bytes_read (suc zero) [] r e = cc
bytes_read (suc zero) (w ∷ ws) r e = path-one w ws r (with-bytes _ _ _ r e)
bytes_read (suc (suc zero)) [] r e = cc
bytes_read (suc (suc zero)) (w ∷ ws) r e = path-two w ws r (with-bytes _ _ _ r e)
bytes_read (suc (suc (suc n))) [] r e = cc
bytes_read (suc (suc (suc n))) (w ∷ ws) r e =
    let W = with-bytes (is_path_word w) (first w ∷ second w ∷ third w ∷ []) (bytes_from n ws) r e in
    path-three n w ws r W (bytes_read n ws W.q W.behind)

-- ---- length and path words

resolved-some : (o : Option (Read (List ℕ))) (r : Read (List ℕ)) → if_resolved o ≡ Some r → (o ≡ Some r) × (is_resolved r.value ≡ true)
unfolding if_resolved
resolved-some None r e = cc
resolved-some (Some q) r e =
    let C = if_some (is_resolved q.value) e in
    let same : q ≡ r = cc C.1 in
    (C.1, ap (λ (x : Read (List ℕ)). is_resolved x.value) (sym same) ∙ C.0)

record PathPart (ws : List ℕ) (r : Read (List ℕ)) : Type 0 where
  words : ws ≡ path_part r.value ++ r.rest
  path : is_path r.value ≡ true
  bytes : Bytes r.value

path-read : (ws : List ℕ) (r : Read (List ℕ)) → read_path ws ≡ Some r → PathPart ws r
unfolding read_path path_part is_length is_path
path-read [] r e = cc
path-read (w ∷ ws) r e =
    let C = if_some (is_length w) e in
    let O = resolved-some _ r C.1 in
    let R = bytes_read (low_of_word w) ws r O.0 in
    let front = and_left (eqb (kind_of_word w) 2 && leb 1 (low_of_word w)) _ C.0 in
    let short = and_right (eqb (kind_of_word w) 2 && leb 1 (low_of_word w)) _ C.0 in
    record {
      words =
          ap (λ (k : ℕ). k ∷ ws) (kind-word w 2 (and_left (eqb (kind_of_word w) 2) _ front) ∙ ap (word_of 2) (sym R.size))
          ∙ ap (λ (l : List ℕ). word_of 2 (length r.value) ∷ l) R.words;
      path = rw (ap (λ (k : ℕ). leb k max_path) R.size ∙ short, O.1);
      bytes = R.bytes;
    }

-- ---- what follows the head

record ActRead (k : ℕ) (ws : List ℕ) (r : Read Act) : Type 0 where
  number : k ≡ act_number r.value
  words : ws ≡ act_part r.value ++ r.rest
  fits : is_act r.value ≡ true
  bytes : Bytes (act_path r.value)

act-is : {k : ℕ} {ws : List ℕ} {r : Read Act} (act : Act) (rest : List ℕ) → record { value = act; rest = rest } ≡ r
    → k ≡ act_number act → ws ≡ act_part act ++ rest
    → is_act act ≡ true → Bytes (act_path act) → ActRead k ws r
act-is act rest f n e ok B = record {
  number = n ∙ ap (λ (x : Read Act). act_number x.value) f;
  words = e ∙ ap (λ (x : Read Act). act_part x.value ++ x.rest) f;
  fits = ap (λ (x : Read Act). is_act x.value) (sym f) ∙ ok;
  bytes = subst (λ (x : Read Act). Bytes (act_path x.value)) f B;
}

-- an act with a path
record OfPath (k : ℕ) (f : List ℕ → Act) : Type 0 where
  number : (p : List ℕ) → k ≡ act_number (f p)
  part : (p : List ℕ) → path_part p ≡ act_part (f p)
  fits : (p : List ℕ) → is_act (f p) ≡ is_path p
  path : (p : List ℕ) → p ≡ act_path (f p)

path-act : {k : ℕ} (f : List ℕ → Act) → OfPath k f → (ws : List ℕ) (r : Read Act) → with_path f (read_path ws) ≡ Some r → ActRead k ws r
unfolding with_path
path-act {k} f F ws r e = go (read_path ws) refl e
  where
    go : (o : Option (Read (List ℕ))) → read_path ws ≡ o → with_path f o ≡ Some r → ActRead k ws r
    go None x y = cc
    go (Some p) x y =
        let R = path-read ws p x in
        act-is (f p.value) p.rest (cc) (F.number p.value) (R.words ∙ ap (λ (l : List ℕ). l ++ p.rest) (F.part p.value))
        (F.fits p.value ∙ R.path) (subst Bytes (F.path p.value) R.bytes)

switches-read : (ws : List ℕ) (r : Read Act) → read_switches ws ≡ Some r → ActRead 5 ws r
unfolding read_switches is_switches act_number act_part is_act act_path
switches-read [] r e = cc
switches-read (w ∷ ws) r e =
    let C = if_some (is_switches w) e in
    act-is (set_switches (low_of_word w)) ws (cc C.1) refl (ap (λ (k : ℕ). k ∷ ws) (kind-word w 4 (and_left (eqb (kind_of_word w) 4) _ C.0)))
    (and_right (eqb (kind_of_word w) 4) _ C.0) bytes-none

of-insert : (kind : Kind) → OfPath (insert_number kind) (insert_of kind)
unfolding act_number act_part is_act is_entry act_path
of-insert kind = record { number = λ p. refl; part = λ p. refl; fits = λ p. refl; path = λ p. refl }

of-revoke : OfPath 6 revoke
unfolding act_number act_part is_act act_path
of-revoke = record { number = λ p. refl; part = λ p. refl; fits = λ p. refl; path = λ p. refl }

act-read : (k : ℕ) (ws : List ℕ) (r : Read Act) → read_act k ws ≡ Some r → ActRead k ws r
unfolding read_act act_number act_part is_act act_path
act-read zero ws r e = cc
act-read (suc zero) ws r e = path-act (insert_of G) (of-insert G) ws r e
act-read (suc (suc zero)) ws r e = path-act (insert_of D) (of-insert D) ws r e
act-read (suc (suc (suc zero))) ws r e = path-act (insert_of I) (of-insert I) ws r e
act-read (suc (suc (suc (suc zero)))) ws r e = path-act (insert_of P) (of-insert P) ws r e
act-read (suc (suc (suc (suc (suc zero))))) ws r e = switches-read ws r e
act-read (suc (suc (suc (suc (suc (suc zero)))))) ws r e = path-act revoke of-revoke ws r e
act-read (suc (suc (suc (suc (suc (suc (suc zero))))))) ws r e = act-is revoke_all ws (cc) refl refl refl bytes-none
act-read (suc (suc (suc (suc (suc (suc (suc (suc n)))))))) ws r e = cc

-- ---- a record

record NumberRead (run n : ℕ) (o : Option (Read Act)) (r : Read Change) : Type 0 where
  some_number : 1 ≤ n
  a : Read Act
  behind : o ≡ Some a
  whole : record { value = record { run = run; number = n; act = a.value }; rest = a.rest } ≡ r

number_read : (run n : ℕ) (o : Option (Read Act)) (r : Read Change) → with_number run n o ≡ Some r → NumberRead run n o r
unfolding with_number
number_read run zero o r e = cc
number_read run (suc n) None r e = cc
number_read run (suc n) (Some a) r e = record { some_number = omega arith; a = a; behind = refl; whole = cc }

-- words that begin with a record are the writing of what was read, and what follows
pub record Written (ws : List ℕ) (r : Read Change) : Type 0 where
  pub words : ws ≡ change_words r.value ++ r.rest
  pub readable : Readable r.value

-- a run word v, and a head with what its act takes
written-head : (v : ℕ) (ws : List ℕ) (r : Read Change) → is_run_word v ≡ true → read_head (low_of_word v) ws ≡ Some r → Written (v ∷ ws) r
unfolding read_head change_words
written-head v [] r R e = cc
written-head v (w ∷ ws) r R e =
    let C = if_some (eqb (kind_of_word w) 1) e in
    let N = number_read (low_of_word v) (number_bits w) (read_act (act_bits w) ws) r C.1 in
    let A = act-read (act_bits w) ws N.a N.behind in
    record {
      words =
          ap (λ (k : ℕ). k ∷ w ∷ ws) (run-word v R)
          ∙ ap (λ (k : ℕ). run_word (low_of_word v) ∷ k ∷ ws) (head-word w (eqb-true (kind_of_word w) 1 C.0) ∙ ap (λ (k : ℕ). head_word k (number_bits w)) A.number)
          ∙ ap (λ (l : List ℕ). run_word (low_of_word v) ∷ head_word (act_number N.a.value) (number_bits w) ∷ l) A.words
          ∙ ap (λ (x : Read Change). change_words x.value ++ x.rest) N.whole;
      readable =
          subst (λ (x : Read Change). Readable x.value) N.whole
          (record { of_run = run-right v R; above = N.some_number; few = omega arith; fits = A.fits; bytes = A.bytes });
    }

pub written-first : (ws : List ℕ) (r : Read Change) → read_first ws ≡ Some r → Written ws r
unfolding read_first
written-first [] r e = cc
written-first (w ∷ ws) r e = let C = if_some (is_run_word w) e in written-head w ws r C.0 C.1

ended_by_lem : (c : Change) (rest : List ℕ) (d : Change) → ended_by c rest ≡ Some d → (c ≡ d) × (rest ≡ [])
unfolding ended_by
ended_by_lem c [] d e = (cc, refl)
ended_by_lem c (w ∷ ws) d e = cc

ended-none : (c : Change) (rest : List ℕ) → length rest ≡ 0 → ended_by c rest ≡ Some c
unfolding ended_by
ended-none c [] z = refl
ended-none c (w ∷ ws) z = absurd (omega arith)

ended_some : (c : Change) (rest : List ℕ) → (length rest ≡ 0 → ⊥) → ended_by c rest ≡ None
unfolding ended_by
ended_some c [] z = absurd (z refl)
ended_some c (w ∷ ws) z = refl

ended_at : (o : Option (Read Change)) (c : Change) → ended o ≡ Some c → o ≡ Some (record { value = c; rest = [] })
unfolding ended
ended_at None c e = cc
ended_at (Some r) c e =
    let E = ended_by_lem r.value r.rest c e in
    λ i. Some (record { value = E.0 i; rest = E.1 i })

-- words that are not malformed are the record of the change that they read as
pub written_back : (ws : List ℕ) (c : Change) → read_change ws ≡ Some c → (ws ≡ change_words c) × Readable c
unfolding read_change
written_back ws c e =
    let W = written-first ws (record { value = c; rest = [] }) (ended_at (read_first ws) c e) in
    (W.words ∙ append-nil (change_words c), W.readable)

-- ---- where a record ends

-- words are one record, by whether the one that they begin with ends where they end
module _ (ws : List ℕ) where
  pub no_record : read_first ws ≡ None → read_change ws ≡ None
  unfolding read_change ended
  no_record e = rw e

  module _ (r : Read Change) (e : read_first ws ≡ Some r) where
    record-long : length ws ≡ length (change_words r.value) + length r.rest
    record-long = ap length (written-first ws r e).words ∙ length-append (change_words r.value) r.rest

    pub whole-record : length (change_words r.value) ≡ length ws → read_change ws ≡ Some r.value
    unfolding read_change ended
    whole-record l = rw e (ended-none r.value r.rest (omega (arith, record-long)))

    pub words_left : (length (change_words r.value) ≡ length ws → ⊥) → read_change ws ≡ None
    unfolding read_change ended
    words_left l = rw e (ended_some r.value r.rest (λ z. l (omega (arith, record-long))))
