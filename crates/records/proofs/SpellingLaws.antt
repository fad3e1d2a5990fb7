-- A path's words three bytes at a time, the bytes of words, and what reading a path's words comes to.
use Rattle.std.specs.Prelude.{Option, None, Some}
use Rattle.std.specs.List.{zip, list_all, enumerate_from}
use Rattle.std.specs.Slice.Iter.{chunks_rest, chunks_size, chunks_steps}
use Rattle.std.specs.declared.slice.Chunks.{Chunks}
use Rattle.std.proofs.lemmas.Iterator.{YieldsList}
use Rattle.std.proofs.lemmas.Iterator.Splits.{YieldsList-from_shown_while}
use Rattle.std.proofs.lemmas.List.{get_or-map, length-map}
use Rattle.std.proofs.lemmas.List.FromFn.{get_or-enumerate_from, length-enumerate_from}
use Rattle.std.proofs.lemmas.Slice.{put_mid-paste}
use borrow.Rule.Slice.PartMut.{put_mid}
use Prim.Native.Nat.{ℕ, ◌+◌, ◌*◌, ◌≤◌, ◌<◌, min}
use mathlib.Core.Path.{◌≡◌, refl, sym, ap, ◌∙◌}
use mathlib.Core.List.{List, [], ◌∷◌, ◌++◌, map}
use mathlib.Core.Bool.{true, false, false≢true}
use native.Mathlib.Nat.{zero-add}
use native.Mathlib.Omega.{arith}
use native.Mathlib.Numerals.{add-one}
use lib.Dec.{eqb}
use lib.ListN.{length, get_or, take, drop, take-append-drop, length-append}
use lib.Seq.{take-suc, take_at, length-take-le}
use Rattle.paths.specs.Components.{Bytes, same}
use Rattle.paths.specs.Copying.{overwrite}
use Rattle.paths.proofs.ComponentLaws.{same_refl, same-eq}
use Rattle.paths.proofs.ByteLaws.{bytes-none, bytes-cons, bytes-head, bytes-tail, bytes_take}
use Rattle.paths.proofs.CopyLaws.{paste-whole}
use Rattle.table.proofs.Overwrites.{over-above}
use Rattle.records.specs.Records.{Read, first, second, third, path_word, path_words, bytes_from}
use Rattle.records.specs.Steps.{words_for, word_bytes}
use Rattle.records.proofs.RecordLaws.{
  word_first,
  word-second,
  word-third,
  path-back,
  path-count,
}
use Rattle.records.proofs.WrittenLaws.{bytes_read}

-- ---- a path in pieces of three bytes, the last of which may be shorter

unfoldable pub pieces : List ℕ → List (List ℕ)
pieces [] = []
pieces (a ∷ []) = (a ∷ []) ∷ []
pieces (a ∷ b ∷ []) = (a ∷ b ∷ []) ∷ []
pieces (a ∷ b ∷ c ∷ p) = (a ∷ b ∷ c ∷ []) ∷ pieces p

abbrev pub piece-word : List ℕ → ℕ
piece-word q = path_word (get_or q 0 0) (get_or q 1 0) (get_or q 2 0)

pub piece-words : (p : List ℕ) → map piece-word (pieces p) ≡ path_words p
unfolding pieces path_words
piece-words [] = refl
piece-words (a ∷ []) = refl
piece-words (a ∷ b ∷ []) = refl
piece-words (a ∷ b ∷ c ∷ p) = ap (λ (l : List ℕ). path_word a b c ∷ l) (piece-words p)

no-rest : (rest : List ℕ) → length rest ≡ 0 → rest ≡ []
no-rest [] e = refl
no-rest (a ∷ rest) e = absurd (omega arith)

first-piece : (q rest : List ℕ) → length q ≡ min 3 (length (q ++ rest)) → 0 < length (q ++ rest) → pieces (q ++ rest) ≡ q ∷ pieces rest
unfolding pieces
first-piece [] rest e h = absurd (omega arith)
first-piece (a ∷ []) rest e h = rw (no-rest rest (omega arith))
first-piece (a ∷ b ∷ []) rest e h = rw (no-rest rest (omega arith))
first-piece (a ∷ b ∷ c ∷ []) rest e h = refl
first-piece (a ∷ b ∷ c ∷ d ∷ q) rest e h = absurd (omega arith)

-- chunks of three bytes are its pieces
pub chunks-pieces : {s : Chunks ℕ} (p : List ℕ) → chunks_rest s ≡ p → chunks_size s ≡ 3 → YieldsList (chunks_steps {A = ℕ}) (λ y. y.now) s (pieces p)
unfolding pieces
chunks-pieces {s} p e three =
    rw (← e)
    (YieldsList-from_shown_while (chunks_steps {A = ℕ}) (λ y. y.now) (λ t. pieces (chunks_rest t)) (λ t. chunks_size t ≡ 3)
    (λ t u three none. rw (no-rest (chunks_rest t) none.1.0))
    (λ t q u three some. (
      some.0 ∙ three,
      rw some.1.0 (first-piece q.now (chunks_rest u) (rw (three, some.1.0) at some.1.1) (rw some.1.0 at some.1.2)),
    ))
    s three)

-- words that are those of the pieces, one by one
each-same : (ws : List ℕ) (qs : List (List ℕ)) → length ws ≡ length qs → list_all (λ (x : ℕ × List ℕ). eqb x.0 (piece-word x.1)) (zip ws qs) ≡ same ws (map piece-word qs)
unfolding same
each-same [] [] e = refl
each-same [] (q ∷ qs) e = absurd (omega arith)
each-same (w ∷ ws) [] e = absurd (omega arith)
each-same (w ∷ ws) (q ∷ qs) e = rw (each-same ws qs (omega arith))

piece-count : (p : List ℕ) → length (pieces p) ≡ length (path_words p)
piece-count p = sym (length-map (pieces p) piece-word) ∙ ap length (piece-words p)

pub words-same : (ws p : List ℕ) → length ws ≡ words_for (length p)
    → list_all (λ (x : ℕ × List ℕ). eqb x.0 (piece-word x.1)) (zip ws (pieces p)) ≡ same ws (path_words p)
words-same ws p e = each-same ws (pieces p) (omega (arith, piece-count p, path-count p)) ∙ ap (same ws) (piece-words p)

-- the piece at a place, with its place
pub piece-at : (p : List ℕ) (n k : ℕ) (q : List ℕ) → n < length (enumerate_from 0 (pieces p)) → (k, q) ≡ get_or (enumerate_from 0 (pieces p)) n (k, q)
    → (k ≡ n) × (n < length (path_words p)) × (piece-word q ≡ get_or (path_words p) k 0)
piece-at p n k q h e =
    let here : n < length (pieces p) = omega (arith, length-enumerate_from 0 (pieces p)) in
    let both = e ∙ get_or-enumerate_from 0 (pieces p) n (k, q) here in
    let place : k ≡ n = omega (arith, ap (λ (x : ℕ × List ℕ). x.0) both) in (
      place,
      omega (arith, piece-count p),
      ap piece-word (ap (λ (x : ℕ × List ℕ). x.1) both) ∙ sym (get_or-map piece-word (pieces p) n q 0 here)
          ∙ (λ i. get_or (piece-words p i) (sym place i) 0),
    )

pub piece-places : (p : List ℕ) → length (enumerate_from 0 (pieces p)) ≡ length (path_words p)
piece-places p = length-enumerate_from 0 (pieces p) ∙ piece-count p

-- ---- the bytes of words

pub bytes_count : (ws : List ℕ) → length (word_bytes ws) ≡ 3 * length ws
unfolding word_bytes
bytes_count [] = refl
bytes_count (w ∷ ws) = omega (arith, bytes_count ws)

bytes-append : (ws : List ℕ) (w : ℕ) → word_bytes (ws ++ (w ∷ [])) ≡ word_bytes ws ++ (first w ∷ second w ∷ third w ∷ [])
unfolding word_bytes
bytes-append [] w = refl
bytes-append (v ∷ ws) w = ap (λ (l : List ℕ). first v ∷ second v ∷ third v ∷ l) (bytes-append ws w)

pub put-over : (m : List ℕ) (at n : ℕ) (s : List ℕ) → n ≡ length s → put_mid at n m s ≡ overwrite m at s
put-over m at n s e = put_mid-paste at n m s s (length s) refl (sym e) refl ∙ paste-whole m at s

-- the bytes of one word more
pub bytes-more : (m work ws new : List ℕ) (k n : ℕ) → work ≡ overwrite m 0 (word_bytes (take k ws)) → k < length ws → 3 * length ws ≤ length m → n ≡ 3
    → new ≡ first (get_or ws k 0) ∷ second (get_or ws k 0) ∷ third (get_or ws k 0) ∷ [] → put_mid (3 * k) n work new ≡ overwrite m 0 (word_bytes (take (k + 1) ws))
bytes-more m work ws new k n so_far h long three e =
    let s = word_bytes (take k ws) in
    let few : length (take k ws) ≡ k = length-take-le k ws (omega arith) in
    let end : length s ≡ 3 * k = omega (arith, bytes_count (take k ws), few) in
    put-over work (3 * k) n new (three ∙ sym (ap length e))
    ∙ rw (so_far, e, ← end, ← zero-add (length s)) (over-above m 0 s _ (omega arith))
    ∙ ap (λ (l : List ℕ). overwrite m 0 l) (sym (bytes-append (take k ws) (get_or ws k 0)) ∙ ap word_bytes (rw add-one (sym (take-suc ws k 0 h))))

-- ---- bytes

spelled-bytes : (ws : List ℕ) → Bytes (word_bytes ws)
unfolding word_bytes
spelled-bytes [] = bytes-none
spelled-bytes (w ∷ ws) =
    bytes-cons {a = first w} (omega arith)
    (bytes-cons {a = second w} (omega arith) (bytes-cons {a = third w} (omega arith) (spelled-bytes ws)))

-- the bytes of a path's words are the path, and zeros
bytes_back : (p : List ℕ) → Bytes p → take (length p) (word_bytes (path_words p)) ≡ p
unfolding word_bytes path_words
bytes_back [] B = refl
bytes_back (a ∷ []) B = rw (word_first a 0 0 (bytes-head B) (omega arith) (omega arith))
bytes_back (a ∷ b ∷ []) B =
    let ha = bytes-head B in
    let hb = bytes-head (bytes-tail B) in
    rw (word_first a b 0 ha hb (omega arith), word-second a b 0 ha hb (omega arith))
bytes_back (a ∷ b ∷ c ∷ p) B =
    let ha = bytes-head B in
    let hb = bytes-head (bytes-tail B) in
    let hc = bytes-head (bytes-tail (bytes-tail B)) in
    rw (
      word_first a b c ha hb hc,
      word-second a b c ha hb hc,
      word-third a b c ha hb hc,
      bytes_back p (bytes-tail (bytes-tail (bytes-tail B))),
    )

-- ---- what reading a path's words comes to

-- the first n bytes that words spell
unfoldable pub spelled : ℕ → List ℕ → List ℕ
spelled n ws = take n (word_bytes (take (words_for n) ws))

module _ (n : ℕ) (ws : List ℕ) where
  -- words that are in order are those of the path that their bytes spell
  in_order : (r : Read (List ℕ)) → bytes_from n ws ≡ Some r → (words_for n ≤ length ws) × (take (words_for n) ws ≡ path_words (spelled n ws))
  unfolding spelled
  in_order r e =
      let W = bytes_read n ws r e in
      let count : length (path_words r.value) ≡ words_for n = path-count r.value ∙ ap words_for W.size in
      let front : take (words_for n) ws ≡ path_words r.value =
      ap (take (words_for n)) W.words ∙ take_at (path_words r.value) r.rest (words_for n) count in
      let spells : take n (word_bytes (take (words_for n) ws)) ≡ r.value =
      ap (λ (l : List ℕ). take n (word_bytes l)) front
      ∙ ap (λ (k : ℕ). take k (word_bytes (path_words r.value))) (sym W.size)
      ∙ bytes_back r.value W.bytes in
      (omega (arith, count, ap length W.words ∙ length-append (path_words r.value) r.rest), front ∙ ap path_words (sym spells))

  bytes-none-by : (o : Option (Read (List ℕ))) → bytes_from n ws ≡ o → ((r : Read (List ℕ)) → bytes_from n ws ≡ Some r → ⊥) → bytes_from n ws ≡ None
  bytes-none-by None e h = e
  bytes-none-by (Some r) e h = absurd (h r e)

  pub bytes-short : length ws < words_for n → bytes_from n ws ≡ None
  bytes-short h = bytes-none-by (bytes_from n ws) refl (λ r e. let w = (in_order r e).0 in omega arith)

  pub bytes-other : same (take (words_for n) ws) (path_words (spelled n ws)) ≡ false → bytes_from n ws ≡ None
  bytes-other h =
      bytes-none-by (bytes_from n ws) refl
      (λ r e. false≢true (sym h ∙ ap (λ (l : List ℕ). same l (path_words (spelled n ws))) (in_order r e).1 ∙ same_refl (path_words (spelled n ws))))

  module _ (h : words_for n ≤ length ws) where
    pub spelled-length : length (spelled n ws) ≡ n
    unfolding spelled
    spelled-length = length-take-le n _ (omega (arith, bytes_count (take (words_for n) ws), length-take-le (words_for n) ws h))

    pub bytes-spelled : same (take (words_for n) ws) (path_words (spelled n ws)) ≡ true
        → bytes_from n ws ≡ Some (record { value = spelled n ws; rest = drop (words_for n) ws })
    unfolding spelled
    bytes-spelled e =
        let p = spelled n ws in
        let whole : ws ≡ path_words p ++ drop (words_for n) ws =
        sym (take-append-drop (words_for n) ws) ∙ ap (λ (l : List ℕ). l ++ drop (words_for n) ws) (same-eq _ _ e) in
        ap (bytes_from n) whole
        ∙ ap (λ (k : ℕ). bytes_from k (path_words p ++ drop (words_for n) ws)) (sym spelled-length)
        ∙ path-back p (drop (words_for n) ws) (bytes_take n _ (spelled-bytes _))
