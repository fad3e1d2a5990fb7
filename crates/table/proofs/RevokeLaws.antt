-- Revoking and setting the switches in memory. The loop that drops entries has written those that it kept one after the other from the first
-- entry's place on, and those that are still to come stand where they were.
use Prim.Native.Nat.{ℕ, ◌+◌, ◌-◌, ◌≤◌, ◌<◌}
use mathlib.Core.Path.{◌≡◌, refl, sym, ap, ◌∙◌}
use mathlib.Core.List.{List, [], ◌∷◌, ◌++◌, append-nil}
use mathlib.Core.Bool.{Bool, true, false}
use native.Mathlib.Omega.{arith}
use native.Mathlib.Nat.{add-zero}
use lib.ListN.{length, get_or, set, take, drop, length-append}
use lib.Seq.{paste-zero, take_at, append_snoc, get_or-drop}
use denote.Enum.Bare.{sameb}
use Rattle.table.specs.contracts.Kind.{the_type}
use Rattle.table.specs.declared.Kind.{Kind}
use Rattle.table.specs.declared.Kind.TheVariants.{G, D, P, I}
use Rattle.table.specs.Entries.{Entry, is_granted}
use Rattle.table.specs.Tables.{granted, clear_bit, max_entries}
use Rattle.table.specs.Acts.{set_switches, revoke_all, kept_unless, without, dropped_by, every_path, dropping, apply_act}
use Rattle.table.specs.Memory.{
  table_head,
  entry_head,
  switches_at,
  marks_at,
  length_offset,
  word_at,
  len_at,
  next_at,
  entry_at,
  entries_at,
  offset_at,
  table_of,
  holds,
  word,
  head_bytes,
  encode_entry,
  encode_all,
  encode,
  put,
  do_act,
}
use Rattle.table.specs.Reading.{Rest}
use Rattle.table.proofs.Within.{held, Here, rest-start, rest-here, rest-next, entries_at-step, entries_at-none, length-path}
use Rattle.table.proofs.Codec.{length-encode_entry, encode_all-append, head_of, entry-law, front}
use Rattle.table.proofs.Overwrites.{drop-behind, over-above, headed}
use Rattle.table.proofs.Puts.{put_self}
use Rattle.paths.specs.Components.{Bytes}
use Rattle.paths.specs.Copying.{overwrite}

-- ---- what a revoke drops

-- what `==` says of the kind of a grant
pub same-grant : (k : Kind) → sameb the_type k G ≡ is_granted k
same-grant G = refl
same-grant D = refl
same-grant P = refl
same-grant I = refl

module _ (selected : List ℕ → Bool) (e : Entry) where
  -- an entry of another kind stays
  pub stays : is_granted e.kind ≡ false → dropped_by selected e ≡ false
  unfolding dropped_by
  stays h = rw h

  -- a grant goes where its path is selected
  pub goes : {r : Bool} → is_granted e.kind ≡ true → r ≡ selected e.path → dropped_by selected e ≡ r
  unfolding dropped_by
  goes h i = rw h (sym i)

-- ---- one step

module _ (dropped : Entry → Bool) (m : List ℕ) (n : ℕ) (h : 0 < n) (at : ℕ) where
  without-hit : dropped (entry_at m at) ≡ true → without dropped (entries_at m n at) ≡ without dropped (entries_at m (n - 1) (next_at m at))
  unfolding without kept_unless
  without-hit e = rw (entries_at-step m n h at, e)

  without-miss : dropped (entry_at m at) ≡ false
      → without dropped (entries_at m n at) ≡ entry_at m at ∷ without dropped (entries_at m (n - 1) (next_at m at))
  unfolding without kept_unless
  without-miss e = rw (entries_at-step m n h at, e)

-- what lies behind the bytes that are written is as it was
module _ (m s : List ℕ) (k : ℕ) (h : table_head + length s ≤ length m) (le : table_head + length s ≤ k) where
  drop-over : drop k (overwrite m table_head s) ≡ drop k m
  drop-over =
      let e : k ≡ table_head + length s + (k - (table_head + length s)) = omega arith in
      ap (λ (j : ℕ). drop j (overwrite m table_head s)) e ∙ drop-behind m table_head s h (k - (table_head + length s)) ∙ ap (λ (j : ℕ). drop j m) (sym e)

  get_or_over : get_or (overwrite m table_head s) k 0 ≡ get_or m k 0
  get_or_over =
      let e = add-zero k in
      ap (λ (j : ℕ). get_or (overwrite m table_head s) j 0) (sym e)
      ∙ sym (get_or-drop k (overwrite m table_head s) 0 0)
      ∙ ap (λ (l : List ℕ). get_or l 0 0) drop-over
      ∙ get_or-drop k m 0 0
      ∙ ap (λ (j : ℕ). get_or m j 0) e

-- ---- the loop

-- m₀ is the memory as it was, m as it is: ks are kept, from `table_head` up to `to`, and `left` entries are to come, from `from` on; `Picks` says of which
-- selections
pub record Kept (Picks : (List ℕ → Bool) → Type 0) (m₀ m : List ℕ) (left kept from to : ℕ) : Type 0 where
  pub ks : List Entry
  pub rest : Rest m₀ left from
  pub order : to ≤ from
  pub size : to ≡ table_head + length (encode_all ks)
  pub count : kept ≡ length ks
  pub few : kept + left ≤ max_entries
  pub bytes : m ≡ overwrite m₀ table_head (encode_all ks)
  pub same : length m ≡ length m₀
  pub all : (selected : List ℕ → Bool) → Picks selected
      → without (dropped_by selected) (table_of m₀).entries ≡ ks ++ without (dropped_by selected) (entries_at m₀ left from)

pub kept-start : (Picks : (List ℕ → Bool) → Type 0) (m : List ℕ) → holds m ≡ true → Kept Picks m m (word_at m 0) 0 table_head table_head
unfolding encode_all overwrite table_of
kept-start Picks m e = record {
  ks = [];
  rest = rest-start m e;
  order = omega arith;
  size = refl;
  count = refl;
  few = omega (arith, (held m e).few);
  bytes = paste-zero m table_head [];
  same = refl;
  all = λ selected p. refl;
}

module _ {Picks : (List ℕ → Bool) → Type 0} {m₀ m : List ℕ} {left kept from to : ℕ} (h : 0 < left) (K : Kept Picks m₀ m left kept from to) where
  here : Here m₀ from
  here = rest-here h K.rest

  written : table_head + length (encode_all K.ks) ≤ length m₀
  written = omega (arith, K.size, K.order, here.inside)

  same_at : (k : ℕ) → from ≤ k → get_or m k 0 ≡ get_or m₀ k 0
  same_at k le = ap (λ (l : List ℕ). get_or l k 0) K.bytes ∙ get_or_over m₀ (encode_all K.ks) k written (omega (arith, K.size, K.order))

  same_from : (k : ℕ) → from ≤ k → drop k m ≡ drop k m₀
  same_from k le = ap (drop k) K.bytes ∙ drop-over m₀ (encode_all K.ks) k written (omega (arith, K.size, K.order))

  same_len : len_at m from ≡ len_at m₀ from
  same_len = rw (same_at (from + length_offset) (omega arith), same_at (from + length_offset + 1) (omega arith))

  same-entry : entry_at m₀ from ≡ entry_at m from
  same-entry = sym (rw (same_at from (omega arith), same_len, same_from (from + entry_head) (omega arith)))

  -- the entry that comes next lies within the memory
  pub next-inside : next_at m from ≤ length m
  next-inside = omega (arith, same_len, here.inside, K.same)

  next-at : (size : ℕ) → size ≡ len_at m from + entry_head → from + size ≡ next_at m₀ from
  next-at size e = omega (arith, same_len)

  -- it is dropped
  pub kept-skip : (size : ℕ) → size ≡ len_at m from + entry_head
      → ((selected : List ℕ → Bool) → Picks selected → dropped_by selected (entry_at m from) ≡ true)
      → Kept Picks m₀ m (left - 1) kept (from + size) to
  kept-skip size e d = record {
    ks = K.ks;
    rest = rw (next-at size e) (rest-next h K.rest);
    order = omega (arith, K.order);
    size = K.size;
    count = K.count;
    few = omega (arith, K.few);
    bytes = K.bytes;
    same = K.same;
    all = λ selected p.
        K.all selected p
        ∙ ap (λ (l : List Entry). K.ks ++ l)
        (rw (next-at size e) (without-hit (dropped_by selected) m₀ left h from (ap (dropped_by selected) same-entry ∙ d selected p)));
  }

  module _ (size : ℕ) (e : size ≡ len_at m from + entry_head) where
    next-size : length (encode_entry (entry_at m₀ from)) ≡ size
    next-size = omega (arith, length-encode_entry (entry_at m₀ from), length-path m₀ from here.inside, same_len)

    next-bytes : Bytes m₀ → take size (drop from m) ≡ encode_entry (entry_at m₀ from)
    next-bytes b =
        ap (take size) (same_from from (omega arith) ∙ entry-law m₀ from (b.each (from + length_offset + 1)) here)
        ∙ take_at (encode_entry (entry_at m₀ from)) _ size next-size

    -- it is kept
    pub kept_move : Bytes m₀ → (m' : List ℕ) → ((selected : List ℕ → Bool) → Picks selected → dropped_by selected (entry_at m from) ≡ false)
        → m' ≡ overwrite m to (take size (drop from m)) → length m' ≡ length m → Kept Picks m₀ m' (left - 1) (kept + 1) (from + size) (to + size)
    unfolding encode_all
    kept_move b m' d q s =
        let x = entry_at m₀ from in
        let X = encode_entry x in
        let more : encode_all (K.ks ++ (x ∷ [])) ≡ encode_all K.ks ++ X =
        encode_all-append K.ks (x ∷ []) ∙ ap (λ (l : List ℕ). encode_all K.ks ++ l) (append-nil X)
        in
        record {
          ks = K.ks ++ (x ∷ []);
          rest = rw (next-at size e) (rest-next h K.rest);
          order = omega (arith, K.order);
          size = rw (more, length-append) (omega (arith, K.size, next-size));
          count = rw length-append (omega (arith, K.count));
          few = omega (arith, K.few);
          bytes = q ∙ rw (next-bytes b, K.bytes, K.size, more) (over-above m₀ table_head (encode_all K.ks) X written);
          same = s ∙ K.same;
          all = λ selected p.
              K.all selected p
              ∙ ap (λ (l : List Entry). K.ks ++ l)
              (rw (next-at size e) (without-miss (dropped_by selected) m₀ left h from (ap (dropped_by selected) same-entry ∙ d selected p)))
              ∙ sym (append_snoc K.ks x _);
        }

-- at the end the count is written
pub kept-end : {Picks : (List ℕ → Bool) → Type 0} (m₀ m l : List ℕ) (left kept from to : ℕ) → Bytes m₀ → holds m₀ ≡ true → left ≤ 0
    → Kept Picks m₀ m left kept from to → l ≡ overwrite m 0 (word kept)
    → (selected : List ℕ → Bool) → Picks selected → l ≡ put (dropping (dropped_by selected) (table_of m₀)) m₀
unfolding put table_of without offset_at entries_at encode_all
kept-end m₀ m l left kept from to b hold none K q selected p =
    let dropped = dropped_by selected in
    let es : without dropped (table_of m₀).entries ≡ K.ks = K.all selected p ∙ rw (entries_at-none m₀ left from none) (append-nil K.ks) in
    let e : encode (dropping dropped (table_of m₀)) ≡ head_bytes kept (get_or m₀ switches_at 0) (get_or m₀ marks_at 0) ++ encode_all K.ks =
    head_of (dropping dropped (table_of m₀)) kept (encode_all K.ks) _ _ (ap length es ∙ sym K.count) (ap encode_all es) refl refl
    in
    q
    ∙ ap (λ (l : List ℕ). overwrite l 0 (word kept)) K.bytes
    ∙ rw e (headed m₀ _ _ _ (encode_all K.ks) table_head _ _ (front m₀ b hold 0 (omega arith)) (omega (arith, (held m₀ hold).long)))

-- ---- the switches

-- the switches alone
pub switch-law : (m l : List ℕ) (v : ℕ) → Bytes m → holds m ≡ true → l ≡ set m switches_at v → l ≡ do_act m (set_switches v)
unfolding do_act put encode apply_act table_of
switch-law m l v b h q = q ∙ ap (λ (l : List ℕ). set l switches_at v) (sym (put_self m b h))

-- ---- every grant

-- every grant is dropped, and then the switch is cleared
pub revoke-all-law : (m l l' : List ℕ) (v : ℕ) → l ≡ put (dropping (dropped_by every_path) (table_of m)) m
    → v ≡ clear_bit (get_or l switches_at 0) granted → l' ≡ set l switches_at v → l' ≡ do_act m revoke_all
unfolding do_act put encode apply_act
revoke-all-law m l l' v e c s = s ∙ rw (c, e)
