-- Laws of the lines: how long each is, and the loop over the entries.
use Prim.Native.Nat.{ℕ, ◌+◌, ◌*◌, ◌≤◌}
use mathlib.Core.Path.{◌≡◌, refl, sym, ◌∙◌}
use mathlib.Core.List.{List, [], ◌∷◌, ◌++◌, append-nil, append_assoc}
use mathlib.Core.Bool.{true, false}
use native.Mathlib.Omega.{arith}
use lib.ListN.{length, length-append}
use Rattle.paths.specs.Copying.{Appends}
use Rattle.table.specs.Entries.{Entry}
use Rattle.table.specs.Tables.{Table, path_bytes, is_table}
use Rattle.table.proofs.Overwrites.{appends-none, appends-as}
use Rattle.table.proofs.TableLaws.{valid-parts}
use Rattle.standby.specs.declared.Numbers.{Numbers}
use Rattle.standby.specs.Owing.{owed_of}
use Rattle.text.specs.Text.{newline, labelled, kind_letter}
use Rattle.text.specs.Escaping.{escaped_bytes, escaped}
use Rattle.text.proofs.EscapeLaws.{escaped-long}
use Rattle.text.proofs.DecimalLaws.{decimal-few}
use Rattle.text.proofs.PieceLaws.{then}
use Rattle.holdlist.specs.Lines.{
  header_bytes,
  header,
  line_bytes,
  entry_line,
  entry_lines,
  entries_bytes,
  stopped_bytes,
  stopped_line,
  listing_of,
}

-- ---- the header

module _ (t : Table) (s : Numbers) where
  header-long : length (header t s) ≤ header_bytes
  unfolding header
  header-long =
      simp length-append
      (omega (
        arith,
        decimal-few (length t.entries),
        decimal-few s.n,
        decimal-few (owed_of s),
        decimal-few t.switches,
        decimal-few t.marks,
      ))

  pub header-end : {m m' : List ℕ} {r : ℕ} → Appends (header t s) m 0 m' r → r ≤ header_bytes
  header-end A = omega (arith, A.end, header-long)

  pub header-written : (count owed switches marks : ℕ) {m m₁ m₂ m₃ m₄ m₅ m₆ : List ℕ} {n₁ n₂ n₃ n₄ n₅ r : ℕ} → header_bytes ≤ length m
      → count ≡ length t.entries → owed ≡ owed_of s → switches ≡ t.switches → marks ≡ t.marks
      → Appends (labelled "entries " count) m 0 m₁ n₁ → Appends (labelled " changes " s.n) m₁ n₁ m₂ n₂ → Appends (labelled " owed " owed) m₂ n₂ m₃ n₃
      → Appends (labelled " switches " switches) m₃ n₃ m₄ n₄ → Appends (labelled " marks " marks) m₄ n₄ m₅ n₅ → Appends newline m₅ n₅ m₆ r
      → Appends (header t s) m 0 m₆ r
  unfolding header
  header-written count owed switches marks h c ow sw mk a b o d e f =
      let l₁ = decimal-few count in
      let l₂ = decimal-few s.n in
      let l₃ = decimal-few owed in
      let l₄ = decimal-few switches in
      let l₅ = decimal-few marks in
      rw (sym c, sym ow, sym sw, sym mk)
      (then (omega arith) (then (omega arith) (then (omega arith) (then (omega arith) (then (omega arith) a b) o) d) e) f)

-- ---- entries

pub entry-written : (e : Entry) (letter : ℕ) {m : List ℕ} {at : ℕ} {m₁ m₂ m₃ : List ℕ} {n₁ n₂ r : ℕ} → letter ≡ kind_letter e.kind
    → at + escaped_bytes * length e.path + line_bytes ≤ length m
    → Appends (letter ∷ 32 ∷ []) m at m₁ n₁ → Appends (escaped e.path) m₁ n₁ m₂ n₂ → Appends newline m₂ n₂ m₃ r → Appends (entry_line e) m at m₃ r
unfolding entry_line
entry-written e letter same h a b c =
    let l = escaped-long e.path in
    rw (sym same) (then (omega arith) (then (omega arith) a b) c)

entry-long : (e : Entry) → length (entry_line e) ≤ escaped_bytes * length e.path + line_bytes
unfolding entry_line
entry-long e = simp length-append (omega (arith, escaped-long e.path))

-- the lines so far, with those of the entries that are left after them, are all the lines, and there is room for them
pub record Lining (entries : List Entry) (space : List ℕ) (at : ℕ) (space' : List ℕ) (end : ℕ) (left : List Entry) : Type 0 where
  pub done : List ℕ
  pub written : Appends done space at space' end
  pub whole : done ++ entry_lines left ≡ entry_lines entries
  pub room : end + escaped_bytes * path_bytes left + line_bytes * length left ≤ length space
  pub same : length space' ≡ length space

pub lining-start : (entries : List Entry) (space : List ℕ) (at : ℕ) {left : List Entry} → left ≡ entries
    → at + escaped_bytes * path_bytes entries + line_bytes * length entries ≤ length space → Lining entries space at space at left
lining-start entries space at e r = rw e (record { done = []; written = appends-none space at; whole = refl; room = r; same = refl })

module _ {entries : List Entry} {space : List ℕ} {at : ℕ} {space' : List ℕ} {end : ℕ} {left : List Entry} (L : Lining entries space at space' end left) where
  pub lining-end : left ≡ [] → Appends (entry_lines entries) space at space' end
  unfolding entry_lines
  lining-end e = appends-as (sym (append-nil L.done) ∙ rw e at L.whole) L.written

  module _ {e : Entry} {rest : List Entry} (next : left ≡ e ∷ rest) where
    pub lining-room : end + escaped_bytes * length e.path + line_bytes ≤ length space'
    unfolding path_bytes
    lining-room = omega (arith, rw next at L.room, L.same)

    pub lining-next : {space'' : List ℕ} {end' : ℕ} → Appends (entry_line e) space' end space'' end' → length space'' ≡ length space'
        → Lining entries space at space'' end' rest
    unfolding entry_lines path_bytes
    lining-next A l =
        let room = rw next at L.room in
        record {
          done = L.done ++ entry_line e;
          written = then (omega (arith, L.room)) L.written A;
          whole = append_assoc L.done (entry_line e) (entry_lines rest) ∙ rw next at L.whole;
          room = omega (arith, room, A.end, entry-long e);
          same = l ∙ L.same;
        }

-- ---- all that is printed

pub stopped-written : (w : ℕ) {m : List ℕ} {at : ℕ} {m₁ m₂ : List ℕ} {n₁ r : ℕ} → at + stopped_bytes ≤ length m
    → Appends (labelled "stopped at word " w) m at m₁ n₁ → Appends newline m₁ n₁ m₂ r → Appends (stopped_line w) m at m₂ r
unfolding stopped_line
stopped-written w h a b = let l = decimal-few w in then (omega arith) a b

lines_long : (es : List Entry) → length (entry_lines es) ≤ escaped_bytes * path_bytes es + line_bytes * length es
unfolding entry_lines path_bytes
lines_long [] = omega arith
lines_long (e ∷ es) = omega (arith, length-append (entry_line e) (entry_lines es), entry-long e, lines_long es)

-- the limits of a table
module _ (t : Table) (valid : is_table t ≡ true) where
  pub entries-room : escaped_bytes * path_bytes t.entries + line_bytes * length t.entries ≤ entries_bytes
  entries-room = let limits = valid-parts t valid in omega (arith, limits.few, limits.bytes)

  pub entries-end : {m : List ℕ} {at : ℕ} {m' : List ℕ} {r : ℕ} → Appends (entry_lines t.entries) m at m' r → r ≤ at + entries_bytes
  entries-end A = omega (arith, A.end, entries-room, lines_long t.entries)

module _ (t : Table) (s : Numbers) (words : ℕ) {m m₁ m₂ : List ℕ} {n₁ n₂ : ℕ} (h : n₁ ≤ length m) (a : Appends (header t s) m 0 m₁ n₁)
    (b : Appends (entry_lines t.entries) m₁ n₁ m₂ n₂) where
  pub listing-whole : Appends (listing_of t s words false) m 0 m₂ n₂
  unfolding listing_of
  listing-whole = appends-as (sym (append-nil _)) (then h a b)

  pub listing-stopped : {m₃ : List ℕ} {r : ℕ} → n₂ ≤ length m → Appends (stopped_line words) m₂ n₂ m₃ r → Appends (listing_of t s words true) m 0 m₃ r
  unfolding listing_of
  listing-stopped l c = then l (then h a b) c
