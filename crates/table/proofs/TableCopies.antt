-- A table that is copied to other memory: the bytes up to where its entries end are the table. And one that is written there as a whole: its entries one
-- behind the other, and then what stands before them.
use Prim.Native.Nat.{ℕ, ◌≤◌}
use mathlib.Core.Path.{◌≡◌, ap, ◌∙◌}
use mathlib.Core.List.{List}
use mathlib.Core.Bool.{true}
use native.Mathlib.Omega.{arith}
use native.Mathlib.Nat.{zero-add}
use lib.ListN.{length, take}
use Rattle.paths.specs.Components.{Bytes}
use Rattle.paths.specs.Copying.{overwrite, Appends}
use Rattle.table.specs.Tables.{Table, is_table}
use Rattle.table.specs.Memory.{table_head, table_bytes, table_of, holds, head_bytes, encode_all, encode, put}
use Rattle.table.specs.Listing.{used_bytes}
use Rattle.table.proofs.Puts.{encode-fits}
use Rattle.table.proofs.Codec.{length-encode_all, length-encode}
use Rattle.table.proofs.Overwrites.{over_below}
use Rattle.table.proofs.ListingLaws.{used-front}

module _ (p : List ℕ) (b : Bytes p) (h : holds p ≡ true) {end : ℕ} (e : end ≡ used_bytes (table_of p)) where
  copied : take end p ≡ encode (table_of p)
  copied = rw e (used-front p b h)

  pub copy-law : (c : List ℕ) {c' : List ℕ} → c' ≡ overwrite c 0 (take end p) → c' ≡ put (table_of p) c
  unfolding overwrite put
  copy-law c q = q ∙ rw (copied, zero-add)

-- the entries of t are written from the place of the first on, and then its count, switches and marks
pub put-by : (t : Table) (m : List ℕ) {m' m'' : List ℕ} {at : ℕ} → is_table t ≡ true → table_bytes ≤ length m → Appends (encode_all t.entries) m table_head m' at
    → m'' ≡ overwrite m' 0 (head_bytes (length t.entries) t.switches t.marks) → m'' ≡ put t m
unfolding overwrite put encode
put-by t m v long A e =
    let E = encode_all t.entries in
    let H = head_bytes (length t.entries) t.switches t.marks in
    e
    ∙ ap (λ (x : List ℕ). overwrite x 0 H) A.content
    ∙ over_below m 0 H E (omega (arith, encode-fits t v, length-encode t, length-encode_all t.entries))
    ∙ rw zero-add
