-- Laws of loading a table: entries read and written one after the other.
use Rattle.refusals.proofs.CauseLaws.{Some-injective}
use Rattle.std.specs.Prelude.{Option, None, Some, IsSome}
use Rattle.std.proofs.Common.{rules}
use Prim.Native.Nat.{ℕ, ◌+◌, ◌-◌, ◌≤◌, ◌<◌}
use mathlib.Core.Path.{◌≡◌, refl, sym, ap, ◌∙◌}
use mathlib.Core.List.{List, [], ◌∷◌, ◌++◌, append-nil}
use native.Mathlib.Nat.{sub-zero}
use native.Mathlib.Omega.{arith}
use lib.ListN.{length, take, drop, length-append}
use lib.Seq.{take_at}
use Rattle.paths.specs.Copying.{begun, overwrite, Appends}
use Rattle.table.specs.Entries.{Entry}
use Rattle.table.specs.Memory.{table_head, entry_head, table_bytes, head_bytes, encode_entry, encode_all}
use Rattle.table.proofs.TableLaws.{valid-parts}
use Rattle.table.proofs.Codec.{length-encode_entry, length-encode, length-encode_all}
use Rattle.table.proofs.Overwrites.{appends-none, appends-as, appends-more}
use Rattle.table.proofs.Puts.{encode-fits}
use Rattle.table.proofs.TableCopies.{put-by}
use Rattle.records.specs.Records.{Read}
use Rattle.images.specs.declared.EntryRead.{EntryRead}
use Rattle.images.specs.declared.ImageRead.{ImageRead}
use Rattle.images.specs.Images.{image_head, Image, all_entry_words, image_words, read_entry, with_entry, read_entries, read_image}
use Rattle.images.specs.Steps.{entry_answer, entry_into, IsRead, loaded_by}
use Rattle.images.proofs.ImageLaws.{entries-read}
use Rattle.images.proofs.WrittenLaws.{image-written, image-writable}
use Rattle.images.proofs.ReadingLaws.{Told, told-nothing, entries-stop, entries-go, entries_none}

-- entries that were read, the first of them and the others
record Split (e : Entry) (o : Option (Read (List Entry))) (es : List Entry) : Type 0 where
  others : List Entry
  read : o ≡ Some (record { value = others; rest = [] })
  all : es ≡ e ∷ others

split : (e : Entry) (o : Option (Read (List Entry))) {es : List Entry} → with_entry e o ≡ Some (record { value = es; rest = [] }) → Split e o es
unfolding with_entry
split e None q = cc
split e (Some r) q =
    let same = Some-injective _ _ q in
    record {
      others = r.value;
      read = ap (λ (x : Read (List Entry)). Some (record { value = r.value; rest = x.rest })) same;
      all = sym (ap (λ (x : Read (List Entry)). x.value) same);
    }

-- whatever writing the entries that are left comes to, writing all of them comes to that
pub record Loading (ws : List ℕ) (es : List Entry) (m m' : List ℕ) (from at count done : ℕ) : Type 0 where
  pub rest : List Entry
  pub reads : read_entries (count - done) (drop from ws) ≡ Some (record { value = rest; rest = [] })
  pub goes : {m'' : List ℕ} {end : ℕ} → Appends (encode_all rest) m' at m'' end → Appends (encode_all es) m table_head m'' end
  pub room : at + length (encode_all rest) ≤ length m'
  pub same : length m' ≡ length m

-- the entries of an image that was read
abbrev pub entries_of : {image : Option Image} {told : ImageRead} → IsRead image told → List Entry
entries_of R = R.value.table.entries

pub loading-start : {ws : List ℕ} {told : ImageRead} (R : IsRead (read_image ws) told) (m : List ℕ) → table_bytes ≤ length m
    → Loading ws (entries_of R) m m image_head table_head told.count 0
unfolding image_words
loading-start {ws} {told} R m long =
    let es = entries_of R in
    let W = image-writable ws R.is in
    let words : drop image_head ws ≡ all_entry_words es ++ [] = ap (drop image_head) (sym (image-written ws R.is)) ∙ sym (append-nil (all_entry_words es)) in
    record {
      rest = es;
      reads = (λ i. read_entries ((sub-zero told.count ∙ R.same_count) i) (words i)) ∙ entries-read [] (valid-parts _ W.within).each W.bytes;
      goes = λ A. A;
      room = omega (arith, encode-fits R.value.table W.within, length-encode R.value.table, length-encode_all es);
      same = refl;
    }

-- the path that was read stands at the start of the space
pub record Stood (n : ℕ) (s p : List ℕ) : Type 0 where
  pub room : n ≤ length s
  pub is : take n s ≡ p

pub path-stands : {ws : List ℕ} {at : ℕ} {t : EntryRead} (E : Told ws at t) (s : List ℕ) {s' : List ℕ} → s' ≡ entry_into (read_entry (drop at ws)) s
    → Stood t.size s' E.entry.path
unfolding entry_into begun
path-stands {t = t} E s e =
    let is = e ∙ ap (λ (o : Option (Read Entry)). entry_into o s) E.read in
    record {
      room = rw (is, length-append E.entry.path _) (omega (arith, E.size));
      is = rw is (take_at _ _ t.size (sym E.size));
    }

module _ {ws : List ℕ} {es : List Entry} {m m' : List ℕ} {from at count done : ℕ} (L : Loading ws es m m' from at count done) where
  pub loading-some : done < count → {r : Option EntryRead} → r ≡ entry_answer from (read_entry (drop from ws)) → IsSome r
  loading-some h {r = Some t} e = search rules
  loading-some h {r = None} e = cc (sym (entries-stop count done (drop from ws) h (told-nothing from _ e)) ∙ L.reads)

  module _ {t : EntryRead} (h : done < count) (E : Told ws from t) where
    here : Split E.entry (read_entries (count - (done + 1)) (drop t.end ws)) L.rest
    here = split E.entry _ (sym (entries-go count done (drop from ws) h E.read) ∙ L.reads)

    sizes : length (encode_all L.rest) ≡ length (encode_entry E.entry) + length (encode_all here.others)
    unfolding encode_all
    sizes = ap (λ (x : List Entry). length (encode_all x)) here.all ∙ length-append (encode_entry E.entry) (encode_all here.others)

    pub loading-fits : at + entry_head + length E.entry.path ≤ length m'
    loading-fits = omega (arith, L.room, sizes, length-encode_entry E.entry)

    pub loading-next : {p m'' : List ℕ} {at' : ℕ} → p ≡ E.entry.path → Appends (encode_entry (record { kind = t.kind; path = p })) m' at m'' at'
        → length m'' ≡ length m' → Loading ws es m m'' t.end at' count (done + 1)
    unfolding encode_all
    loading-next path A' same =
        let A = appends-as (λ i. encode_entry (record { kind = E.same_kind i; path = path i })) A' in
        record {
          rest = here.others;
          reads = here.read;
          goes = λ B. L.goes (appends-as (ap encode_all (sym here.all)) (appends-more (omega (arith, L.room, sizes)) A B));
          room = omega (arith, L.room, sizes, A.end, same);
          same = same ∙ L.same;
        }

  pub loading-over : count ≤ done → Appends (encode_all es) m table_head m' at
  unfolding encode_all
  loading-over h =
      let none_left : L.rest ≡ [] =
      ap (λ (x : Read (List Entry)). x.value) (Some-injective _ _ (sym L.reads ∙ entries_none count done (drop from ws) h))
      in
      L.goes (appends-as (ap encode_all (sym none_left)) (appends-none m' at))

-- the table is the image's
pub loaded : (ws : List ℕ) {m m' m'' : List ℕ} {at : ℕ} {told : ImageRead} (R : IsRead (read_image ws) told) → table_bytes ≤ length m
    → Appends (encode_all (entries_of R)) m table_head m' at → m'' ≡ overwrite m' 0 (head_bytes told.count told.switches told.marks) → m'' ≡ loaded_by (read_image ws) m
unfolding loaded_by
loaded ws {m} R long A e =
    put-by R.value.table m (image-writable ws R.is).within long A (rw (← R.same-switches, ← R.same-marks, ← R.same_count) e) ∙ rw R.is

-- there are no more of them than a table has
pub few-read : (ws : List ℕ) {told : ImageRead} → IsRead (read_image ws) told → told.count < 65536
few-read ws R = omega (arith, R.same_count, (valid-parts _ (image-writable ws R.is).within).few)
