-- Memory of bytes is still of bytes after any call and any beginning of a run, so that the main can write an image after any of them.
use Prim.Native.Nat.{ℕ, zero, suc, ◌≤◌}
use mathlib.Core.Path.{◌≡◌, refl, ap, ◌∙◌}
use mathlib.Core.List.{List, ◌++◌}
use mathlib.Core.Bool.{Bool, true, false}
use native.Mathlib.Omega.{arith}
use lib.ListN.{length, take, drop}
use Rattle.refusals.specs.Refusals.{Result}
use Rattle.refusals.proofs.CauseLaws.{Hands, stops, hands}
use Rattle.paths.specs.Components.{Bytes}
use Rattle.paths.proofs.ByteLaws.{bytes-none, bytes-cons, bytes-append, bytes_drop}
use Rattle.table.specs.declared.Place.{Place}
use Rattle.table.specs.declared.Place.TheVariants.{Found, At}
use Rattle.table.specs.Entries.{Entry}
use Rattle.table.specs.Placing.{placed_at}
use Rattle.table.specs.Tables.{Table, max_path_bytes, fresh, path_bytes, is_table}
use Rattle.table.specs.Acts.{Act, insert, set_switches, revoke, revoke_all, inserted_by, inserted, kept_unless, without, apply_act, apply_acts}
use Rattle.table.specs.Memory.{table_of, holds, encode_entry, encode_all, encode, put, do_act, do_acts}
use Rattle.table.specs.Calls.{put_in}
use Rattle.table.proofs.TableLaws.{valid-parts, marks-small, fresh-table}
use Rattle.table.proofs.Within.{number_small}
use Rattle.table.proofs.Puts.{valid-of}
use Rattle.table.proofs.ActLaws.{table-acted, acted-one}
use Rattle.records.specs.Records.{act_path}
use Rattle.images.specs.Images.{PathBytes, no-entry, entry_more}
use Rattle.images.proofs.ImageLaws.{entries-bytes}
use Rattle.link.specs.Beginning.{BeginsRun}
use Rattle.handover.specs.Handover.{Main, Step}
use Rattle.handover.proofs.RecordableLaws.{Recorded, no-act, act-more}
use Rattle.handover.proofs.MainLaws.{step-advances, Begun, begin-hands}

-- ---- a table's paths, and what an act makes of them

paths-append : {a b : List Entry} → PathBytes a → PathBytes b → PathBytes (a ++ b)
paths-append no-entry B = B
paths-append (entry_more P A) B = entry_more P (paths-append A B)

paths-take : (k : ℕ) {es : List Entry} → PathBytes es → PathBytes (take k es)
paths-take zero A = no-entry
paths-take (suc k) no-entry = no-entry
paths-take (suc k) (entry_more P A) = entry_more P (paths-take k A)

paths-drop : (k : ℕ) {es : List Entry} → PathBytes es → PathBytes (drop k es)
paths-drop zero A = A
paths-drop (suc k) no-entry = no-entry
paths-drop (suc k) (entry_more P A) = paths-drop k A

paths-placed : (where_to : Place) {es : List Entry} (e : Entry) → PathBytes es → Bytes e.path → PathBytes (placed_at where_to es e)
unfolding placed_at
paths-placed Found e A P = A
paths-placed (At k) e A P = paths-append (paths-take k A) (entry_more P (paths-drop k A))

paths-kept : (b : Bool) (e : Entry) {es : List Entry} → Bytes e.path → PathBytes es → PathBytes (kept_unless b e es)
unfolding kept_unless
paths-kept true e P A = A
paths-kept false e P A = entry_more P A

paths-without : (dropped : Entry → Bool) {es : List Entry} → PathBytes es → PathBytes (without dropped es)
unfolding without
paths-without dropped no-entry = no-entry
paths-without dropped (entry_more {e = e} P A) = paths-kept (dropped e) e P (paths-without dropped A)

paths-acted : (t : Table) (act : Act) → PathBytes t.entries → Bytes (act_path act) → PathBytes (apply_act t act).entries
unfolding apply_act inserted inserted_by act_path
paths-acted t (insert e) A P = paths-placed _ e A P
paths-acted t (set_switches v) A P = A
paths-acted t (revoke q) A P = paths-without _ A
paths-acted t revoke_all A P = paths-without _ A

-- ---- memory

encode-bytes : {es : List Entry} → PathBytes es → path_bytes es ≤ max_path_bytes → Bytes (encode_all es)
unfolding encode_all encode_entry path_bytes
encode-bytes no-entry h = bytes-none
encode-bytes (entry_more {e = e} P A) h =
    bytes-append (encode_entry e) _ (bytes-cons (omega (arith, number_small e.kind)) (bytes-cons (omega arith) (bytes-cons (omega arith) P)))
    (encode-bytes A (omega arith))

pub put-bytes : {m : List ℕ} (t : Table) → Bytes m → is_table t ≡ true → PathBytes t.entries → Bytes (put t m)
unfolding put encode
put-bytes {m} t B v A =
    let K = valid-parts t v in
    bytes-append (encode t) _
    (bytes-cons (omega (arith, K.few)) (bytes-cons (omega arith) (bytes-cons (omega (arith, K.switches)) (bytes-cons
    (omega (arith, K.marks, marks-small t.entries))
    (encode-bytes A K.bytes)))))
    (bytes_drop (length (encode t)) m B)

acts-bytes : {run : ℕ} {m : List ℕ} {n : ℕ} {t : Table} {acts : List Act} → Bytes m → holds m ≡ true → table_of m ≡ t → Recorded run n t acts → Bytes (do_acts m acts)
unfolding do_acts do_act apply_acts
acts-bytes B h e no-act = B
acts-bytes {m} B h e (act-more {act = act} R A) =
    let one = acted-one m act h R.readable.fits (rw e R.room) in
    let left = table-acted (table_of m) act (valid-of m h) R.readable.fits (rw e R.room) in
    acts-bytes {m = put (apply_act (table_of m) act) m} (put-bytes _ B left (paths-acted (table_of m) act (entries-bytes m B) R.readable.bytes)) one.holding
    (one.table ∙ ap (λ (t : Table). apply_act t act) e)
    A

pub step-bytes : {run : ℕ} {a a' : Main} {acts : List Act} {wrote : List ℕ} → Bytes a.memory → holds a.memory ≡ true → Step run a acts wrote a'
    → Bytes a'.memory
step-bytes B h S = let W = step-advances h S in rw W.memory (acts-bytes B h refl W.recorded)

-- a run that begins, or is refused
pub begin-bytes : {m : List ℕ} {q n : ℕ} {m' : List ℕ} {n' : ℕ} {r : Result Unit} → Bytes m → BeginsRun m q n m' n' r → Bytes m'
unfolding put_in
begin-bytes {m} {q} B W = rw W.memory (by (begin-hands m q))
  where
    by : {call : Result Table} → Hands (Begun m) call → Bytes (put_in call m)
    by stops = B
    by (hands K) = rw K.is (put-bytes fresh B fresh-table no-entry)
