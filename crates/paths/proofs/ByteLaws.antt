-- Laws of bytes: parts of byte lists and lists put together are bytes, and resolving bytes gives bytes.
use Prim.Native.Nat.{ℕ, zero, suc, ◌<◌}
use mathlib.Core.List.{List, [], ◌∷◌, ◌++◌, drop_last}
use mathlib.Core.Bool.{Bool, true, false}
use native.Mathlib.Omega.{arith}
use lib.ListN.{get_or, take, drop}
use lib.Dec.{eqb}
use Rattle.paths.specs.Components.{Bytes, slash, dot, same, grown, parted, pieces, slashed, spell}
use Rattle.paths.specs.Resolving.{is_absolute, join, entered, enter_all, normalize, resolve}
use Rattle.paths.proofs.ComponentLaws.{either}

pub bytes-none : Bytes []
bytes-none = record { each = λ k. omega arith }

pub bytes-cons : {a : ℕ} {p : List ℕ} → a < 256 → Bytes p → Bytes (a ∷ p)
bytes-cons {a} {p} h B = record { each = λ k. go k }
  where
    go : (k : ℕ) → get_or (a ∷ p) k 0 < 256
    go zero = h
    go (suc k) = B.each k

pub bytes-head : {a : ℕ} {p : List ℕ} → Bytes (a ∷ p) → a < 256
bytes-head B = B.each 0

pub bytes-tail : {a : ℕ} {p : List ℕ} → Bytes (a ∷ p) → Bytes p
bytes-tail B = record { each = λ k. B.each (suc k) }

pub bytes-append : (p q : List ℕ) → Bytes p → Bytes q → Bytes (p ++ q)
bytes-append [] q B C = C
bytes-append (a ∷ p) q B C = bytes-cons (bytes-head B) (bytes-append p q (bytes-tail B) C)

pub bytes_take : (n : ℕ) (p : List ℕ) → Bytes p → Bytes (take n p)
bytes_take zero p B = bytes-none
bytes_take (suc n) [] B = bytes-none
bytes_take (suc n) (a ∷ p) B = bytes-cons (bytes-head B) (bytes_take n p (bytes-tail B))

pub bytes_drop : (n : ℕ) (p : List ℕ) → Bytes p → Bytes (drop n p)
bytes_drop zero p B = B
bytes_drop (suc n) [] B = bytes-none
bytes_drop (suc n) (a ∷ p) B = bytes_drop n p (bytes-tail B)

-- ---- components

data AllBytes : List (List ℕ) → Type 0 where
  no-piece : AllBytes []
  piece : {c : List ℕ} {cs : List (List ℕ)} → Bytes c → AllBytes cs → AllBytes (c ∷ cs)

grown-bytes : {b : ℕ} {cs : List (List ℕ)} → b < 256 → AllBytes cs → AllBytes (grown b cs)
unfolding grown
grown-bytes h no-piece = piece (bytes-cons h bytes-none) no-piece
grown-bytes h (piece B A) = piece (bytes-cons h B) A

parted-bytes : (x : Bool) {b : ℕ} {cs : List (List ℕ)} → b < 256 → AllBytes cs → AllBytes (parted x b cs)
unfolding parted
parted-bytes true h A = piece bytes-none A
parted-bytes false h A = grown-bytes h A

pieces-bytes : (p : List ℕ) → Bytes p → AllBytes (pieces p)
unfolding pieces
pieces-bytes [] B = piece bytes-none no-piece
pieces-bytes (b ∷ p) B = parted-bytes (eqb b slash) (bytes-head B) (pieces-bytes p (bytes-tail B))

all_append : {cs ds : List (List ℕ)} → AllBytes cs → AllBytes ds → AllBytes (cs ++ ds)
all_append no-piece D = D
all_append (piece B A) D = piece B (all_append A D)

last-bytes : {cs : List (List ℕ)} → AllBytes cs → AllBytes (drop_last cs)
last-bytes no-piece = no-piece
last-bytes (piece B no-piece) = no-piece
last-bytes (piece B (piece C A)) = piece B (last-bytes (piece C A))

entered-bytes : {done : List (List ℕ)} (c : List ℕ) → AllBytes done → Bytes c → AllBytes (entered done c)
unfolding entered
entered-bytes {done} c A B =
    either AllBytes (same c []) done _ A
    (either AllBytes (same c (dot ∷ [])) done _ A
    (either AllBytes (same c (dot ∷ dot ∷ [])) (drop_last done) (done ++ c ∷ []) (last-bytes A) (all_append A (piece B no-piece))))

entered_all : {done cs : List (List ℕ)} → AllBytes done → AllBytes cs → AllBytes (enter_all done cs)
unfolding enter_all
entered_all A no-piece = A
entered_all {done = done} A (piece {c = c} B D) = entered_all {done = entered done c} (entered-bytes c A B) D

slashed-bytes : {cs : List (List ℕ)} → AllBytes cs → Bytes (slashed cs)
unfolding slashed
slashed-bytes no-piece = bytes-none
slashed-bytes (piece {c = c} {cs = cs} B A) = bytes-cons {a = slash} (omega arith) (bytes-append c (slashed cs) B (slashed-bytes A))

spell-bytes : {cs : List (List ℕ)} → AllBytes cs → Bytes (spell cs)
unfolding spell
spell-bytes no-piece = bytes-cons {a = slash} (omega arith) bytes-none
spell-bytes (piece B A) = slashed-bytes (piece B A)

pub resolve-bytes : (p cwd : List ℕ) → Bytes p → Bytes cwd → Bytes (resolve p cwd)
unfolding resolve normalize join
resolve-bytes p cwd B C =
    let joined = either Bytes (is_absolute p) p (cwd ++ slash ∷ p) B (bytes-append cwd (slash ∷ p) C (bytes-cons {a = slash} (omega arith) B)) in
    spell-bytes (entered_all no-piece (pieces-bytes _ joined))
