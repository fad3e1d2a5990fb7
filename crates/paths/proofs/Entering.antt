-- Laws of resolving in bytes: what is written over a work area, the last slash, and components entered in turn.
use Rattle.std.specs.Prelude.{Option, None, Some, MatchOption}
use Rattle.std.specs.Option.{unwrap_or}
use Prim.Native.Nat.{ℕ, suc, ◌+◌, ◌≤◌, ◌<◌}
use mathlib.Core.Path.{◌≡◌, refl, sym, ap, ◌∙◌}
use mathlib.Core.List.{List, [], ◌∷◌, ◌++◌, drop_last, append_assoc, append-nil, nil≢cons}
use mathlib.Core.Bool.{Bool, true, false, ◌&&◌, ◌||◌, not, cond, false≢true}
use native.Mathlib.Omega.{arith}
use native.Mathlib.Numerals.{add-one}
use lib.ListN.{length, get_or, take, drop, set, length-set, length-append, length-drop}
use Rattle.std.proofs.lemmas.List.{length-take, take-take}
use denote.Ref.{Bor}
use denote.Param.Members.{Mut}
use Rattle.std.specs.declared.slice.Split.{Split}
use Rattle.std.specs.Fn.{CalledAt}
use Rattle.std.specs.Iterator.{Yields}
use Rattle.std.specs.List.{slice_split}
use Rattle.std.specs.Slice.Iter.{split_rest, split_done, split_callee, split_steps}
use Rattle.std.proofs.lemmas.Iterator.{YieldsList}
use Rattle.std.proofs.lemmas.Iterator.Consumers.{YieldsList-at, YieldsList-turn, YieldsList-end}
use Rattle.std.proofs.lemmas.Iterator.Splits.{YieldsList-from_slice_split}
use Rattle.std.proofs.lemmas.List.{drop_all}
use lib.Seq.{take-suc-set, append_snoc, get_or-drop, split_at, drop-cons}
use lib.Dec.{eqb}
use borrow.Author.Tests.{ne_eqb}
use Rattle.paths.specs.Components.{slash, dot, same, grown, parted, pieces, slashed}
use Rattle.paths.specs.Resolving.{is_name, entered, enter_all}
use Rattle.paths.specs.Copying.{overwrite}
use Rattle.paths.specs.Entering.{has_slash, before_last, entered_bytes, enter_all_bytes, Begins}
use Rattle.paths.proofs.CopyLaws.{take-over}
use Rattle.paths.proofs.ComponentLaws.{Unslashed, none, more, Each, nil, cons, pieces-slash, pieces-unslashed, slashed-pieces}
use Rattle.paths.proofs.ResolvingLaws.{each-entered}
use Rattle.paths.proofs.Scanning.{and-false, pieces-split, names}

-- ---- a name written into the work area

take-stored : (w : List ℕ) (n b : ℕ) → n < length w → take (n + 1) (set w n b) ≡ take n w ++ b ∷ []
take-stored w n b h = rw (add-one n) (take-suc-set w n b h)

-- a slash stored at n, and a name written behind it
pub name-added : (w w' : List ℕ) (n : ℕ) (c : List ℕ) → n + 1 + length c ≤ length w → w' ≡ overwrite (set w n slash) (n + 1) c
    → Begins w' (n + 1 + length c) (n + 1 + length c) (take n w ++ slash ∷ c)
name-added w w' n c h e = record {
  few = omega arith;
  front = ap (take (n + 1 + length c)) e ∙ take-over (set w n slash) (n + 1) c (simp length-set h)
      ∙ ap (λ (l : List ℕ). l ++ c) (take-stored w n slash (omega arith)) ∙ append_snoc (take n w) slash c;
}

pub ruleset adding = (name-added, length-set)

-- ---- the last slash

-- a slash in the second part is one in the whole
has_slash-right : (v w : List ℕ) → has_slash w ≡ true → has_slash (v ++ w) ≡ true
unfolding has_slash
has_slash-right [] w e = e
has_slash-right (a ∷ v) w e = rw (has_slash-right v w e) (or-true (eqb a slash))
  where
    or-true : (t : Bool) → t || true ≡ true
    or-true true = refl
    or-true false = refl

has_slash-unslashed : {c : List ℕ} → Unslashed c → has_slash c ≡ false
unfolding has_slash
has_slash-unslashed none = refl
has_slash-unslashed (more {b = b} h u) = rw (ne_eqb b slash h, has_slash-unslashed u)

has_slash_first : (w : List ℕ) → has_slash (slash ∷ w) ≡ true
unfolding has_slash
has_slash_first w = refl

before_last-right : (v w : List ℕ) → has_slash w ≡ true → before_last (v ++ w) ≡ v ++ before_last w
unfolding before_last
before_last-right [] w e = refl
before_last-right (a ∷ v) w e = rw (has_slash-right v w e, before_last-right v w e)

before_last-unslashed : {c : List ℕ} → Unslashed c → before_last (slash ∷ c) ≡ []
unfolding before_last
before_last-unslashed u = rw (has_slash-unslashed u)

before_last_none : {w : List ℕ} → Unslashed w → before_last w ≡ []
unfolding before_last
before_last_none none = refl
before_last_none (more h u) = rw (has_slash-unslashed u)

unslashed_by : (w : List ℕ) → ((k : ℕ) → k < length w → get_or w k 0 ≡ slash → ⊥) → Unslashed w
unslashed_by [] h = none
unslashed_by (b ∷ w) h = more (h 0 (omega arith)) (unslashed_by w (λ k l. h (suc k) (omega arith)))

-- the place of the last slash, if there is one
abbrev pub LastSlash : List ℕ → Option ℕ → Type 0
LastSlash w r =
    MatchOption r ((k : ℕ) → k < length w → get_or w k 0 ≡ slash → ⊥)
    (λ i. (i < length w) × (get_or w i 0 ≡ slash) × ((k : ℕ) → i + 1 ≤ k → k < length w → get_or w k 0 ≡ slash → ⊥))

pub begins_last : (w : List ℕ) (r : Option ℕ) → LastSlash w r → Begins w (unwrap_or r 0) (length w) (before_last w)
begins_last w None h = record { few = omega arith; front = sym (before_last_none (unslashed_by w h)) }
begins_last w (Some i) h =
    let behind : Unslashed (drop (suc i) w) =
    unslashed_by _ (λ k l. rw get_or-drop (h.2 (suc i + k) (omega arith) (omega (arith, length-drop (suc i) w)))) in
    let parts : w ≡ take i w ++ slash ∷ drop (suc i) w = rw h.1 at (split_at w i 0 h.0) in
    record {
      few = omega (arith, h.0);
      front = sym (ap before_last parts ∙ before_last-right (take i w) (slash ∷ drop (suc i) w) (has_slash_first (drop (suc i) w))
          ∙ ap (λ (l : List ℕ). take i w ++ l) (before_last-unslashed behind) ∙ append-nil (take i w));
    }

-- ---- one component more, by its length and its first two bytes

module _ (w : List ℕ) where
  pub entered-empty : (c : List ℕ) → length c ≡ 0 → entered_bytes w c ≡ w
  unfolding entered_bytes same
  entered-empty [] h = refl
  entered-empty (a ∷ c) h = absurd (omega arith)

  pub entered-here : (c : List ℕ) → length c ≡ 1 → get_or c 0 0 ≡ dot → entered_bytes w c ≡ w
  unfolding entered_bytes same
  entered-here [] h k = absurd (omega arith)
  entered-here (a ∷ []) h k = rw k
  entered-here (a ∷ b ∷ c) h k = absurd (omega arith)

  pub entered-up : (c : List ℕ) → length c ≡ 2 → get_or c 0 0 ≡ dot → get_or c 1 0 ≡ dot → entered_bytes w c ≡ before_last w
  unfolding entered_bytes same
  entered-up [] h k l = absurd (omega arith)
  entered-up (a ∷ []) h k l = absurd (omega arith)
  entered-up (a ∷ b ∷ []) h k l = rw (k, l)
  entered-up (a ∷ b ∷ d ∷ c) h k l = absurd (omega arith)

  pub entered-name : (c : List ℕ) → is_name c ≡ true → entered_bytes w c ≡ w ++ slash ∷ c
  unfolding entered_bytes is_name
  entered-name c = go (same c []) (same c (dot ∷ [])) (same c (dot ∷ dot ∷ []))
    where
      go : (empty here up : Bool) → not empty && not here && not up ≡ true
          → cond empty w (cond here w (cond up (before_last w) (w ++ slash ∷ c))) ≡ w ++ slash ∷ c
      go true here up e = absurd (false≢true e)
      go false true up e = absurd (false≢true e)
      go false false true e = absurd (false≢true e)
      go false false false e = refl

-- the first n bytes begin with what the first of them begin with
pub begins_within : {w v : List ℕ} {r : ℕ} (n : ℕ) (most : ℕ) → n ≤ most → Begins (take n w) r (length (take n w)) v → Begins w r most v
begins_within {w = w} {r = r} n most h b =
    let few : r ≤ n = omega (arith, b.few, length-take n w) in
    record { few = omega arith; front = rw take-take at b.front }

pub ruleset entering = (names, entered-empty, entered-here, entered-up, entered-name)

-- ---- components entered in turn, in bytes

-- n bytes are entered of the components before cs, and cs follow
pub record Entering (w₀ : List ℕ) (len : ℕ) (src w : List ℕ) (n : ℕ) (cs : List (List ℕ)) : Type 0 where
  pub few : n + length (slashed cs) ≤ len + length src + 1
  pub long : length w ≡ length w₀
  pub rest : enter_all_bytes (take len w₀) (pieces src) ≡ enter_all_bytes (take n w) cs

pub entering-start : (w : List ℕ) (len : ℕ) (src : List ℕ) → Entering w len src w len (pieces src)
entering-start w len src = record { few = rw slashed-pieces (omega arith); long = refl; rest = refl }

module _ {w₀ : List ℕ} {len : ℕ} {src w : List ℕ} {n : ℕ} where
  -- how much room the next component takes
  pub entering-room : {c : List ℕ} {cs : List (List ℕ)} → Entering w₀ len src w n (c ∷ cs) → n + 1 + length c + length (slashed cs) ≤ len + length src + 1
  unfolding slashed
  entering-room {c = c} {cs = cs} i = omega (arith, i.few, length-append c (slashed cs))

  pub entering-more : {w' : List ℕ} {r : ℕ} {c : List ℕ} {cs : List (List ℕ)} → Entering w₀ len src w n (c ∷ cs) → length w' ≡ length w
      → Begins w' r (n + 1 + length c) (entered_bytes (take n w) c) → Entering w₀ len src w' r cs
  unfolding enter_all_bytes
  entering-more {cs = cs} i l b = record {
    few = omega (arith, b.few, entering-room i);
    long = l ∙ i.long;
    rest = i.rest ∙ ap (λ (v : List ℕ). enter_all_bytes v cs) (sym b.front);
  }

  pub entering-end : Entering w₀ len src w n [] → Begins w n (len + length src + 1) (enter_all_bytes (take len w₀) (pieces src))
  unfolding enter_all_bytes
  entering-end i = record { few = omega (arith, i.few); front = sym i.rest }

-- a `for` over the parts that `split` gives, which has had xs: at a turn one component and those behind it, at the end none
module _ {F : Type 0} {g : Mut F (Bor ℕ × Unit {0}) Bool} {f : F} {s i : Split ℕ F} (src : List ℕ)
    (begun : i ≡ s) (rest : split_rest s ≡ src) (left : split_done s ≡ false) (closure : split_callee s ≡ f)
    (xs : List (Bor (List ℕ))) (t : Split ℕ F) (so_far : Yields (split_steps g) i xs t) where
  parts : ((x : ℕ) (b : Bool) (q : F) → CalledAt g f x b q → (q ≡ f) × (b ≡ eqb x slash)) → YieldsList (split_steps g) (λ x. x.now) i (slice_split (λ b. eqb b slash) src)
  parts slashes = YieldsList-at begun (YieldsList-from_slice_split g (λ b. eqb b slash) src rest left closure slashes)

  pub parts_turn : (r : Option (Bor (List ℕ))) (u : Split ℕ F) (x : Bor (List ℕ)) → r ≡ Some x → split_steps g t r u
      → ((x : ℕ) (b : Bool) (q : F) → CalledAt g f x b q → (q ≡ f) × (b ≡ eqb x slash)) → drop (length xs) (pieces src) ≡ x.now ∷ drop (length xs + 1) (pieces src)
  parts_turn r u x e next slashes =
      let h = YieldsList-turn (parts slashes) xs t so_far r u x e next in
      rw (pieces-split, add-one (length xs), drop-cons (slice_split (λ b. eqb b slash) src) (length xs) x.now h.0, ← h.1)

  pub parts-end : (r : Option (Bor (List ℕ))) (u : Split ℕ F) → r ≡ None → split_steps g t r u
      → ((x : ℕ) (b : Bool) (q : F) → CalledAt g f x b q → (q ≡ f) × (b ≡ eqb x slash)) → drop (length xs) (pieces src) ≡ []
  parts-end r u e next slashes =
      let h = YieldsList-end (parts slashes) xs t so_far r u e next in
      rw pieces-split (drop_all (length xs) _ (omega arith))

-- ---- the bytes are those of the components

slashed-snoc : (done : List (List ℕ)) (c : List ℕ) → slashed (done ++ c ∷ []) ≡ slashed done ++ slash ∷ c
unfolding slashed
slashed-snoc [] c = append-nil (slash ∷ c)
slashed-snoc (d ∷ done) c = ap (λ (l : List ℕ). slash ∷ d ++ l) (slashed-snoc done c) ∙ sym (append_assoc (slash ∷ d) (slashed done) (slash ∷ c))

before_last-slashed : {done : List (List ℕ)} → Each Unslashed done → before_last (slashed done) ≡ slashed (drop_last done)
unfolding slashed before_last has_slash
before_last-slashed nil = refl
before_last-slashed (cons {c = c} u nil) = ap before_last (append-nil (slash ∷ c)) ∙ before_last-unslashed u
before_last-slashed (cons {c = c} u (cons {c = d} {cs = ds} v us)) =
    before_last-right (slash ∷ c) (slashed (d ∷ ds)) refl ∙ ap (λ (l : List ℕ). slash ∷ c ++ l) (before_last-slashed (cons v us))

entered_by : (empty here up : Bool) {done : List (List ℕ)} (c : List ℕ) → Each Unslashed done
    → cond empty (slashed done) (cond here (slashed done) (cond up (before_last (slashed done)) (slashed done ++ slash ∷ c)))
    ≡ slashed (cond empty done (cond here done (cond up (drop_last done) (done ++ c ∷ []))))
entered_by true here up c u = refl
entered_by false true up c u = refl
entered_by false false true c u = before_last-slashed u
entered_by false false false {done = done} c u = sym (slashed-snoc done c)

entered-slashed : {done : List (List ℕ)} (c : List ℕ) → Each Unslashed done → entered_bytes (slashed done) c ≡ slashed (entered done c)
unfolding entered_bytes entered
entered-slashed c u = entered_by (same c []) (same c (dot ∷ [])) (same c (dot ∷ dot ∷ [])) c u

enter_all-slashed : {done cs : List (List ℕ)} → Each Unslashed done → Each Unslashed cs → enter_all_bytes (slashed done) cs ≡ slashed (enter_all done cs)
unfolding enter_all_bytes enter_all
enter_all-slashed u nil = refl
enter_all-slashed {done = done} u (cons {c = c} {cs = cs} p v) =
    ap (λ (w : List ℕ). enter_all_bytes w cs) (entered-slashed c u) ∙ enter_all-slashed {done = entered done c} (each-entered c u (λ n. p)) v

-- ---- a joined path has the components of both parts

enter_all_bytes-append : (w : List ℕ) (cs ds : List (List ℕ)) → enter_all_bytes w (cs ++ ds) ≡ enter_all_bytes (enter_all_bytes w cs) ds
unfolding enter_all_bytes
enter_all_bytes-append w [] ds = refl
enter_all_bytes-append w (c ∷ cs) ds = enter_all_bytes-append (entered_bytes w c) cs ds

parted-append : (t : Bool) (b : ℕ) (q : List ℕ) (cs ds : List (List ℕ)) → slashed cs ≡ slash ∷ q → parted t b (cs ++ ds) ≡ parted t b cs ++ ds
unfolding parted grown slashed
parted-append true b q cs ds e = refl
parted-append false b q [] ds e = absurd (nil≢cons e)
parted-append false b q (c ∷ cs) ds e = refl

pieces-join : (cwd p : List ℕ) → pieces (cwd ++ slash ∷ p) ≡ pieces cwd ++ pieces p
unfolding pieces
pieces-join [] p = pieces-slash p
pieces-join (b ∷ cwd) p = ap (parted (eqb b slash) b) (pieces-join cwd p) ∙ parted-append (eqb b slash) b cwd (pieces cwd) (pieces p) (slashed-pieces cwd)

-- one path's components, entered from nothing
pub entered-one : (p : List ℕ) → enter_all_bytes [] (pieces p) ≡ slashed (enter_all [] (pieces p))
unfolding slashed
entered-one p = enter_all-slashed nil (pieces-unslashed p)

-- a working directory's components, and then a path's
pub entered-both : (cwd p : List ℕ) → enter_all_bytes (enter_all_bytes [] (pieces cwd)) (pieces p) ≡ slashed (enter_all [] (pieces (cwd ++ slash ∷ p)))
entered-both cwd p =
    sym (enter_all_bytes-append [] (pieces cwd) (pieces p)) ∙ ap (enter_all_bytes []) (sym (pieces-join cwd p)) ∙ entered-one (cwd ++ slash ∷ p)
