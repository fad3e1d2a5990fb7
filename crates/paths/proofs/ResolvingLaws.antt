-- Laws of resolving: it gives a path in resolved form, and such a path is the spelling of names.
use Prim.Native.Nat.{ℕ}
use mathlib.Core.Path.{◌≡◌, refl, sym, ap, ◌∙◌, subst}
use mathlib.Core.List.{List, [], ◌∷◌, ◌++◌, drop_last, append_assoc, append-nil}
use mathlib.Core.Bool.{Bool, true, false, ◌&&◌, not, cond, false≢true}
use Rattle.paths.specs.Components.{dot, same, parted, pieces, without_empty, components, slashed, spell}
use Rattle.paths.specs.Resolving.{is_absolute, is_name, entered, enter_all, normalize, join, resolve, is_resolved}
use Rattle.paths.proofs.ComponentLaws.{same_refl, same-eq, Unslashed, Each, nil, cons, pieces-unslashed, pieces-slashed, each_append, each-drop_last}

abbrev pub Name : List ℕ → Type 0
Name c = is_name c ≡ true

-- ---- one component more

entered_by : (empty here up : Bool) (done : List (List ℕ)) (c : List ℕ) → not empty && not here && not up ≡ true
    → cond empty done (cond here done (cond up (drop_last done) (done ++ c ∷ []))) ≡ done ++ c ∷ []
entered_by true here up done c e = absurd (false≢true e)
entered_by false true up done c e = absurd (false≢true e)
entered_by false false true done c e = absurd (false≢true e)
entered_by false false false done c e = refl

pub entered-name : (done : List (List ℕ)) (c : List ℕ) → Name c → entered done c ≡ done ++ c ∷ []
unfolding entered is_name
entered-name done c n = entered_by (same c []) (same c (dot ∷ [])) (same c (dot ∷ dot ∷ [])) done c n

pub entered-empty : (done : List (List ℕ)) → entered done [] ≡ done
unfolding entered same
entered-empty done = refl

-- what holds of the components behind, and of the one entered where it is a name, holds of all after
module _ {P : List ℕ → Type 0} where
  by : (empty here up : Bool) {done : List (List ℕ)} {c : List ℕ} → Each P done → (not empty && not here && not up ≡ true → P c)
      → Each P (cond empty done (cond here done (cond up (drop_last done) (done ++ c ∷ []))))
  by true here up u p = u
  by false true up u p = u
  by false false true u p = each-drop_last u
  by false false false u p = each_append u (cons (p refl) nil)

  pub each-entered : {done : List (List ℕ)} (c : List ℕ) → Each P done → (Name c → P c) → Each P (entered done c)
  unfolding entered is_name
  each-entered c u p = by (same c []) (same c (dot ∷ [])) (same c (dot ∷ dot ∷ [])) u p

-- ---- components in turn

pub enter_all-empty : (done cs : List (List ℕ)) → enter_all done ([] ∷ cs) ≡ enter_all done cs
unfolding enter_all
enter_all-empty done cs = ap (λ (d : List (List ℕ)). enter_all d cs) (entered-empty done)

pub enter_all-names : (done : List (List ℕ)) {cs : List (List ℕ)} → Each Name cs → enter_all done cs ≡ done ++ cs
unfolding enter_all
enter_all-names done nil = sym (append-nil done)
enter_all-names done (cons {c = c} {cs = cs} n u) =
    ap (λ (d : List (List ℕ)). enter_all d cs) (entered-name done c n) ∙ enter_all-names (done ++ c ∷ []) u ∙ append_assoc done (c ∷ []) cs

pub names-enter_all : {done : List (List ℕ)} (cs : List (List ℕ)) → Each Name done → Each Name (enter_all done cs)
unfolding enter_all
names-enter_all [] u = u
names-enter_all {done = done} (c ∷ cs) u = names-enter_all {done = entered done c} cs (each-entered c u (λ n. n))

pub unslashed-enter_all : {done cs : List (List ℕ)} → Each Unslashed done → Each Unslashed cs → Each Unslashed (enter_all done cs)
unfolding enter_all
unslashed-enter_all u nil = u
unslashed-enter_all {done = done} u (cons {c = c} p v) = unslashed-enter_all {done = entered done c} (each-entered c u (λ n. p)) v

-- ---- spelling names

-- names that are spelled are resolved to themselves
pub normalize-spell : (cs : List (List ℕ)) → Each Name cs → Each Unslashed cs → normalize (spell cs) ≡ spell cs
unfolding normalize spell pieces parted enter_all entered same
normalize-spell [] ns us = refl
normalize-spell (c ∷ cs) ns us = ap spell (ap (enter_all []) (pieces-slashed us) ∙ enter_all-empty [] (c ∷ cs) ∙ enter_all-names [] ns)

-- ---- resolved form

pub normalize-normalize : (p : List ℕ) → normalize (normalize p) ≡ normalize p
unfolding normalize
normalize-normalize p = normalize-spell _ (names-enter_all (pieces p) nil) (unslashed-enter_all nil (pieces-unslashed p))

-- resolving gives a path in resolved form
pub resolve-resolved : (p cwd : List ℕ) → is_resolved (resolve p cwd) ≡ true
unfolding is_resolved resolve
resolve-resolved p cwd = rw (normalize-normalize (join cwd p)) (same_refl (normalize (join cwd p)))

-- what resolved form says: the path spells names
pub record Spelled (p : List ℕ) : Type 0 where
  pub names : List (List ℕ)
  pub spells : spell names ≡ p
  pub named : Each Name names
  pub unslashed : Each Unslashed names

pub resolved-spelled : (p : List ℕ) → is_resolved p ≡ true → Spelled p
unfolding is_resolved normalize
resolved-spelled p e = record {
  names = enter_all [] (pieces p);
  spells = same-eq (normalize p) p e;
  named = names-enter_all (pieces p) nil;
  unslashed = unslashed-enter_all nil (pieces-unslashed p);
}

-- what spells names is in resolved form
pub spelled-resolved : (p : List ℕ) → Spelled p → is_resolved p ≡ true
unfolding is_resolved
spelled-resolved p s =
    subst (λ (q : List ℕ). same (normalize q) q ≡ true) s.spells
    (rw (normalize-spell s.names s.named s.unslashed) (same_refl (spell s.names)))

absolute-spell : (cs : List (List ℕ)) → is_absolute (spell cs) ≡ true
unfolding spell slashed is_absolute
absolute-spell [] = refl
absolute-spell (c ∷ cs) = refl

pub resolved-absolute : (p : List ℕ) → is_resolved p ≡ true → is_absolute p ≡ true
resolved-absolute p e =
    let s : Spelled p = resolved-spelled p e in
    subst (λ (q : List ℕ). is_absolute q ≡ true) s.spells (absolute-spell s.names)

-- resolving leaves a path in resolved form as it is, whatever the working directory
pub resolve_same : (p cwd : List ℕ) → is_resolved p ≡ true → resolve p cwd ≡ p
unfolding resolve join is_resolved
resolve_same p cwd e = rw (resolved-absolute p e) (same-eq (normalize p) p e)

-- ---- the components of a resolved path

without_empty-names : {cs : List (List ℕ)} → Each Name cs → without_empty cs ≡ cs
unfolding without_empty is_name same
without_empty-names nil = refl
without_empty-names (cons {c = []} n ns) = absurd (false≢true n)
without_empty-names (cons {c = b ∷ c} n ns) = ap (◌∷◌ (b ∷ c)) (without_empty-names ns)

components-spell : (cs : List (List ℕ)) → Each Name cs → Each Unslashed cs → components (spell cs) ≡ cs
unfolding components spell pieces parted without_empty
components-spell [] ns us = refl
components-spell (c ∷ cs) ns us = ap without_empty (pieces-slashed us) ∙ without_empty-names ns

-- a resolved path is the spelling of its components
pub spell-components : (p : List ℕ) → is_resolved p ≡ true → spell (components p) ≡ p
spell-components p e =
    let s : Spelled p = resolved-spelled p e in
    ap (λ (q : List ℕ). spell (components q)) (sym s.spells) ∙ ap spell (components-spell s.names s.named s.unslashed) ∙ s.spells
