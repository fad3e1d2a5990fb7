-- Laws of words one after another: what stands at a place, and what the front of a record says of its words.
use Rattle.std.specs.Prelude.{Option, None, Some}
use Prim.Native.Nat.{ℕ, ◌+◌, ◌-◌, ◌≤◌, ◌<◌}
use mathlib.Core.Path.{◌≡◌, refl, sym, ap, ◌∙◌}
use mathlib.Core.List.{List, [], ◌∷◌}
use mathlib.Core.Bool.{Bool, true, false, cond}
use native.Mathlib.Omega.{arith}
use native.Mathlib.Numerals.{add-one}
use lib.ListN.{length, get_or, drop, drop_of_length-le, length-drop}
use lib.Seq.{drop-cons, drop-drop}
use Rattle.records.specs.declared.words.WordRead.{WordRead}
use Rattle.records.specs.declared.words.Front.{Front}
use Rattle.records.specs.Records.{low_of_word, is_run_word}
use Rattle.records.specs.Words.{first_word, behind_first, read_at, front_at}
use Rattle.records.specs.Steps.{run_of}

-- the words from a place on: the one there, and those behind it
pub from_place : (ws : List ℕ) (at : ℕ) → at < length ws → drop at ws ≡ get_or ws at 0 ∷ drop (at + 1) ws
from_place ws at h = rw (add-one at) (drop-cons ws at 0 h)

module _ (ws : List ℕ) (at : ℕ) where
  pub read_word : {w : ℕ} → at < length ws → w ≡ get_or ws at 0 → ◌≡◌ {A = WordRead} (record { word = Some w; at = at + 1 }) (read_at ws at)
  unfolding first_word behind_first
  read_word h e = rw (from_place ws at h, e)

  pub read-end : length ws ≤ at → ◌≡◌ {A = WordRead} (record { word = None; at = at }) (read_at ws at)
  unfolding first_word behind_first
  read-end h = rw (drop_of_length-le ws h)

-- ---- a front

pub no_word : (l : List ℕ) → first_word l ≡ None → l ≡ []
unfolding first_word
no_word [] e = refl
no_word (a ∷ l) e = cc

first-is : (l : List ℕ) {w : ℕ} → first_word l ≡ Some w → l ≡ w ∷ drop 1 l
unfolding first_word
first-is [] e = cc
first-is (a ∷ l) {w} e = let same : a ≡ w = cc in ap (λ (b : ℕ). b ∷ l) same

-- a word w stands at a place: the words from there on begin with it, and a reader goes on at `behind`
pub record Stands (ws : List ℕ) (at w behind : ℕ) : Type 0 where
  pub here : at < length ws
  pub words : drop at ws ≡ w ∷ drop (at + 1) ws
  pub next : behind ≡ at + 1

pub stands : (ws : List ℕ) (at : ℕ) {w behind : ℕ} → first_word (drop at ws) ≡ Some w → behind ≡ behind_first (drop at ws) at → Stands ws at w behind
unfolding behind_first
stands ws at {w} e b =
    let is = first-is (drop at ws) e in
    record {
      here = omega (arith, length-drop at ws, ap length is);
      words = is ∙ ap (λ (l : List ℕ). w ∷ l) (drop-drop 1 at ws);
      next = b ∙ ap (λ (l : List ℕ). behind_first l at) is;
    }

pub read-stands : (ws : List ℕ) (at : ℕ) {r : WordRead} {w : ℕ} → r ≡ read_at ws at → r.word ≡ Some w → Stands ws at w r.at
read-stands ws at e f = stands ws at (sym (ap (λ (x : WordRead). x.word) e) ∙ f) (ap (λ (x : WordRead). x.at) e)

-- a word that says a run
pub record OfRun (word : Option ℕ) (run : ℕ) : Type 0 where
  pub value : ℕ
  pub is : word ≡ Some value
  pub right : is_run_word value ≡ true
  pub low : run ≡ low_of_word value

pub of-run : (word : Option ℕ) {run : ℕ} → Some run ≡ run_of word → OfRun word run
unfolding run_of
of-run None e = cc
of-run (Some w) {run} e = go (is_run_word w) refl e
  where
    go : (b : Bool) → is_run_word w ≡ b → Some run ≡ cond b (Some (low_of_word w)) None → OfRun (Some w) run
    go true q f = record { value = w; is = refl; right = q; low = cc }
    go false q f = cc

-- a front with a run and a head w: the words from `from` on begin with the run word and with w, and the rest of the front is what stands behind them
pub record Headed (ws : List ℕ) (from run w : ℕ) (f : Front) : Type 0 where
  pub of_run : OfRun f.run run
  pub here : from + 1 < length ws
  pub words : drop from ws ≡ of_run.value ∷ w ∷ drop (from + 2) ws
  pub next : f.next ≡ first_word (drop (from + 2) ws)
  pub behind : f.at ≡ behind_first (drop (from + 2) ws) (from + 2)
  pub left : f.left ≡ length ws - f.at

-- a front whose first word says a run
module _ (ws : List ℕ) (from : ℕ) {run : ℕ} {f : Front} (F : f ≡ front_at ws from) (R : OfRun f.run run) where
  run-stands : Stands ws from R.value (read_at ws from).at
  run-stands = stands ws from (sym (ap (λ (g : Front). g.run) F) ∙ R.is) refl

  head-is : f.head ≡ first_word (drop (from + 1) ws)
  head-is = ap (λ (g : Front). g.head) F ∙ ap (λ (k : ℕ). first_word (drop k ws)) run-stands.next

  pub run_alone : f.head ≡ None → drop from ws ≡ R.value ∷ []
  run_alone e = run-stands.words ∙ ap (λ (l : List ℕ). R.value ∷ l) (no_word (drop (from + 1) ws) (sym head-is ∙ e))

  headed : {w : ℕ} → f.head ≡ Some w → Headed ws from run w f
  headed {w} e =
      let S = stands ws (from + 1) (sym head-is ∙ e) refl in
      let two : from + 1 + 1 ≡ from + 2 = omega arith in
      let step = ap (λ (k : ℕ). (read_at ws k).at) run-stands.next ∙ S.next ∙ two in
      record {
        of_run = R;
        here = S.here;
        words = run-stands.words ∙ ap (λ (l : List ℕ). R.value ∷ l) (S.words ∙ ap (λ (k : ℕ). w ∷ drop k ws) two);
        next = ap (λ (g : Front). g.next) F ∙ ap (λ (k : ℕ). first_word (drop k ws)) step;
        behind = ap (λ (g : Front). g.at) F ∙ ap (λ (k : ℕ). behind_first (drop k ws) k) step;
        left = ap (λ (g : Front). g.left) F ∙ ap (λ (g : Front). length ws - g.at) (sym F);
      }

pub front-headed : (ws : List ℕ) (from : ℕ) {run w : ℕ} {f : Front} → f ≡ front_at ws from → Some run ≡ run_of f.run → f.head ≡ Some w → Headed ws from run w f
front-headed ws from F r e = headed ws from F (of-run _ r) e
