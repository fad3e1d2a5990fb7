-- Laws of a list as it is handed in: answers and end positions, one after the other.
use Rattle.std.specs.Prelude.{Option, None, Some, Ok, Err}
use Rattle.std.specs.Result.{is_ok}
use Rattle.std.specs.List.Sorted.{IsNonDecreasing}
use Prim.Native.Nat.{ℕ, zero, suc, ◌+◌, ◌-◌, ◌≤◌, ◌<◌}
use mathlib.Core.Path.{◌≡◌, refl, sym, ap}
use mathlib.Core.List.{List, [], ◌∷◌}
use mathlib.Core.Bool.{true, false, ◌&&◌, and-false, false≢true}
use native.Mathlib.Omega.{arith}
use native.Mathlib.Nat.{not-suc-le-zero, le_of_suc-le-suc}
use native.Mathlib.Numerals.{add-one, unary_clauses}
use lib.ListN.{length, get_or, drop}
use lib.Seq.{drop-cons}
use lib.Dec.{eqb, leb}
use borrow.Author.Tests.{le-leb, lt-leb, leb-true, eqb-true}
use Rattle.refusals.specs.declared.Refusal.TheVariants as refusal
use Rattle.refusals.specs.Refusals.{Result, and_then}
use Rattle.paths.proofs.ComponentLaws.{and_left, and_right}
use Rattle.deciding.specs.declared.PromptResponse.{PromptResponse}
use Rattle.deciding.specs.Decisions.{response_of, known_response}
use Rattle.items.specs.Items.{known_responses, close_at}
use Rattle.items.specs.Steps.{are_responses}

-- ---- what is still to come begins with the element at i

pub drop-next : (s : List ℕ) (i : ℕ) → i < length s → drop i s ≡ get_or s i 0 ∷ drop (i + 1) s
drop-next s i h = rw (add-one, drop-cons s i 0)

-- ---- answers

-- the answers, read
pub record Known (s : List ℕ) : Type 0 where
  pub responses : List PromptResponse
  pub are : known_responses s ≡ Ok responses

known_more : (r : Option PromptResponse) (n : ℕ) (s : List ℕ) → response_of n ≡ r → is_ok (known_response r) ≡ true → Known s → Known (n ∷ s)
unfolding known_responses known_response and_then
known_more None n s e h K = absurd (false≢true h)
known_more (Some known) n s e h K = record { responses = known ∷ K.responses; are = rw (e, K.are) }

pub all_known : (s : List ℕ) → are_responses s ≡ true → Known s
unfolding are_responses known_responses
all_known [] a = record { responses = []; are = refl }
all_known (n ∷ s) a =
    let known = is_ok (known_response (response_of n)) in
    known_more (response_of n) n s refl (and_left known _ a) (all_known s (and_right known _ a))

unknown-more : (r : Option PromptResponse) (n : ℕ) (s : List ℕ) → response_of n ≡ r → is_ok (known_response r) && are_responses s ≡ false
    → (are_responses s ≡ false → known_responses s ≡ Err refusal.Unknown) → known_responses (n ∷ s) ≡ Err refusal.Unknown
unfolding known_responses known_response and_then
unknown-more None n s e h k = rw e
unknown-more (Some known) n s e h k = rw (e, k h)

pub not_known : (s : List ℕ) → are_responses s ≡ false → known_responses s ≡ Err refusal.Unknown
unfolding are_responses
not_known [] a = absurd (false≢true (sym a))
not_known (n ∷ s) a = unknown-more (response_of n) n s refl a (not_known s)

-- ---- answers that are read, one after the other

-- the first answer of those that are read, and the others
record First (n : ℕ) (s : List ℕ) (known : List PromptResponse) : Type 0 where
  response : PromptResponse
  rest : List PromptResponse
  all : known ≡ response ∷ rest
  first : response_of n ≡ Some response
  others : known_responses s ≡ Ok rest

first_by : (n : ℕ) (s : List ℕ) (known : List PromptResponse) (r : Option PromptResponse) (k : Result (List PromptResponse)) → response_of n ≡ r → known_responses s ≡ k
    → and_then (known_response r) (λ response. and_then k (λ responses. Ok (response ∷ responses))) ≡ Ok known → First n s known
unfolding known_response and_then
first_by n s known None k e f g = let z : ◌≡◌ {A = ℕ} 0 1 = cc in absurd (omega arith)
first_by n s known (Some response) (Err cause) e f g = let z : ◌≡◌ {A = ℕ} 0 1 = cc in absurd (omega arith)
first_by n s known (Some response) (Ok rest) e f g = record { response = response; rest = rest; all = cc; first = e; others = f }

first_of : (n : ℕ) (s : List ℕ) (known : List PromptResponse) → known_responses (n ∷ s) ≡ Ok known → First n s known
unfolding known_responses
first_of n s known e = first_by n s known (response_of n) (known_responses s) refl refl e

pub known-drop : (s : List ℕ) (known : List PromptResponse) (i : ℕ) {response : PromptResponse} → known_responses s ≡ Ok known → i < length s
    → response_of (get_or s i 0) ≡ Some response → drop i known ≡ response ∷ drop (i + 1) known
known-drop [] known i k h e = absurd (not-suc-le-zero h)
known-drop (n ∷ s) known zero k h e =
    let F = first_of n s known k in
    let same : _ = F.first in
    rw F.all (ap (λ r. r ∷ F.rest) (cc))
known-drop (n ∷ s) known (suc i) k h e =
    let F = first_of n s known k in
    rw (F.all, add-one) (rw add-one at (known-drop s F.rest i F.others (le_of_suc-le-suc h) e))

-- ---- end positions

-- the last of them, or `from`
abbrev last : ℕ → List ℕ → ℕ
last from ends = get_or (from ∷ ends) (length ends) 0

-- end positions that do not fall close at the last
closes-rising : (n from : ℕ) (ends : List ℕ) → ((k : ℕ) → k < length ends → from ≤ get_or ends k 0) → IsNonDecreasing ends
    → close_at n from ends ≡ eqb (last from ends) n
unfolding close_at
closes-rising n from [] h up = refl
closes-rising n from (end ∷ ends) h up =
    rw (le-leb from end (h 0 (omega arith)))
    (closes-rising n end ends (λ k l. up 0 (suc k) 0 (omega arith) (omega arith)) (λ i j d a b. up (suc i) (suc j) d (omega arith) (omega arith)))

last-zero : (ends : List ℕ) → last 0 ends ≡ get_or ends (length ends - 1) 0
last-zero [] = refl
last-zero (end ∷ ends) = simp unary_clauses refl

pub closes-sorted : (n : ℕ) (ends : List ℕ) → IsNonDecreasing ends → eqb (get_or ends (length ends - 1) 0) n ≡ close_at n 0 ends
closes-sorted n ends up = rw (← last-zero ends) (sym (closes-rising n 0 ends (λ k l. omega arith) up))

-- where one falls they do not close
pub closes-fallen : (n from : ℕ) (ends : List ℕ) (k : ℕ) → k + 1 < length ends → get_or ends (k + 1) 0 < get_or ends k 0 → close_at n from ends ≡ false
unfolding close_at
closes-fallen n from [] k h l = absurd (omega arith)
closes-fallen n from (a ∷ []) k h l = absurd (omega arith)
closes-fallen n from (a ∷ b ∷ ends) zero h l = rw (lt-leb a b l, and-false (leb from a))
closes-fallen n from (a ∷ b ∷ ends) (suc k) h l = rw (closes-fallen n a (b ∷ ends) k (omega arith) (simp unary_clauses (simp unary_clauses at l)), and-false (leb from a))

-- end positions that close at n start at most there
closes-within : (n from : ℕ) (ends : List ℕ) → close_at n from ends ≡ true → from ≤ n
unfolding close_at
closes-within n from [] e = omega (arith, eqb-true from n e)
closes-within n from (end ∷ ends) e =
    omega (arith, leb-true from end (and_left (leb from end) _ e), closes-within n end ends (and_right (leb from end) _ e))

-- the next one does not fall, and stays within n
pub record Closing (n from end : ℕ) (ends : List ℕ) : Type 0 where
  pub rises : from ≤ end
  pub within : end ≤ n
  pub rest : close_at n end ends ≡ true

closing-cons : (n from end : ℕ) (ends : List ℕ) → close_at n from (end ∷ ends) ≡ true → Closing n from end ends
unfolding close_at
closing-cons n from end ends e =
    let rest = and_right (leb from end) _ e in
    record { rises = leb-true from end (and_left (leb from end) _ e); within = closes-within n end ends rest; rest = rest }

pub closing-next : (n from : ℕ) (s : List ℕ) (i : ℕ) → i < length s → close_at n from (drop i s) ≡ true → Closing n from (get_or s i 0) (drop (i + 1) s)
closing-next n from s i h e = closing-cons n from (get_or s i 0) (drop (i + 1) s) (rw (drop-next s i h) at e)
