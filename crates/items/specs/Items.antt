-- A list of paths with an answer for each, as a call is handed one: the paths' bytes one after the other, the position at which each ends, and the operator's answers. Scope,
-- "A call comes in".
use Rattle.std.specs.Prelude.{ℕ, ◌-◌, List, [], ◌∷◌, Bool, ◌&&◌, take, drop, eqb, leb, Ok}
use Rattle.refusals.specs.Refusals.{Result, and_then}
use Rattle.paths.specs.declared.Descriptor.{Descriptor}
use Rattle.paths.specs.declared.Descriptor.TheVariants.{Path}
use Rattle.deciding.specs.declared.PromptResponse.{PromptResponse}
use Rattle.deciding.specs.Decisions.{response_of, known_response}
use Rattle.items.specs.declared.ItemList as code

-- ---- as it is handed in

pub record ItemList : Type 0 where
  pub bytes : List ℕ
  pub ends : List ℕ
  pub responses : List ℕ

abbrev pub item_list : List ℕ → List ℕ → List ℕ → ItemList
item_list bytes ends responses = record { bytes = bytes; ends = ends; responses = responses }

-- the list that the code's one lends
abbrev pub items_in : code.ItemList → ItemList
items_in list = item_list list.bytes.now list.ends.now list.responses.now

-- ---- answers

-- the answers, each of which must be known
unfoldable pub known_responses : List ℕ → Result (List PromptResponse)
known_responses [] = Ok []
known_responses (n ∷ numbers) =
    and_then (known_response (response_of n)) (λ response. and_then (known_responses numbers) (λ responses. Ok (response ∷ responses)))

-- ---- items

-- no path, or a path as given, with the operator's answer
pub record Item : Type 0 where
  pub descriptor : Descriptor
  pub given : List ℕ
  pub response : PromptResponse

-- the items of a list from the position `from` on: each goes from where the one before ends to its own end position
unfoldable pub list_items : List ℕ → ℕ → List ℕ → List PromptResponse → List Item
list_items bytes from [] responses = []
list_items bytes from (end ∷ ends) [] = []
list_items bytes from (end ∷ ends) (response ∷ responses) =
    record { descriptor = Path; given = take (end - from) (drop from bytes); response = response } ∷ list_items bytes end ends responses

-- ---- cause 3

abbrev pub max_items : ℕ
max_items = 64

-- end positions from `from` on do not fall, and close at n
unfoldable pub close_at : ℕ → ℕ → List ℕ → Bool
close_at n from [] = eqb from n
close_at n from (end ∷ ends) = leb from end && close_at n end ends
