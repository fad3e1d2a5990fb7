-- What the functions inside the crate ensure, and what their callers have tested.
use Rattle.std.specs.Prelude.{ℕ, ◌≤◌, ◌≡◌, List, Bool, true, length}
use Rattle.std.specs.List.{list_all}
use Rattle.std.specs.Result.{is_ok}
use Rattle.deciding.specs.Decisions.{response_of, known_response}
use Rattle.items.specs.Items.{max_items, close_at}

-- every answer is known
unfoldable pub are_responses : List ℕ → Bool
are_responses numbers = list_all (λ n. is_ok (known_response (response_of n))) numbers

-- a list of items that are in order, with an answer for each, all of them known
pub record Listed (bytes ends responses : List ℕ) : Type 0 where
  pub closes : close_at (length bytes) 0 ends ≡ true
  pub many : length responses ≡ length ends
  pub few : length ends ≤ max_items
  pub known : are_responses responses ≡ true
