-- The arrival of an image at the standby: its checking order, its answer, and every lent byte and number after it. Scope, "A table for a standby that
-- joins late" (13 stands in the place of 11, after 1), and "A main that starts over".
use Rattle.std.specs.Prelude.{ℕ, List, Bool, ◌&&◌, ◌||◌, cond, ltb, eqb, Option, None, Some, Ok, Err}
use Rattle.refusals.specs.declared.Refusal.TheVariants.{MalformedImage}
use Rattle.refusals.specs.Refusals.{Result, and_then}
use Rattle.table.specs.Memory.{put}
use Rattle.images.specs.Images.{Image, read_image}
use Rattle.standby.specs.declared.Numbers.{Numbers}
use Rattle.standby.specs.declared.Arrival.{Arrival}
use Rattle.standby.specs.declared.Arrival.TheVariants.{Repeat, Taken}
use Rattle.standby.specs.Arriving.{standby_in, met, Left, stays, Comes}

-- 13: the image that the lent words are
unfoldable pub is_image : Option Image → Result Image
is_image None = Err MalformedImage
is_image (Some i) = Ok i

-- an image of a higher run is taken, even if its number is 0; one of the standby's run where n is below its number
unfoldable pub is_taken : Numbers → ℕ → ℕ → Bool
is_taken s run number = ltb s.run run || (eqb s.run run && ltb s.n number)

-- the standby has the image's table, run and number; s are the numbers once the image is met
unfoldable pub takes : List ℕ → Numbers → Image → Left
takes m s i = record {
  answer = Ok Taken;
  memory = put i.table m;
  numbers = record { n = i.number; h = s.h; run = i.run; highest = s.highest };
}

-- any other answers Repeat, and touches no entry
unfoldable pub loaded : List ℕ → Numbers → Image → Left
loaded m s i = cond (is_taken s i.run i.number) (takes m s i) (stays Repeat m s)

-- m is the standby's memory, s its numbers
unfoldable pub loading : List ℕ → List ℕ → Numbers → Result Left
loading m words s = and_then (standby_in m s) (λ t. and_then (is_image (read_image words)) (λ i. Ok (loaded m (met s i.run i.number) i)))

abbrev pub Loads : List ℕ → List ℕ → Numbers → List ℕ → Numbers → Result Arrival → Type 0
Loads m words s m' s' r = Comes (loading m words s) m s m' s' r
