-- The number that C gets of a nesting.
use Rattle.std.specs.Prelude.{ℕ, ◌+◌, ◌*◌, ◌^◌, cond}
use Rattle.answer.specs.Answer.{is_done}
use Rattle.answer.specs.Packed.{packed}
use Rattle.regions.specs.Listing.{regions_of}
use Rattle.nesting.specs.Nesting.{nest_answer}

-- number + 65536·regions; a refused call gives 0 for these
unfoldable pub nest_number : (ℕ → ℕ) → ℕ → ℕ → ℕ → ℕ → ℕ
nest_number R w h n len =
    packed (nest_answer R w h n len)
    + cond (is_done (nest_answer R w h n len)) (regions_of R (h * w)) 0 * 2 ^ 16
