-- A nesting taken apart again from the one number that C gets, as include/qiksavlut.h does it.
use Rattle.std.specs.Prelude.{ℕ, ◌-◌, ◌*◌, ◌/◌, ◌^◌, cond}
use Rattle.std.specs.Int.Bits.{bit_and}
use Rattle.answer.specs.Answer.{is_done}
use Rattle.regions.specs.Listing.{regions_of}
use Rattle.nesting.specs.Nesting.{nest_answer}

pub record NestTold : Type 0 where
  pub number : ℕ
  pub regions : ℕ

-- qik_nest_number and qik_nest_regions
unfoldable pub nest_apart : ℕ → NestTold
nest_apart n = record { number = bit_and n (2 ^ 8 - 1); regions = bit_and (n / 2 ^ 16) (2 ^ 16 - 1) }

-- what a call is told as
unfoldable pub nest_told : (ℕ → ℕ) → ℕ → ℕ → ℕ → ℕ → NestTold
nest_told R w h n len =
    record {
      number = (nest_answer R w h n len).number;
      regions = cond (is_done (nest_answer R w h n len)) (regions_of R (h * w)) 0;
    }
