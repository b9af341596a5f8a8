-- Request (xiv): what a call that is not refused leaves.
use Rattle.std.specs.Prelude.{ℕ, ◌*◌, ◌≡◌, List, take, drop}
use Rattle.regions.specs.Listing.{listing, regions_of}
use Rattle.regions.specs.Once.{seconds_sum}
use Rattle.demands.specs.NestCalls.{NestCall}

-- as many regions as there are come back, the list begins with the listing of them, and goes on as it was
pub record Nests (R : ℕ → ℕ) (c : NestCall) (regions : ℕ) : Type 0 where
  pub many : regions ≡ regions_of R (c.h * c.w)
  pub lines : take (2 * regions) c.after ≡ listing R c.w (c.h * c.w)
  pub further : drop (2 * regions) c.after ≡ drop (2 * regions) c.before

-- and its point counts sum to W x H
abbrev pub CountsAll : NestCall → ℕ → Type 0
CountsAll c regions = seconds_sum (take (2 * regions) c.after) ≡ c.w * c.h
