-- What the functions inside ask of their callers: none of these is to be believed.
use Rattle.std.specs.Prelude.{ℕ, ◌+◌, ◌*◌, ◌≤◌, ◌<◌, ◌≡◌, true, List, length}
use Rattle.share.specs.Share.{sum_to, length_at, share_made}

-- number n of a share whose descriptors lie within it
pub record Within (N n : ℕ) (s : List ℕ) : Type 0 where
  pub few : N ≤ 255
  pub below : n < N
  pub fits : 2 * N + sum_to (length_at s) N ≤ length s

-- and room for d in the place of what it holds
pub record Fits (N n : ℕ) (s d : List ℕ) : Type 0 where
  pub few : N ≤ 255
  pub below : n < N
  pub fits : 2 * N + sum_to (length_at s) N ≤ length s
  pub short : length d ≤ 65535
  pub grown : 2 * N + sum_to (length_at s) N + length d ≤ length s + length_at s n

-- a share of N numbers and M bytes that keeps the layout
pub record Whole (N M : ℕ) (s : List ℕ) : Type 0 where
  pub few : N ≤ 255
  pub short : M ≤ 65535
  pub long : length s ≡ 2 * N + M
  pub made : share_made N M s ≡ true
