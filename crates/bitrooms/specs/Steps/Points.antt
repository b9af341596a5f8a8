-- The way of packed points, the places in points: eight at once, from any point on.
use Rattle.std.specs.Prelude.{ℕ, zero, suc, ◌+◌, ◌*◌, ◌/◌, ◌%◌, ◌^◌, ◌≤◌, ◌<◌, ◌≡◌, min, Bool, true, false}
use Rattle.std.specs.Prelude.{cond, List, eqb, get_or}
use Rattle.std.proofs.Common.{sym, ap, ap₂, ◌∙◌, arith}
use native.Mathlib.Nat.{lt_of_lt_of_le, pow-suc}
use lib.Bits.{or_lt, and_lt}
use lib.Pow.{pow_mono}
use Rattle.basics.specs.Bits.{bit}
use Rattle.basics.proofs.Bits.{bits_same}
use Rattle.rows.specs.Steps.Fold.{join_by}
use Rattle.blocks.specs.Steps.Joins.{join_packed}
use Rattle.blocks.specs.Steps.Points.{eight_from, shifted_of}
use Rattle.blocks.proofs.Points.{bit_join}
use Rattle.windows.specs.Steps.Places.{eight_at}
use Rattle.rooms.specs.Steps.Lanes.{Way, Joins, bytes_join}

abbrev reach_of : ℕ → ℕ
reach_of p = p / 8 + 1

abbrev pub bits_way : Way
bits_way = record {
  join = join_packed;
  seen = eight_at;
  reach = reach_of;
}

-- ---- packed bytes are joined in any order, and twice is once: digit by digit, as numbers are

-- a number has no more digits than it counts
below : (n : ℕ) → n < 2 ^ n
below zero = omega arith
below (suc n) = omega (arith, below n, pow-suc 2 n)

within : (n k : ℕ) → n ≤ k → n < 2 ^ k
within n k h = lt_of_lt_of_le (below n) (pow_mono {i = n} {j = k} h)

joined_lt : (grows : Bool) (k a b : ℕ) → a < 2 ^ k → b < 2 ^ k → join_packed grows a b < 2 ^ k
joined_lt true k a b ha hb = or_lt k a b ha hb
joined_lt false k a b ha hb = and_lt k a b ha hb

module _ (grows : Bool) where
  two_bits : (x y z i : ℕ) → bit (join_packed grows (join_packed grows x y) z) i
      ≡ join_by grows (join_by grows (bit x i) (bit y i)) (bit z i)
  two_bits x y z i =
      bit_join grows (join_packed grows x y) z i ∙ ap (λ n. join_by grows n (bit z i)) (bit_join grows x y i)

  swapped : (x y z : ℕ) → join_packed grows (join_packed grows x y) z
      ≡ join_packed grows (join_packed grows x z) y
  swapped x y z =
      let k : ℕ = x + (y + z) in
      let hx = within x k (omega arith) in
      let hy = within y k (omega arith) in
      let hz = within z k (omega arith) in
      bits_same k _ _ (joined_lt grows k _ z (joined_lt grows k x y hx hy) hz)
      (joined_lt grows k _ y (joined_lt grows k x z hx hz) hy)
      (λ i h. two_bits x y z i ∙ bytes_join.swapped grows (bit x i) (bit y i) (bit z i)
      ∙ sym (two_bits x z y i))

  twice : (x y : ℕ) → join_packed grows (join_packed grows x y) y ≡ join_packed grows x y
  twice x y =
      let k : ℕ = x + y in
      let hx = within x k (omega arith) in
      let hy = within y k (omega arith) in
      let both = joined_lt grows k x y hx hy in
      bits_same k _ _ (joined_lt grows k _ y both hy) both
      (λ i h. two_bits x y y i ∙ bytes_join.twice grows (bit x i) (bit y i) ∙ sym (bit_join grows x y i))

near : (l m : List ℕ) (i p : ℕ) → ((q : ℕ) → i ≤ q → q ≤ i + reach_of p → get_or l q 0 ≡ get_or m q 0)
    → eight_at l i p ≡ eight_at m i p
unfolding eight_at eight_from
near l m i p same =
    ap₂ (λ x y. cond (eqb (p % 8) 0) x y) (same (i + p / 8) (omega arith) (omega arith))
    (ap₂ (λ x y. shifted_of x y (p % 8)) (same (i + p / 8) (omega arith) (omega arith))
    (same (i + p / 8 + 1) (omega arith) (omega arith)))

pub bits_join : Joins bits_way
bits_join = record {
  swapped = swapped;
  twice = twice;
  near = near;
}

-- how many bytes n blocks of windows make: the third lies over the second, so that it ends within the room
abbrev pub made_of : ℕ → ℕ
made_of n = min (64 * n) 152
