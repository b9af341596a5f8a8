-- The sizes of rows at both depths.
use Prim.Native.Nat.{ℕ, ◌+◌, ◌*◌, ◌%◌, ◌^◌, ◌≤◌, ◌<◌}
use mathlib.Core.Path.{◌≡◌, ap, ◌∙◌}
use mathlib.Core.Bool.{true, ◌&&◌}
use native.Mathlib.Omega.{arith}
use native.Mathlib.Nat.{mul-le-mul, mul-le-mul_right, one-mul}
use borrow.Author.Tests.{leb-true}
use lib.Dec.{leb, lit<}
use lib.Pow.{shl_exact}
use Rattle.basics.proofs.Tests.{both}
use Rattle.picture.specs.declared.Depth.{Depth}
use Rattle.picture.specs.declared.Depth.TheVariants.{OneBit, EightBit}
use Rattle.picture.specs.Frame.{most_pings, most_bins, sized_frame, row_bytes, spare_bits, picture_bytes}
use Rattle.picture.specs.Points.{column_byte}

-- a row within the limits has at most most_pings bytes, and some where there are pings
pub row_few : (depth : Depth) (w : ℕ) → w ≤ most_pings → row_bytes depth w ≤ most_pings
row_few OneBit w h = omega arith
row_few EightBit w h = h

pub row_some : (depth : Depth) (w : ℕ) → 1 ≤ w → 1 ≤ row_bytes depth w
row_some OneBit w h = omega arith
row_some EightBit w h = h

pub column_in : (depth : Depth) (x w : ℕ) → x < w → column_byte depth x < row_bytes depth w
column_in OneBit x w h = omega arith
column_in EightBit x w h = h

pub column_small : (depth : Depth) (x : ℕ) → column_byte depth x ≤ x
column_small OneBit x = omega arith
column_small EightBit x = omega arith

pub spare_few : (depth : Depth) (w : ℕ) → spare_bits depth w < 8
spare_few OneBit w = omega arith
spare_few EightBit w = omega arith

-- one bit above the spare ones, in a byte
pub spare_mask : (depth : Depth) (w u : ℕ) → u ≡ spare_bits depth w → 1 * 2 ^ u % 256 ≡ 2 ^ spare_bits depth w
spare_mask depth w u e =
    ap (λ n. 1 * 2 ^ n % 256) e
    ∙ shl_exact 1 (spare_bits depth w) 8 (lit< tt) (omega (arith, spare_few depth w)) ∙ one-mul _

-- row y of n rows of r bytes
pub row_room : (r : ℕ) {y n : ℕ} → y < n → y * r + r ≤ n * r
row_room r {y} {n} h = omega (arith, mul-le-mul_right r h)

pub picture_few : (depth : Depth) (w h : ℕ) → w ≤ most_pings → h ≤ most_bins
    → picture_bytes depth w h ≤ most_bins * most_pings
picture_few depth w h p q = mul-le-mul q (row_few depth w p)

-- what a frame within the limits tells
pub record InLimits (w h : ℕ) : Type 0 where
  pub some_pings : 1 ≤ w
  pub few_pings : w ≤ most_pings
  pub some_bins : 1 ≤ h
  pub few_bins : h ≤ most_bins

pub sized_tells : (w h : ℕ) → sized_frame w h ≡ true → InLimits w h
unfolding sized_frame
sized_tells w h e =
    let p = both (leb 1 w && leb w most_pings) (leb 1 h && leb h most_bins) e in
    let q = both (leb 1 w) (leb w most_pings) p.0 in
    let r = both (leb 1 h) (leb h most_bins) p.1 in
    record {
      some_pings = leb-true 1 w q.0;
      few_pings = leb-true w most_pings q.1;
      some_bins = leb-true 1 h r.0;
      few_bins = leb-true h most_bins r.1;
    }
