-- Where a point of a frame lies.
use Prim.Native.Nat.{ℕ, ◌+◌, ◌*◌, ◌/◌, ◌%◌, ◌≤◌, ◌<◌}
use mathlib.Core.Path.{◌≡◌}
use native.Mathlib.Omega.{arith}
use native.Mathlib.Nat.{mod-lt, div-lt_iff_lt-mul, mul-le-mul_right}
use Rattle.picture.specs.declared.Depth.TheVariants.{OneBit}
use Rattle.picture.specs.Points.{Within}
use Rattle.mates.specs.Steps.Framed.{Framed, Places}

module _ (n w h i : ℕ) (framed : Framed n w h) (i-in : i < h * w) where
  pub column_in : i % w < w
  column_in = mod-lt i framed.some_pings

  pub row_in : i / w < h
  row_in = (div-lt_iff_lt-mul framed.some_pings).1 i-in

  pub point_within : Within OneBit n w (i % w) (i / w)
  point_within =
      record {
        few_pings = framed.few_pings;
        column = column_in;
        row = omega
            (arith, framed.long, mul-le-mul_right ((w + 7) / 8) row_in);
      }

-- a point's node, a mate that is no later, and the places for both
pub unite_room : (len n w h i m : ℕ) → Places len w h → i < h * w → m ≤ i + 1 → n ≡ len
    → (i + 1 < n) × ((m < n) × (n ≤ 65536))
unite_room len n w h i m p i-in le e =
    (omega (arith, p.room), (omega (arith, p.room), omega (arith, p.few)))
