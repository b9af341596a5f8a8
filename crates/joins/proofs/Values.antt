-- What stands in a column of two bytes that were joined: at one bit digit by digit.
use Prim.Native.Nat.{ℕ}
use mathlib.Core.Path.{◌≡◌, refl}
use mathlib.Core.Bool.{Bool, true, false}
use Rattle.picture.specs.Points.{value_in, place}
use Rattle.rows.specs.Steps.Fold.{join_by}
use Rattle.blocks.proofs.Points.{bit_join}
use Rattle.joins.specs.Steps.Joins.{depth_if, join_at}

pub value_join : (packed grows : Bool) (a b x : ℕ)
    → value_in (depth_if packed) (join_at packed grows a b) x
    ≡ join_by grows (value_in (depth_if packed) a x) (value_in (depth_if packed) b x)
unfolding value_in
value_join true grows a b x = bit_join grows a b (place x)
value_join false grows a b x = refl
