-- The bytes of a share cleared from a place on.
use Prim.Native.Nat.{ℕ, ◌-◌, ◌≤◌}
use mathlib.Core.Path.{◌≡◌}
use mathlib.Core.List.{List}
use native.Mathlib.Omega.{arith}
use borrow.Rule.Slice.PartMut.{mid_of, put_mid}
use Rattle.std.proofs.lemmas.Grind.{common_steps}
use lib.ListN.{length, replicate}
use Rattle.share.specs.Share.{cleared}

pub clear_is : (at : ℕ) (s t : List ℕ) → at ≤ length s
    → t ≡ replicate (length (mid_of at (length s - at) s)) 0 → put_mid at (length s - at) s t ≡ cleared at s
unfolding cleared
clear_is at s t h e =
    grind (arith, common_steps)
