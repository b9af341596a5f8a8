use Prim.Native.Nat.{ℕ}
use native.Mathlib.Omega.{arith}
use lib.ListN.{replicate, length-replicate}
use Rattle.basics.proofs.Lists.{over_none, over_more, over_whole}
use Rattle.dividing.specs.Divide.{rest_of}
use Rattle.dividing.proofs.rest_of.Goals as goal

pub loop-y-init : goal.loop-y-init
loop-y-init c = (omega arith, over_none _ (replicate {A = ℕ} 64 0))

pub loop-y-preserved : goal.loop-y-preserved
loop-y-preserved c =
    let l = c.loop-y in (
      omega arith,
      over_more _ (replicate {A = ℕ} 64 0) l.rest l.y _ (omega arith) l.invariant.1
          c.rest_row.ensures,
    )

pub returns : goal.returns
unfolding rest_of
returns c =
    over_whole _ (replicate {A = ℕ} 64 0) _ c.loop-y.y 64 c.loop-y.invariant.1 (omega arith)
    (length-replicate {A = ℕ} 64 0)
