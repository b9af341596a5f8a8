use Prim.Native.Nat.{ℕ}
use native.Mathlib.Omega.{arith}
use lib.ListN.{replicate, length-replicate}
use Rattle.basics.proofs.Lists.{over_none, over_more, over_whole}
use Rattle.takeapart.specs.Sum.{sum_byte, sum_bytes}
use Rattle.takeapart.proofs.sum_bytes.Goals as goal

pub loop-n-init : goal.loop-n-init
loop-n-init c = (omega arith, over_none _ (replicate {A = ℕ} 60 0))

pub loop-n-preserved : goal.loop-n-preserved
loop-n-preserved c =
    let l = c.loop-n in (
      omega arith,
      over_more _ (replicate {A = ℕ} 60 0) l.bytes l.n _ (omega arith) l.invariant.1
          c.sum_byte.ensures,
    )

pub returns : goal.returns
unfolding sum_bytes
returns c =
    over_whole _ (replicate {A = ℕ} 60 0) _ c.loop-n.n 60 c.loop-n.invariant.1 (omega arith)
    (length-replicate {A = ℕ} 60 0)
