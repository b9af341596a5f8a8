use Prim.Native.Nat.{ℕ}
use native.Mathlib.Omega.{arith}
use lib.ListN.{replicate, length-replicate}
use Rattle.basics.proofs.Lists.{over_none, over_more, over_whole}
use Rattle.hulls.proofs.own_rows.Goals as goal

pub loop-r-init : goal.loop-r-init
loop-r-init c = (omega arith, over_none _ (replicate {A = ℕ} 8 0))

pub loop-r-preserved : goal.loop-r-preserved
loop-r-preserved c =
    let l = c.loop-r in (
      omega arith,
      over_more _ (replicate {A =
          ℕ} 8 0) l.rows l.r _ (omega arith) l.invariant.1 c.own_row.ensures,
    )

pub returns : goal.returns
returns c =
    over_whole _ (replicate {A =
    ℕ} 8 0) _ c.loop-r.r 8 c.loop-r.invariant.1 (omega arith) (length-replicate {A = ℕ} 8 0)
