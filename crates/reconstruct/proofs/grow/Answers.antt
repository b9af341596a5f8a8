use Rattle.reconstruct.proofs.Missing.{helped_less}
use Rattle.reconstruct.proofs.Visits.{grew_then, all_swept}
use lib.Dec.{eqb}
use Prim.Native.Nat.{◌%◌}
use Rattle.reconstruct.proofs.grow.Goals as goal

pub loop-r-smaller : goal.loop-r-smaller
loop-r-smaller c =
    helped_less c.args.r c.args.mask.now _ _ _ _ _ c.if-not-sweep.false c.help.ensures c.sweep.ensures

pub loop-r-preserved : goal.loop-r-preserved
loop-r-preserved c =
    let a = c.args in (
      c.next_turn-k.ensures,
      grew_then a.r a.mask.now a.t.now _ _
          (grew_then a.r a.mask.now a.t.now _ _ c.loop-r.invariant.1 c.help.ensures) c.sweep.ensures.grew,
    )

pub returns-then-not-sweep : goal.returns-then-not-sweep
returns-then-not-sweep c =
    let a = c.args in
    record {
      grew = grew_then a.r a.mask.now a.t.now _ _
          (grew_then a.r a.mask.now a.t.now _ _ c.loop-r.invariant.1 c.help.ensures) c.sweep.ensures.grew;
      still = all_swept a.r a.mask.now _ _ (eqb (c.loop-r.k % 2) 1) _ c.sweep.ensures c.if-not-sweep.true;
    }
