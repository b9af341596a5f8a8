-- The first operation leaves its picture in the scratch, from which the other is made.
-- A picture that was written reads back at each point,
-- so that the other is made of the first's own result: `weighted_after`.
use Rattle.apply.proofs.Twice.{weighted_after}
use Rattle.apply.proofs.weighted_twice.Goals as goal

pub returns : goal.returns
returns c =
    let a = c.args in
    let m = c.weighted.ensures in record {
      bytes = weighted_after a.w a.h a.o a.words.now a.s.now _ a.scratch.now a.t.now _
          a.grows a.heights.now m c.weighted-2.ensures;
      middle = m;
    }
