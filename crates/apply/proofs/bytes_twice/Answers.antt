-- The first operation leaves its picture in the scratch, from which the other is made.
-- A picture that was written reads back at each point,
-- so that the other is made of the first's own result: `flat_after`.
use Rattle.apply.proofs.Twice.{flat_after}
use Rattle.picture.specs.declared.Depth.TheVariants.{EightBit}
use Rattle.apply.proofs.bytes_twice.Goals as goal

pub returns : goal.returns
returns c =
    let a = c.args in
    let m = c.flat_bytes.ensures in record {
      bytes = flat_after a.w a.h a.o a.words.now a.s.now _ a.scratch.now a.t.now _
          a.grows EightBit m c.flat_bytes-2.ensures;
      middle = m;
    }
