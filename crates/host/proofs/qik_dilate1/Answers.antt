-- It passes on what `dilate` returns, at the one-bit depth.
-- So what `dilate` promises at that depth is what is promised here.
use Rattle.host.proofs.qik_dilate1.Goals as goal

pub returns : goal.returns
returns c =
    record {
      number = c.dilate.ensures.number;
      bytes = c.dilate.ensures.bytes;
    }
