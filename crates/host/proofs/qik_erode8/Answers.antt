-- It passes on what `erode` returns, at the 8-bit depth.
-- So what `erode` promises at that depth is what is promised here.
use Rattle.host.proofs.qik_erode8.Goals as goal

pub returns : goal.returns
returns c =
    record {
      number = c.erode.ensures.number;
      bytes = c.erode.ensures.bytes;
    }
