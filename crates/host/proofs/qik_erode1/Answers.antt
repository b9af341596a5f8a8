-- It passes on what `erode` returns, at the one-bit depth.
-- So what `erode` promises at that depth is what is promised here.
use Rattle.host.proofs.qik_erode1.Goals as goal

pub returns : goal.returns
returns c =
    record {
      number = c.erode.ensures.number;
      bytes = c.erode.ensures.bytes;
    }
