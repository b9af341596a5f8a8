-- It passes on what `black_tophat` returns, at the 8-bit depth.
-- So what `black_tophat` promises at that depth is what is promised here.
use Rattle.host.proofs.qik_black_tophat8.Goals as goal

pub returns : goal.returns
returns c =
    record {
      number = c.black_tophat.ensures.number;
      bytes = c.black_tophat.ensures.bytes;
      middle = c.black_tophat.ensures.middle;
    }
