-- It passes on what `white_tophat` returns, at the 8-bit depth.
-- So what `white_tophat` promises at that depth is what is promised here.
use Rattle.host.proofs.qik_white_tophat8.Goals as goal

pub returns : goal.returns
returns c =
    record {
      number = c.white_tophat.ensures.number;
      bytes = c.white_tophat.ensures.bytes;
      middle = c.white_tophat.ensures.middle;
    }
