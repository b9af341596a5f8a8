-- It passes on what `open` returns, at the 8-bit depth.
-- So what `open` promises at that depth is what is promised here.
use Rattle.host.proofs.qik_open8.Goals as goal

pub returns : goal.returns
returns c =
    record {
      number = c.open.ensures.number;
      bytes = c.open.ensures.bytes;
      middle = c.open.ensures.middle;
    }
