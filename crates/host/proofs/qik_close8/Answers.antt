-- It passes on what `close` returns, at the 8-bit depth.
-- So what `close` promises at that depth is what is promised here.
use Rattle.host.proofs.qik_close8.Goals as goal

pub returns : goal.returns
returns c =
    record {
      number = c.close.ensures.number;
      bytes = c.close.ensures.bytes;
      middle = c.close.ensures.middle;
    }
