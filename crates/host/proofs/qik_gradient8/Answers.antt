-- It passes on what `gradient` returns, at the 8-bit depth.
-- So what `gradient` promises at that depth is what is promised here.
use Rattle.host.proofs.qik_gradient8.Goals as goal

pub returns : goal.returns
returns c =
    record {
      number = c.gradient.ensures.number;
      bytes = c.gradient.ensures.bytes;
      middle = c.gradient.ensures.middle;
    }
