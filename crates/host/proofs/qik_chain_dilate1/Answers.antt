-- It passes on what `chain_dilate` returns, at the one-bit depth.
-- So what `chain_dilate` promises at that depth is what is promised here.
use Rattle.host.proofs.qik_chain_dilate1.Goals as goal

pub returns : goal.returns
returns c =
    record {
      number = c.chain_dilate.ensures.number;
      first = c.chain_dilate.ensures.first;
      second = c.chain_dilate.ensures.second;
    }
