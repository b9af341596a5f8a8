-- It passes on what `chain_dilate` returns, at the 8-bit depth.
-- So what `chain_dilate` promises at that depth is what is promised here.
use Rattle.host.proofs.qik_chain_dilate8.Goals as goal

pub returns : goal.returns
returns c =
    record {
      number = c.chain_dilate.ensures.number;
      first = c.chain_dilate.ensures.first;
      second = c.chain_dilate.ensures.second;
    }
