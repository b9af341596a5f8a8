-- It passes on what `chain_erode` returns, at the one-bit depth.
-- So what `chain_erode` promises at that depth is what is promised here.
use Rattle.host.proofs.qik_chain_erode1.Goals as goal

pub returns : goal.returns
returns c =
    record {
      number = c.chain_erode.ensures.number;
      first = c.chain_erode.ensures.first;
      second = c.chain_erode.ensures.second;
    }
