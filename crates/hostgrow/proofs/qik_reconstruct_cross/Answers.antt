-- It passes on what `reconstruct` returns, for the cross.
-- So what `reconstruct` promises of it is what is promised here.
use Rattle.hostgrow.proofs.qik_reconstruct_cross.Goals as goal

pub returns : goal.returns
returns c =
    record {
      number = c.reconstruct.ensures.number;
      bytes = c.reconstruct.ensures.bytes;
    }
