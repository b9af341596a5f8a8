-- Dilation is the run of that way: what the run promises, word for word.
-- So what it returns is what the run returns.
use Rattle.chained.proofs.dilate.Goals as goal

pub returns : goal.returns
returns c =
    record {
      answer = c.run.ensures.answer;
      first = c.run.ensures.first;
      second = c.run.ensures.second;
    }
