-- Stands on chained::erode, which says of both buffers that they go by the answer that it gave.
-- Here they go by what that answer is told as, which is known, as the number is (`as_told`).
use mathlib.Core.Path.{ap, ◌∙◌}
use Rattle.answer.specs.Packed.{packed}
use Rattle.answer.proofs.Lent.{as_told}
use Rattle.host.proofs.chain_erode.Goals as goal

pub returns : goal.returns
returns c =
    record {
      number = c.pack.ensures ∙ ap packed c.erode.ensures.answer;
      first = as_told _ _ _ _ c.erode.ensures.first c.erode.ensures.answer;
      second = as_told _ _ _ _ c.erode.ensures.second c.erode.ensures.answer;
    }
