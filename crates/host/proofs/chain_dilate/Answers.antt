-- Stands on chained::dilate, which says of both buffers that they go by the answer that it gave.
-- Here they go by what that answer is told as, which is known, as the number is (`as_told`).
use mathlib.Core.Path.{ap, ◌∙◌}
use Rattle.answer.specs.Packed.{packed}
use Rattle.answer.proofs.Lent.{as_told}
use Rattle.host.proofs.chain_dilate.Goals as goal

pub returns : goal.returns
returns c =
    record {
      number = c.pack.ensures ∙ ap packed c.dilate.ensures.answer;
      first = as_told _ _ _ _ c.dilate.ensures.first c.dilate.ensures.answer;
      second = as_told _ _ _ _ c.dilate.ensures.second c.dilate.ensures.answer;
    }
