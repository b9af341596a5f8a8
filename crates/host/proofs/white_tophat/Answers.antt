-- It passes on what differences::white_tophat returns: target and scratch are that call's own.
-- The number is its answer packed: what the answer is told as is known, and `pack` packs that.
use mathlib.Core.Path.{ap, ◌∙◌}
use Rattle.answer.specs.Packed.{packed}
use Rattle.host.proofs.white_tophat.Goals as goal

pub returns : goal.returns
returns c =
    record {
      number = c.pack.ensures ∙ ap packed c.white_tophat.ensures.answer;
      bytes = c.white_tophat.ensures.bytes;
      middle = c.white_tophat.ensures.middle;
    }
