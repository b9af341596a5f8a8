-- It passes on what differences::black_tophat returns: target and scratch are that call's own.
-- The number is its answer packed: what the answer is told as is known, and `pack` packs that.
use mathlib.Core.Path.{ap, ◌∙◌}
use Rattle.answer.specs.Packed.{packed}
use Rattle.host.proofs.black_tophat.Goals as goal

pub returns : goal.returns
returns c =
    record {
      number = c.pack.ensures ∙ ap packed c.black_tophat.ensures.answer;
      bytes = c.black_tophat.ensures.bytes;
      middle = c.black_tophat.ensures.middle;
    }
