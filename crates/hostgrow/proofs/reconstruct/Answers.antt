-- It passes on what reconstruct::reconstruct returns: the target is that call's own.
-- The number is its answer packed: what the answer is told as is known, and `pack` packs that.
use mathlib.Core.Path.{ap, ◌∙◌}
use Rattle.answer.specs.Packed.{packed}
use Rattle.hostgrow.proofs.reconstruct.Goals as goal

pub returns : goal.returns
returns c =
    record {
      number = c.pack.ensures ∙ ap packed c.reconstruct.ensures.answer;
      bytes = c.reconstruct.ensures.bytes;
    }
