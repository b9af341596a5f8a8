-- It passes on what differences::gradient returns: target and scratch are that call's own.
-- The number is its answer packed: what the answer is told as is known, and `pack` packs that.
use mathlib.Core.Path.{ap, ◌∙◌}
use Rattle.answer.specs.Packed.{packed}
use Rattle.host.proofs.gradient.Goals as goal

pub returns : goal.returns
returns c =
    record {
      number = c.pack.ensures ∙ ap packed c.gradient.ensures.answer;
      bytes = c.gradient.ensures.bytes;
      middle = c.gradient.ensures.middle;
    }
