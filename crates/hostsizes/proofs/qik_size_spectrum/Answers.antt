-- It passes on what spectrum::spectrum returns: list and scratch are that call's own.
-- The number is its answer packed: what the answer is told as is known, and `pack` packs that.
use mathlib.Core.Path.{ap, ◌∙◌}
use Rattle.answer.specs.Packed.{packed}
use Rattle.hostsizes.proofs.qik_size_spectrum.Goals as goal

pub returns : goal.returns
returns c =
    record {
      number = c.pack.ensures ∙ ap packed c.spectrum.ensures.answer;
      counts = c.spectrum.ensures.counts;
      scratch = c.spectrum.ensures.scratch;
    }
