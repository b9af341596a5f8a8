-- It passes on what hit::hit_or_miss returns: the target is that call's own.
-- The number is its answer packed: what the answer is told as is known, and `pack` packs that.
use mathlib.Core.Path.{ap, ◌∙◌}
use Rattle.answer.specs.Packed.{packed}
use Rattle.host.proofs.qik_hit_or_miss.Goals as goal

pub returns : goal.returns
returns c =
    record {
      number = c.pack.ensures ∙ ap packed c.hit_or_miss.ensures.answer;
      bytes = c.hit_or_miss.ensures.bytes;
    }
