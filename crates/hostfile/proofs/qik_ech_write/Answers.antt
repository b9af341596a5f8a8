-- It passes on what echwrite::write_ech returns: the target is that call's own.
-- The number is its answer packed: what the answer is told as is known, and `pack` packs that.
use mathlib.Core.Path.{ap, ◌∙◌}
use Rattle.answer.specs.Packed.{packed}
use Rattle.hostfile.proofs.qik_ech_write.Goals as goal

pub returns : goal.returns
returns c =
    record {
      number = c.pack.ensures ∙ ap packed c.write_ech.ensures.result_value;
      bytes = c.write_ech.ensures.target_after;
    }
