-- It passes on what chain::check_chain answers, packed; no buffer is lent for writing.
-- What the answer is told as is known, and `pack` packs that.
use mathlib.Core.Path.{ap, ◌∙◌}
use Rattle.answer.specs.Packed.{packed}
use Rattle.host.proofs.qik_check_chain.Goals as goal

pub returns : goal.returns
returns c = c.pack.ensures ∙ ap packed c.check_chain.ensures
