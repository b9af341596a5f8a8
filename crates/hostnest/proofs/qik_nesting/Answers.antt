-- It passes on what nesting::nest returns: the list is that call's own.
-- The number is its answer packed, with the number of regions beside it, which is 0 where it is refused.
use mathlib.Core.Path.{◌∙◌}
use Rattle.answer.specs.Answer.{told}
use Rattle.hostnest.proofs.Packed.{nest_packed}
use Rattle.hostnest.proofs.qik_nesting.Goals as goal

pub returns-in-Ok-clause-number : goal.returns-in-Ok-clause-number
unfolding told
returns-in-Ok-clause-number c =
    λ R f. c.pack_nested.ensures
    ∙ nest_packed R _ _ _ _ _ _ c.pack.ensures (c.in-Ok.ensures.back R f)

pub returns-in-Err-clause-number : goal.returns-in-Err-clause-number
unfolding told
returns-in-Err-clause-number c =
    λ R f. c.pack_nested-in-Err.ensures
    ∙ nest_packed R _ _ _ _ _ _ c.pack-in-Err.ensures (c.in-Err.ensures.back R f)
