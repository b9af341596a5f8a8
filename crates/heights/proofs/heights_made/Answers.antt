use Rattle.std.proofs.Common.{sym, ◌∙◌}
use Rattle.element.specs.Descriptor.{heights_made}
use Rattle.basics.proofs.Tests.{all_stop}
use Rattle.heights.proofs.heights_made.Goals as goal

pub returns-then-not-row_heights_made : goal.returns-then-not-row_heights_made
unfolding heights_made
returns-then-not-row_heights_made c =
    sym (all_stop _ c.loop-y.y c.args.h c.loop-y-test.true
    (sym c.row_heights_made.ensures ∙ c.if-not-row_heights_made.true))
