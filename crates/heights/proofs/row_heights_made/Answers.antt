use Rattle.std.proofs.Common.{arith, sym, ap₂, ◌∙◌}
use Rattle.std.specs.Prelude.{eqb}
use Rattle.element.specs.Descriptor.{height_made, height_made_at, heights_made_in}
use Rattle.basics.proofs.Tests.{all_stop, all_done}
use Rattle.heights.proofs.row_heights_made.Goals as goal

pub returns : goal.returns
unfolding heights_made_in
returns c = sym (all_done _ c.loop-c.c _ (omega arith) c.loop-c.invariant)

pub returns-then-not-height_made : goal.returns-then-not-height_made
unfolding heights_made_in height_made_at
returns-then-not-height_made c =
    sym (all_stop _ c.loop-c.c c.args.w c.loop-c-test.true
    (sym (c.height_made.ensures ∙ ap₂ (λ n g. height_made (eqb n 1) g) c.value-set.ensures c.value-g.ensures)
    ∙ c.if-not-height_made.true))
