use Prim.Native.Nat.{min}
use mathlib.Core.Path.{ap, ◌∙◌}
use lib.ListN.{get_or}
use borrow.Author.Rules.{rules}
use Rattle.freeblocks.specs.Steps.Plain.{turned_by}
use Rattle.freeblocks.proofs.Blocks.{over_more}
use Rattle.freeblocks.proofs.least_of.Goals as goal

pub loop-i-preserved : goal.loop-i-preserved
loop-i-preserved c =
    let l = c.loop-i in
    let a = c.args in (
      search rules,
      over_more (λ m. turned_by a.grows (get_or a.c m 0)) l.w c.min-w.result l.i
          l.invariant.1
          (c.min-w.ensures ∙ ap (min l.w) c.turned.ensures),
    )
