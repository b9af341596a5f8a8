-- The operation and the outline that were read of the plan are the plan's: what is asked and promised of them
-- is of the plan.
use Rattle.element.specs.Record.{shape_by}
use Rattle.morphology.specs.Operations.{flat}
use Rattle.rows.specs.Steps.Ready.{Ready}
use Rattle.rows.specs.Steps.Ways.{swept_by}
use Rattle.picture.specs.declared.Depth.TheVariants.{OneBit}
use Rattle.picture.specs.Frame.{frame}
use Rattle.picture.specs.Points.{value_at}
use Rattle.picture.specs.Bytes.{written}
use lib.ListN.{length}
use mathlib.Core.Path.{sym, ap₂, ◌∙◌, subst}
use Rattle.bitsource.proofs.sweep_by_plan.Goals as goal

pub sweep-requires : goal.sweep-requires
sweep-requires c =
    record {
      ready = subst (Ready OneBit (length c.args.s.now) (length c.args.words.now) c.args.w c.args.h)
          (sym c.outline_of-o.ensures) c.requires.ready;
      holds = c.requires.holds;
    }

pub returns : goal.returns
returns c =
    let a = c.args in
    c.sweep.ensures
    ∙ ap₂ (λ g o. written OneBit (swept_by g flat 1 (frame a.w a.h) (shape_by o a.words.now)
    (value_at OneBit a.s.now a.w)) a.w a.h a.t.now)
    c.grows_of-grows.ensures c.outline_of-o.ensures
