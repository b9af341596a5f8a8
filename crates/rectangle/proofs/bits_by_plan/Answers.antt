-- The outline that was read of the plan is the plan's: what is asked and promised of it is of the plan.
-- Nothing else is done.
use Rattle.boxlaw.specs.Steps.Box.{boxed}
use Rattle.rows.specs.Steps.Ready.{Ready}
use Rattle.picture.specs.declared.Depth.TheVariants.{OneBit}
use Rattle.picture.specs.Bytes.{written}
use lib.ListN.{length}
use mathlib.Core.Path.{sym, ap, ◌∙◌, subst}
use mathlib.Core.Bool.{true}
use Rattle.rectangle.proofs.bits_by_plan.Goals as goal

pub bits-requires : goal.bits-requires
bits-requires c =
    record {
      ready = subst (λ o. Ready OneBit (length c.args.s.now) o.h c.args.w c.args.h o)
          (sym c.outline_of.ensures) c.requires.ready;
      holds = c.requires.holds;
    }

pub returns : goal.returns
returns c =
    let a = c.args in
    c.bits.ensures
    ∙ ap (λ o. written OneBit (boxed true a.grows a.s.now a.w a.h o) a.w a.h a.t.now)
    c.outline_of.ensures
