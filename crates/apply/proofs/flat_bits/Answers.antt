-- The plan does what the operation and the outline do: `ready_planned` and `made_planned`.
-- Nothing else is done.
use Rattle.bitways.proofs.Ways.{ready_small, ready_planned, made_planned}
use Rattle.plan.specs.Steps.Plan.{outline_by}
use Rattle.rows.specs.Steps.Ready.{Ready}
use Rattle.picture.specs.declared.Depth.TheVariants.{OneBit}
use lib.ListN.{length}
use mathlib.Core.Path.{sym, subst}
use Rattle.apply.proofs.flat_bits.Goals as goal

pub sweep-requires : goal.sweep-requires
sweep-requires c =
    let a = c.args in record {
      ready = subst (λ n. Ready OneBit (length a.s.now) (length a.words.now) a.w a.h (outline_by n))
          (sym c.plan_of.ensures) (ready_planned a.grows OneBit _ _ _ _ a.o c.requires.ready);
      holds = c.requires.holds;
    }

pub returns : goal.returns
returns c =
    let a = c.args in
    made_planned a.grows _ a.w a.h a.o a.words.now a.s.now a.t.now _
    (ready_small OneBit _ _ _ _ a.o c.requires.ready) c.plan_of.ensures
    c.sweep.ensures
