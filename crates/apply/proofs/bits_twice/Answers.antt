-- The first operation leaves its picture in the scratch, from which the other is made.
-- A picture that was written reads back at each point, so that the other is made of the first's own result:
-- `flat_after`.
use Rattle.apply.proofs.Twice.{flat_after, ready_from}
use Rattle.bitways.proofs.Ways.{ready_small, ready_planned, made_planned}
use Rattle.plan.specs.Steps.Plan.{outline_by}
use Rattle.rows.specs.Steps.Ready.{Ready}
use Rattle.picture.specs.declared.Depth.TheVariants.{OneBit}
use lib.ListN.{length}
use mathlib.Core.Bool.{not}
use mathlib.Core.Path.{sym, subst}
use Rattle.apply.proofs.bits_twice.Goals as goal

pub sweep-requires : goal.sweep-requires
sweep-requires c =
    let a = c.args in record {
      ready = subst (λ n. Ready OneBit (length a.s.now) (length a.words.now) a.w a.h (outline_by n))
          (sym c.plan_of.ensures) (ready_planned a.grows OneBit _ _ _ _ a.o c.requires.ready);
      holds = c.requires.holds_2;
    }

pub sweep-requires-2 : goal.sweep-requires-2
sweep-requires-2 c =
    let a = c.args in
    let m = c.sweep in record {
      ready = subst (λ n. Ready OneBit (length m.new.t) (length a.words.now) a.w a.h
          (outline_by n))
          (sym c.plan_of-2.ensures)
          (ready_planned (not a.grows) OneBit _ _ _ _ a.o
          (ready_from OneBit a.w a.h _ _ _ _ a.o m.auto.t c.requires.ready c.requires.holds_2));
      holds = c.requires.holds;
    }

pub returns : goal.returns
returns c =
    let a = c.args in
    let small = ready_small OneBit _ _ _ _ a.o c.requires.ready in
    let m = made_planned a.grows _ a.w a.h a.o a.words.now a.s.now
    a.scratch.now _ small
    c.plan_of.ensures
    c.sweep.ensures in record {
      bytes = flat_after a.w a.h a.o a.words.now a.s.now _ a.scratch.now a.t.now _
          a.grows OneBit m
          (made_planned (not a.grows) _ a.w a.h a.o a.words.now _ a.t.now _ small
          c.plan_of-2.ensures c.sweep-2.ensures);
      middle = m;
    }
