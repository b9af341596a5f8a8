-- The plan is taken apart and put together, and asks and makes the same: `ready_planned`, `made_planned`.
-- Row by row it is handed on as it came.
use Rattle.bitways.proofs.Ways.{ready_small, ready_planned, made_planned}
use Rattle.plan.specs.Steps.Plan.{Small, outline_by}
use Rattle.element.specs.Record.{shape_by}
use Rattle.morphology.specs.Operations.{flat}
use Rattle.rows.specs.Steps.Ready.{Ready}
use Rattle.rows.specs.Steps.Ways.{swept_by}
use Rattle.picture.specs.declared.Depth.TheVariants.{OneBit}
use Rattle.picture.specs.Frame.{frame}
use Rattle.picture.specs.Points.{value_at}
use Rattle.picture.specs.Bytes.{written}
use Rattle.element.specs.declared.Outline.{Outline}
use Rattle.element.specs.Descriptor.{most_cells}
use lib.ListN.{length}
use Prim.Native.Nat.{◌≤◌}
use mathlib.Core.Path.{sym, ap₂, ◌∙◌, subst}
use mathlib.Core.Bool.{true, false}
use Rattle.bitways.proofs.any_bits.Goals as goal

pub is_dense-requires : goal.is_dense-requires
is_dense-requires c =
    let e = sym c.outline_of-o.ensures in (
      subst (λ (o : Outline). o.h ≤ length c.args.words.now) e c.requires.ready.words,
      subst (λ (o : Outline). o.h ≤ most_cells) e c.requires.ready.few_high,
    )

pub plan_of-requires : goal.plan_of-requires
plan_of-requires c =
    subst Small (sym c.outline_of-o.ensures) (ready_small OneBit _ _ _ _ _
    c.requires.ready)

pub sweep_by_plan-requires : goal.sweep_by_plan-requires
sweep_by_plan-requires c =
    let a = c.args in
    let o = c.outline_of-o in
    let p = c.plan_of in record {
      ready = subst (λ n. Ready OneBit (length a.s.now) (length a.words.now) a.w a.h (outline_by n))
          (sym p.ensures)
          (ready_planned true OneBit _ _ _ _ o.result
          (subst (Ready OneBit (length a.s.now) (length a.words.now) a.w a.h)
          (sym o.ensures) c.requires.ready));
      holds = c.requires.holds;
    }

pub returns-then-grows_of : goal.returns-then-grows_of
returns-then-grows_of c =
    let a = c.args in
    let o = c.outline_of-o in
    let p = c.plan_of in
    made_planned true p.result a.w a.h o.result a.words.now a.s.now a.t.now _
    (subst Small (sym o.ensures) (ready_small OneBit _ _ _ _ _ c.requires.ready)) p.ensures
    c.sweep_by_plan.ensures
    ∙ ap₂ (λ g o. written OneBit (swept_by g flat 1 (frame a.w a.h) (shape_by o a.words.now)
    (value_at OneBit a.s.now a.w)) a.w a.h a.t.now)
    (sym c.if-grows_of.true ∙ c.grows_of.ensures) o.ensures

pub plan_of-requires-then-is_dense : goal.plan_of-requires-then-is_dense
plan_of-requires-then-is_dense c =
    subst Small (sym c.outline_of-o.ensures) (ready_small OneBit _ _ _ _ _
    c.requires.ready)

pub sweep_by_plan-requires-then-is_dense : goal.sweep_by_plan-requires-then-is_dense
sweep_by_plan-requires-then-is_dense c =
    let a = c.args in
    let o = c.outline_of-o in
    let p = c.plan_of-then-is_dense in record {
      ready = subst (λ n. Ready OneBit (length a.s.now) (length a.words.now) a.w a.h (outline_by n))
          (sym p.ensures)
          (ready_planned false OneBit _ _ _ _ o.result
          (subst (Ready OneBit (length a.s.now) (length a.words.now) a.w a.h)
          (sym o.ensures) c.requires.ready));
      holds = c.requires.holds;
    }

pub returns-then-is_dense : goal.returns-then-is_dense
returns-then-is_dense c =
    let a = c.args in
    let o = c.outline_of-o in
    let p = c.plan_of-then-is_dense in
    made_planned false p.result a.w a.h o.result a.words.now a.s.now a.t.now _
    (subst Small (sym o.ensures) (ready_small OneBit _ _ _ _ _ c.requires.ready)) p.ensures
    c.sweep_by_plan-then-is_dense.ensures
    ∙ ap₂ (λ g o. written OneBit (swept_by g flat 1 (frame a.w a.h) (shape_by o a.words.now)
    (value_at OneBit a.s.now a.w)) a.w a.h a.t.now)
    (sym c.if-grows_of.false ∙ c.grows_of.ensures) o.ensures
