use Rattle.rectangle.proofs.Turns.{fit_in}
use Rattle.boxlaw.specs.Steps.Box.{boxed}
use Rattle.boxpair.specs.Steps.Fit.{BoxFit}
use Rattle.boxpair.proofs.Rows.{fit_own, two_more, last_more, all_done}
use Rattle.rows.proofs.Written.{written_none}
use Rattle.picture.specs.declared.Depth.TheVariants.{EightBit}
use lib.ListN.{length}
use Prim.Native.Nat.{ℕ}
use mathlib.Core.Path.{◌≡◌, refl, sym, ◌∙◌}
use mathlib.Core.Bool.{false}
use native.Mathlib.Omega.{arith}
use borrow.Author.Rules.{rules}
use Rattle.rectangle.proofs.bytes.Goals as goal
use Rattle.rectangle.proofs.bytes.Goals.{At-loop-y}

-- what the work asks for, of a target and a room that are as long as at first
fit : (c : At-loop-y) (nt nb : ℕ) → nt ≡ length c.args.t.now → nb ≡ 1224
    → BoxFit false (length c.args.s.now) nt nb c.args.w c.args.h c.args.o
fit c nt nb = fit_in false _ _ nt nb _ _ _ c.requires.ready c.requires.holds

pub loop-y-init : goal.loop-y-init
loop-y-init c =
    let a = c.args in (
      omega arith,
      refl,
      refl,
      written_none EightBit (boxed false a.grows a.s.now a.w a.h a.o) a.w a.t.now,
    )

pub overflow_add-y : goal.overflow_add-y
overflow_add-y c = omega (arith, c.requires.ready.few_bins, c.loop-y.invariant.0)

pub slice_bounds-upper-end : goal.slice_bounds-upper-end
slice_bounds-upper-end c = sym c.loop-y.invariant.2

pub upper-requires : goal.upper-requires
upper-requires c =
    record {
      box_fit = fit (goal.at.upper-requires c).At-loop-y _ _ c.loop-y.invariant.1 c.loop-y.invariant.2;
      y_le_z = (omega arith, (omega arith, search rules));
    }

pub slice_bounds-lower-end : goal.slice_bounds-lower-end
slice_bounds-lower-end c =
    sym (c.upper.auto.b
    ∙ c.loop-y.invariant.2)

pub lower-requires : goal.lower-requires
lower-requires c =
    let u = c.upper in record {
      box_fit = fit_own false _ _ _ _ _ _
          (fit (goal.at.lower-requires c).At-loop-y _ _
          (u.auto.t ∙ c.loop-y.invariant.1) (u.auto.b ∙ c.loop-y.invariant.2));
      z_lt_h = search rules;
    }

pub loop-y-preserved : goal.loop-y-preserved
loop-y-preserved c =
    let a = c.args in
    let u = c.upper in
    let w = c.lower in (
      omega (
        arith,
        c.loop-y-test.true,
      ),
      w.auto.t ∙ u.auto.t ∙ c.loop-y.invariant.1,
      w.auto.b ∙ u.auto.b ∙ c.loop-y.invariant.2,
      two_more false a.grows a.s.now a.w a.h a.o a.t.now (length c.loop-y.t)
          c.loop-y.y
          c.loop-y.t u.new.t w.new.t u.new.b _
          (fit (goal.at.loop-y-preserved c).At-loop-y _ _
          c.loop-y.invariant.1 (u.auto.b ∙ c.loop-y.invariant.2))
          refl c.loop-y-test.true c.loop-y.invariant.3 u.ensures.rows refl w.ensures.row
          w.ensures.known,
    )

pub slice_bounds-upper-end-then-y-h : goal.slice_bounds-upper-end-then-y-h
slice_bounds-upper-end-then-y-h c = sym c.loop-y.invariant.2

pub upper-requires-then-y-h : goal.upper-requires-then-y-h
upper-requires-then-y-h c =
    record {
      box_fit = fit (goal.at.upper-requires-then-y-h c).At-loop-y _ _
          c.loop-y.invariant.1 c.loop-y.invariant.2;
      y_le_z = (omega arith, (omega arith, search rules));
    }

pub shape_of-t-then-y-h : goal.shape_of-t-then-y-h
shape_of-t-then-y-h c =
    c.upper-then-y-h.auto.t
    ∙ c.loop-y.invariant.1

pub returns-then-y-h : goal.returns-then-y-h
returns-then-y-h c =
    let a = c.args in
    last_more false a.grows a.s.now a.w a.h a.o a.t.now _ _ _ c.loop-y.y c.loop-y.t
    _
    (fit (goal.at.returns-then-y-h c).At-loop-y _ _ refl refl)
    c.loop-y.invariant.1 (omega arith) (omega arith) c.loop-y.invariant.3
    c.upper-then-y-h.ensures.rows

pub shape_of-t : goal.shape_of-t
shape_of-t c = c.loop-y.invariant.1

pub returns : goal.returns
returns c =
    let a = c.args in
    all_done false a.grows a.s.now a.w a.h a.o a.t.now c.loop-y.y c.loop-y.t
    c.loop-y.invariant.3 (omega arith)
