use Rattle.byheight.specs.Steps.Part.{Part}
use lib.ListN.{get_or-replicate}
use Prim.Native.Nat.{ℕ, zero-le, ◌<◌}
use mathlib.Core.Path.{◌≡◌, refl, sym, ◌∙◌, subst}
use native.Mathlib.Nat.{not-suc-le-zero}
use native.Mathlib.Omega.{arith}
use Rattle.byheight.proofs.sweep_rows.Goals as goal
use Rattle.byheight.proofs.sweep_rows.Goals.{In-loop-v}

-- in a turn of the loop the frame has row v
early : (g : In-loop-v) → g.loop-v.v < 256
early g = omega (
  arith,
  g.loop-v-test.true,
  g.requires.ready.few_bins,
)

pub list_rows-requires : goal.list_rows-requires
list_rows-requires c =
    record {
      fits = c.requires.t_len.1;
      listed = record {
        up_room = refl;
        down_room = refl;
        up_counts = refl;
        down_counts = refl;
        up = λ i h. absurd (not-suc-le-zero h);
        down = λ i h. absurd (not-suc-le-zero h);
      };
    }

pub loop-v-init : goal.loop-v-init
loop-v-init c = (
  zero-le,
  refl,
  c.list_rows.ensures,
  c.requires.part,
  (
    refl,
    λ y h e. absurd (omega (
      arith,
      e,
      get_or-replicate {A = ℕ} 256 y 0 0 (omega (
        arith,
        h,
        c.requires.ready.few_bins,
      )),
    )),
  ),
)

pub slice_bounds-source_row-end : goal.slice_bounds-source_row-end
slice_bounds-source_row-end c = sym c.loop-v.invariant.4.0

pub overflow_cast-v : goal.overflow_cast-v
overflow_cast-v c = omega (arith, early (goal.at.overflow_cast-v c).In-loop-v)

pub slice_bounds-source_row-end-in-loop-v : goal.slice_bounds-source_row-end-in-loop-v
slice_bounds-source_row-end-in-loop-v c = sym c.loop-v.invariant.2.up_room

pub slice_bounds-source_row-end-in-loop-v-2 : goal.slice_bounds-source_row-end-in-loop-v-2
slice_bounds-source_row-end-in-loop-v-2 c = sym c.loop-v.invariant.2.down_room

pub slice_bounds-source_row-end-in-loop-v-3 : goal.slice_bounds-source_row-end-in-loop-v-3
slice_bounds-source_row-end-in-loop-v-3 c = sym c.loop-v.invariant.2.up_counts

pub slice_bounds-source_row-end-in-loop-v-4 : goal.slice_bounds-source_row-end-in-loop-v-4
slice_bounds-source_row-end-in-loop-v-4 c = sym c.loop-v.invariant.2.down_counts

pub source_row-requires : goal.source_row-requires
source_row-requires c =
    let l = c.loop-v in
    let v = c.loop-v-test.true in
    record {
      ready = c.requires.ready;
      t_len = (l.invariant.1 ∙ c.requires.t_len.0, v);
      fits = (c.requires.t_len.1, l.invariant.4);
      listed = l.invariant.2;
      part_2 = l.invariant.3;
    }

pub loop-v-smaller : goal.loop-v-smaller
loop-v-smaller c =
    omega (
      arith,
      c.loop-v-test.true,
    )

pub loop-v-preserved : goal.loop-v-preserved
loop-v-preserved c =
    let l = c.loop-v in
    let r = c.source_row in (
      omega (
        arith,
        c.loop-v-test.true,
      ),
      r.auto.t ∙ l.invariant.1,
      l.invariant.2,
      r.ensures.part,
      r.ensures.marks,
    )

pub shape_of-t : goal.shape_of-t
shape_of-t c = c.loop-v.invariant.1

pub returns : goal.returns
returns c =
    let a = c.args in
    let l = c.loop-v in
    let e : l.v ≡ a.h = omega (arith, l.invariant.0, c.loop-v-test.false) in
    subst (λ v. Part a.grows a.s.now a.w a.h a.o a.words.now a.hs.now a.from a.n v
    a.from l.t) e l.invariant.3
