use Rattle.byheight.proofs.Part.{part_source}
use Rattle.byheight.specs.Steps.Part.{Part}
use Rattle.heightsigns.specs.Steps.Padded.{Padded}
use Rattle.bitrow.specs.Steps.Added.{row_in}
use Rattle.sourceparts.proofs.Bytes.{row_long}
use Rattle.picture.proofs.Sizes.{row_room}
use lib.ListN.{length, replicate}
use Prim.Native.Nat.{zero-le, ◌+◌, ◌≤◌}
use mathlib.Core.Path.{◌≡◌, refl, sym, ◌∙◌, ap, subst}
use native.Mathlib.Omega.{arith}
use Rattle.byheight.proofs.source_row.Goals as goal
use Rattle.byheight.proofs.source_row.Goals.{After-row_of-row}

-- the row that stands in b is row v of the source
row_is : (c : After-row_of-row) → let a = c.args in
    c.row_of-row.result.now ≡ row_in a.w a.s.now a.v.0
row_is c = c.row_of-row.ensures

few : (c : After-row_of-row) → length c.row_of-row.result.now ≤ 1024
few c = let a = c.args in
    let l = row_long a.s.now a.w a.h a.v.0 c.requires.t_len.1 c.requires.ready.source in
    omega (arith, ap length (row_is c) ∙ l, c.requires.ready.few_pings)

pub beyond-b-requires : goal.beyond-b-requires
beyond-b-requires c = tt

pub row_of-row-requires : goal.row_of-row-requires
row_of-row-requires c =
    omega (
      arith,
      c.requires.ready.source,
      row_room c.args.w {y = c.args.v.0} {n = c.args.h} c.requires.t_len.1,
    )

pub slice_bounds-fill-end : goal.slice_bounds-fill-end
slice_bounds-fill-end c = refl

pub fill-requires : goal.fill-requires
fill-requires c =
    record {
      s_len_bound = few (goal.at.fill-requires c).After-row_of-row;
      b_value = ap (replicate 1152) (omega (
        arith,
        c.beyond-b.ensures,
      ));
    }

pub few_ends-bold-requires : goal.few_ends-bold-requires
few_ends-bold-requires c = few (goal.at.few_ends-bold-requires c).After-row_of-row

pub loop-i-init : goal.loop-i-init
loop-i-init c =
    let a = c.args in
    let e : a.from ≡ a.from + 0 = omega arith in (
      zero-le,
      refl,
      subst (λ m. Part a.grows a.s.now a.w a.h a.o a.words.now a.hs.now a.from
          a.n a.v.0 m a.t.now) e c.requires.part_2,
      c.requires.fits.1,
    )

pub slice_bounds-add_row-end : goal.slice_bounds-add_row-end
slice_bounds-add_row-end c = sym c.fill.auto.b

pub add_row-requires : goal.add_row-requires
add_row-requires c =
    let a = c.args in
    let l = c.loop-i in
    let f = c.fill in
    let b = subst (λ r. Padded a.grows r f.new.b) (row_is (goal.at.add_row-requires c).After-row_of-row)
    f.ensures in record {
      ready = c.requires.ready;
      t_len = (l.invariant.1 ∙ c.requires.t_len.0, (c.requires.t_len.1, c.loop-i-test.true));
      fits = (c.requires.fits.0, l.invariant.3);
      listed = c.requires.listed;
      padded = b;
      part_2 = l.invariant.2;
    }

pub loop-i-smaller : goal.loop-i-smaller
loop-i-smaller c = omega (arith, c.loop-i-test.true)

pub loop-i-preserved : goal.loop-i-preserved
loop-i-preserved c =
    let a = c.args in
    let l = c.loop-i in
    let r = c.add_row in
    let e : a.from + l.i + 1 ≡ a.from + (l.i + 1) = omega arith in (
      omega (arith, c.loop-i-test.true),
      r.auto.t ∙ l.invariant.1,
      subst (λ m. Part a.grows a.s.now a.w a.h a.o a.words.now a.hs.now a.from
          a.n a.v.0 m r.new.t) e r.ensures.part,
      r.ensures.marks,
    )

pub shape_of-t : goal.shape_of-t
shape_of-t c = c.loop-i.invariant.1

pub shape_of-marks : goal.shape_of-marks
shape_of-marks c = c.loop-i.invariant.3.0 ∙ sym c.requires.fits.1.0

pub returns : goal.returns
returns c =
    let a = c.args in
    let l = c.loop-i in record {
      marks = l.invariant.3;
      part = part_source a.grows a.s.now a.w a.h a.o a.words.now a.hs.now a.from a.n
          a.v.0 (a.from + l.i) l.t (omega (arith, l.invariant.0, c.loop-i-test.false)) l.invariant.2;
    }
