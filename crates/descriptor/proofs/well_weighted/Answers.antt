-- Well made cells give w and h, and these the one length that it can have.
-- At that length cells and heights each hold a picture of w by h, and the walk over the heights decides.
use Rattle.std.proofs.Common.{length, arith, sym, ap, ◌∙◌, length-drop}
use Rattle.element.proofs.WellMade.{cells_tell}
use Rattle.basics.proofs.Lists.{tail_is}
use Rattle.descriptor.proofs.well_weighted.Goals as goal

pub bounds-d-0 : goal.bounds-d-0
bounds-d-0 c =
    let t = cells_tell _ (sym c.cells_made.ensures ∙ c.if-not-cells_made.false) in omega arith

pub bounds-d-1 : goal.bounds-d-1
bounds-d-1 c =
    let t = cells_tell _ (sym c.cells_made.ensures ∙ c.if-not-cells_made.false) in omega arith

pub heights_made-requires : goal.heights_made-requires
heights_made-requires c =
    let d = c.args.d.now in
    let t = cells_tell d (sym c.cells_made.ensures ∙ c.if-not-cells_made.false) in
    let n = c.cells_end-end.result in
    record {
      holds = record {
        some_pings = omega arith;
        few_pings = omega arith;
        few_bins = omega arith;
        long = omega (arith, ap length (tail_is d 4), length-drop 4 d, c.cells_end-end.ensures);
      };
      holds_2 = record {
        some_pings = omega arith;
        few_pings = omega arith;
        few_bins = omega arith;
        long = omega (
          arith,
          ap length (tail_is d n),
          length-drop n d,
          c.cells_end-end.ensures,
          c.if-d-end.true,
        );
      };
    }
