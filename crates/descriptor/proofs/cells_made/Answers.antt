-- Past the tests the rows hold a one-bit picture of w by h, and picture's own test of its padding decides.
-- The other answers are the definition's where its test is the first that fails.
use Rattle.std.proofs.Common.{length, arith, sym, ap, ◌∙◌, length-drop}
use Rattle.std.proofs.lemmas.Bool.{both_ways, leb-true}
use Rattle.element.proofs.WellMade.{head_tells}
use Rattle.basics.proofs.Lists.{tail_is}
use Rattle.descriptor.proofs.cells_made.Goals as goal
use Rattle.descriptor.proofs.cells_made.Goals.{then-head_made, else-head_made}

pub padding_clear-requires : goal.padding_clear-requires
padding_clear-requires c =
    elim c.if-head_made.branch [
      | then-head_made w ↦
          let d = c.args.d.now in
          let t = head_tells _ _ _ _ (sym c.head_made.ensures ∙ w.if-head_made.true) in
          let rows = leb-true _ _ (sym w.value-is ∙ c.if-cells_end-d.true) in record {
            some_pings = t.some_wide;
            few_pings = omega arith;
            few_bins = omega arith;
            long = omega (arith, rows, w.cells_end.ensures, ap length (tail_is d 4), length-drop 4 d);
          }
      | else-head_made w ↦ absurd (both_ways _ w.if-head_made.false (sym w.value-is ∙ c.if-cells_end-d.true))
    ]
