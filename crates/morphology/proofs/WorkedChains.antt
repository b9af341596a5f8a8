-- The worked chains P12 and P14 for pictures: what their verdicts mean, so that the hypotheses are met.
use Prim.Native.Nat.{ℕ, ◌-◌, ◌≤◌}
use mathlib.Core.Path.{refl}
use mathlib.Core.List.{[], ◌∷◌}
use lib.Dec.{lit≤}
use lib.IntN.{pos, negsuc}
use Rattle.answer.specs.Answer.{centre}
use Rattle.picture.specs.declared.Depth.{Depth}
use Rattle.picture.specs.Frame.{top}
use Rattle.morphology.specs.Chain.{First}
use Rattle.morphology.specs.Check.{step_test, moved_by, can_move, walk_test, between_test, has_test, sum_test}
use Rattle.morphology.specs.Check.{path_test, fault_test, scan_row, scan, total, scan_reach, check_of}
use Rattle.basics.specs.Tests.{any}
use Rattle.morphology.specs.Demand.{Same, Differs}
use Rattle.morphology.specs.Worked.{span, last_but_one}
use Rattle.morphology.proofs.Verdicts.{accepts, splits}

-- dx -1..1 by -1..0 and 0..1 is the same on every picture, at both depths
p12 : (depth : Depth) → Same (top depth) (span 1 1) (span 1 0 ∷ span 0 1 ∷ [])
unfolding any step_test moved_by can_move walk_test between_test has_test
    sum_test path_test fault_test scan_row scan total scan_reach check_of
p12 =
    (accepts (span 1 1) (span 1 0 ∷ span 0 1 ∷ [])
    (record {
      element =
          record {
            few_columns = lit≤ tt;
            few_rows = lit≤ tt;
            origin_column_in = lit≤ tt;
            origin_row_in = lit≤ tt;
          };
      links = (
        record {
          few_columns = lit≤ tt;
          few_rows = lit≤ tt;
          origin_column_in = lit≤ tt;
          origin_row_in = lit≤ tt;
        },
        (
          record {
            few_columns = lit≤ tt;
            few_rows = lit≤ tt;
            origin_column_in = lit≤ tt;
            origin_row_in = lit≤ tt;
          },
          tt,
        ),
      );
      some_links = lit≤ tt;
      few_links = lit≤ tt;
    })).0 refl

-- dx -2..3 by -2 and 0..5 differs on a lone echo of any strength, first at dx -1
p14 : (strength : ℕ) → 1 ≤ strength → First (Differs strength (span 2 3) (last_but_one ∷ span 0 5 ∷ []))
    (record { dx = negsuc 0; dy = pos 0 })
unfolding any step_test moved_by can_move walk_test between_test has_test
    sum_test path_test fault_test scan_row scan total scan_reach check_of
p14 strength some =
    (splits (span 2 3) (last_but_one ∷ span 0 5 ∷ [])
    (record {
      element =
          record {
            few_columns = lit≤ tt;
            few_rows = lit≤ tt;
            origin_column_in = lit≤ tt;
            origin_row_in = lit≤ tt;
          };
      links = (
        record {
          few_columns = lit≤ tt;
          few_rows = lit≤ tt;
          origin_column_in = lit≤ tt;
          origin_row_in = lit≤ tt;
        },
        (
          record {
            few_columns = lit≤ tt;
            few_rows = lit≤ tt;
            origin_column_in = lit≤ tt;
            origin_row_in = lit≤ tt;
          },
          tt,
        ),
      );
      some_links = lit≤ tt;
      few_links = lit≤ tt;
    }) strength some (centre - 1) centre).0 refl
