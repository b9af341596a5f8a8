-- The one proof over the table of worked pictures and chains:
-- it is computed, for any picture where P7 says so.
use lib.Dec.{T}
use Rattle.basics.specs.Tests.{all, any}
use Rattle.picture.specs.Bytes.{Picture}
use Rattle.morphology.specs.Operations.{fold, gather, erode_by, dilate_by, hit_miss}
use Rattle.morphology.specs.Check.{step_test, moved_by, can_move, walk_test, between_test, has_test, sum_test}
use Rattle.morphology.specs.Check.{path_test, fault_test, scan_row, scan, total, scan_reach, check_of}
use Rattle.morphology.specs.Worked.{same_in, taken_by, split_by, right, every, table}

pub worked : (A : Picture) → T (every (table A))
unfolding table every right same_in taken_by split_by all fold gather erode_by
    dilate_by hit_miss any step_test moved_by can_move walk_test between_test
    has_test sum_test path_test fault_test scan_row scan total scan_reach check_of
worked A = tt
