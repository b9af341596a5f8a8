-- What the mistakes give, computed: each breaks a row of the table.
use mathlib.Core.Bool.{not, xor, ◌&&◌}
use mathlib.Core.List.{[], ◌∷◌}
use lib.Dec.{T}
use Rattle.basics.specs.Tests.{all, any}
use Rattle.morphology.specs.Operations.{fold, gather, erode_by, dilate_by, opening}
use Rattle.morphology.specs.Check.{step_test, moved_by, can_move, walk_test, has_test}
use Rattle.morphology.specs.Check.{sum_test, scan_row, scan, total, scan_reach}
use Rattle.morphology.specs.Worked.{bits, bytes, span, same_in, taken_by, seven}
use Rattle.morphology.specs.Worked.{three, T₃, L₃, next, last, last_but_one}
use Rattle.morphology.specs.Mistakes.{dilate_unturned, dilate_over_copy, check_sums}

-- P2 without the turn gives 0001111
unturned : T (same_in seven (dilate_unturned seven T₃ (bits seven 0b0001110)) (bits seven 0b0001111))
unfolding same_in all fold gather dilate_unturned
unturned = tt

-- P9 over a copy of A gives 10 200 200 where it should give 0 10 200
over_copy : T (same_in three (dilate_over_copy three next (bytes three (10 ∷ 200 ∷ 30 ∷ [])))
    (bytes three (10 ∷ 200 ∷ 200 ∷ [])))
unfolding same_in all fold gather dilate_by dilate_over_copy
over_copy = tt

-- P5: opening does care where the origin is
origin_matters : T (not (same_in seven (opening 1 seven T₃ (bits seven 0b0000011))
    (opening 1 seven L₃ (bits seven 0b0000011))))
unfolding same_in all fold gather erode_by dilate_by
origin_matters = tt

-- P13 and P14 pass a check that only compares the sums with the element
sums_pass : T (taken_by (check_sums (span 0 0) (next ∷ last ∷ []))
    && taken_by (check_sums (span 2 3) (last_but_one ∷ span 0 5 ∷ [])))
unfolding taken_by any step_test moved_by can_move walk_test
    has_test sum_test scan_row scan total scan_reach check_sums xor
sums_pass = tt
