-- The check gives the same verdict as a scan of all offsets from -63 to 63,
-- whatever the element and the chain: what a program may scan.
use mathlib.Core.Path.{◌≡◌}
use mathlib.Core.List.{List}
use native.Mathlib.Omega.{arith}
use Rattle.element.specs.Shape.{Shape}
use Rattle.faults.specs.Steps.Scan.{least, row_offsets}
use Rattle.morphology.specs.Step.{Place}
use Rattle.morphology.specs.Chain.{Chained}
use Rattle.morphology.specs.Check.{still, fault_test, scan, check_of}
use Rattle.morphology.proofs.Places.{FaultAt, missed_at, extra_at}
use Rattle.morphology.proofs.Walks.{near_end}
use Rattle.morphology.proofs.Scan.{Box, scan_says}
use Rattle.morphology.proofs.Check.{says_to, check_says, says_once}

module _ (E : Shape) (Bs : List Shape) (C : Chained E Bs) where
  -- every offset at fault lies there
  fault_near : (d : Place) → FaultAt E Bs d → Box least row_offsets least row_offsets d
  fault_near d (missed_at s np) =
      let f = C.element in
      record { left = omega arith; right = omega arith; upper = omega arith; lower = omega arith }
  fault_near d (extra_at nh w) =
      let l = C.few_links in
      let n = near_end (λ s. Unit {0}) Bs still d C.links w in
      record { left = omega arith; right = omega arith; upper = omega arith; lower = omega arith }

  pub fixed_scan : scan (fault_test E Bs) least row_offsets least row_offsets ≡ check_of E Bs
  fixed_scan =
      says_once E Bs C (scan (fault_test E Bs) least row_offsets least row_offsets) (check_of E Bs)
      (says_to E Bs C (scan (fault_test E Bs) least row_offsets least row_offsets)
      (scan_says E Bs least row_offsets least row_offsets fault_near)) (check_says E Bs C)
