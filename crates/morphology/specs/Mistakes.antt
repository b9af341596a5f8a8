-- Document 01, "Errors a good engineer makes here", as definitions.
-- proofs/Mistakes.antt: each breaks a worked row.
use Rattle.std.specs.Prelude.{max, List}
use Rattle.std.specs.Bool.{xor}
use Rattle.picture.specs.Frame.{Frame}
use Rattle.picture.specs.Bytes.{Picture}
use Rattle.element.specs.Shape.{Shape}
use Rattle.morphology.specs.Operations.{gather, moved, onward, dilate}
use Rattle.morphology.specs.Check.{Verdict, has_test, sum_test, scan_reach}

-- dilating without turning: the greatest A(p + b)
unfoldable pub dilate_unturned : Frame → Shape → Picture → Picture
dilate_unturned F B A x y =
    gather max 0 B (onward F B x y) (λ c r. A (moved x c B.origin_column) (moved y r B.origin_row))

-- starting the result as a copy of A
unfoldable pub dilate_over_copy : Frame → Shape → Picture → Picture
dilate_over_copy F B A x y = max (A x y) (dilate F B A x y)

-- accepting any chain whose sums are the element
unfoldable pub check_sums : Shape → List Shape → Verdict
check_sums E Bs = scan_reach E Bs (λ e. xor (has_test E e) (sum_test Bs e))
