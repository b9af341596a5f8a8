-- Invariant: the rows before r are runs of all cells; r goes up to the height, so that the rows left fall.
-- The first row that is not one settles the answer.
use Rattle.packedline.specs.Steps.Cells.{run_word}
use Rattle.basics.specs.Tests.{all}
use lib.Dec.{eqb}
use lib.ListN.{get_or}
use Prim.Native.Nat.{◌≤◌, ◌-◌}
use mathlib.Core.Bool.{true}
use mathlib.Core.Path.{◌≡◌}
use Rattle.boxes.proofs.is_box.Given as goal

abbrev pub invariant-loop-r : goal.invariant-loop-r
invariant-loop-r l = (l.r ≤ l.fn.o.h) × (all (λ r. eqb (get_or l.words r 0) (run_word l.fn.o.w)) l.r ≡ true)
