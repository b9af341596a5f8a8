-- The definitions computed on small pictures: a step aslant is the square's alone; no step crosses a gap.
use mathlib.Core.Bool.{◌&&◌}
use lib.Dec.{T}
use Rattle.basics.specs.Tests.{all, any}
use Rattle.picture.specs.Frame.{Frame, frame}
use Rattle.morphology.specs.Operations.{fold, gather, dilate_by}
use Rattle.morphology.specs.Worked.{bits, same_in}
use Rattle.grown.specs.declared.Neighbours.TheVariants.{Cross, Square}
use Rattle.grown.specs.Grown.{grown_once, grown_times, grown}
use Rattle.grown.specs.Marker.{outside}

abbrev two : Frame
two = frame 2 2

abbrev row : Frame
row = frame 4 1

aslant : T (same_in two (grown Cross two (bits two 0b10_01) (bits two 0b10_00)) (bits two 0b10_00)
    && same_in two (grown Square two (bits two 0b10_01) (bits two 0b10_00)) (bits two 0b10_01))
unfolding same_in all fold gather dilate_by grown_once grown_times grown
aslant = tt

a_gap : T (same_in row (grown Square row (bits row 0b1101) (bits row 0b0100)) (bits row 0b1100))
unfolding same_in all fold gather dilate_by grown_once grown_times grown
a_gap = tt

-- a marker point where the mask has none
lies_outside : T (outside row (bits row 0b1101) (bits row 0b0110))
unfolding any outside
lies_outside = tt
