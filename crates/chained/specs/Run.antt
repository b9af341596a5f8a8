-- Document 01, "Chains": a chained run, its answer and what it leaves in the two work buffers.
use Rattle.std.specs.Prelude.{ℕ, ◌-◌, ◌%◌, cond, List, eqb}
use Rattle.answer.specs.declared.Told.{Told}
use Rattle.answer.specs.Answer.{plain}
use Rattle.answer.specs.Refuse.{refuse}
use Rattle.answer.specs.Lent.{if_done}
use Rattle.picture.specs.declared.Depth.{Depth}
use Rattle.picture.specs.Frame.{top, frame}
use Rattle.picture.specs.Points.{value_at}
use Rattle.picture.specs.Bytes.{Picture, written}
use Rattle.morphology.specs.Chain.{erode_all, dilate_all}
use Rattle.judge.specs.declared.Padding.TheVariants.{Free}
use Rattle.judge.specs.Tests.{picture_tests, room_tests}
use Rattle.chain.specs.Reading.{links_in, checked}

-- refused where the check refuses: SIZE and SOURCE before it,
-- and after it ROOM, of the shorter of the two buffers
unfoldable pub run_answer : Depth → ℕ → ℕ → List ℕ → List ℕ → ℕ → List ℕ → ℕ → Told
run_answer depth w h source element k chain room =
    refuse (picture_tests Free depth w h source)
    (if_done (checked element k chain) (refuse (room_tests depth w h 0 room) (plain 0)))

-- the results, by their number: each of the first i links in order, all as erosion or all as dilation
unfoldable pub eroded : Depth → ℕ → ℕ → List ℕ → List ℕ → ℕ → Picture
eroded depth w h source chain i =
    erode_all (top depth) (frame w h) (links_in i chain) (value_at depth source w)

unfoldable pub dilated : Depth → ℕ → ℕ → List ℕ → List ℕ → ℕ → Picture
dilated depth w h source chain i = dilate_all (frame w h) (links_in i chain) (value_at depth source w)

-- results 1, 3 and 5 go to the first buffer, 2 and 4 to the second:
-- after k links the last result is in one and the one before it in the other
abbrev pub in_first : ℕ → ℕ
in_first k = cond (eqb (k % 2) 1) k (k - 1)

abbrev pub in_second : ℕ → ℕ
in_second k = cond (eqb (k % 2) 1) (k - 1) k

-- a buffer once result i is written to it; result 0 is none, and leaves it untouched
abbrev pub holding : Depth → ℕ → ℕ → (ℕ → Picture) → ℕ → List ℕ → List ℕ
holding depth w h result i t = cond (eqb i 0) t (written depth (result i) w h t)

-- the two buffers after k links
unfoldable pub first_after : Depth → ℕ → ℕ → (ℕ → Picture) → ℕ → List ℕ → List ℕ
first_after depth w h result k t = holding depth w h result (in_first k) t

unfoldable pub second_after : Depth → ℕ → ℕ → (ℕ → Picture) → ℕ → List ℕ → List ℕ
second_after depth w h result k t = holding depth w h result (in_second k) t
