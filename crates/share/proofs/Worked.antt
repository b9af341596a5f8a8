-- Some histories of a plain map, computed: a put, a get, refusals, and room that is used again.
use Prim.Native.Nat.{ℕ}
use mathlib.Core.Path.{◌≡◌, refl}
use mathlib.Core.List.{List, [], ◌∷◌}
use Rattle.answer.specs.Answer.{plain}
use Rattle.answer.specs.Lent.{unless_refused}
use Rattle.basics.specs.Tests.{all}
use Rattle.picture.specs.Bytes.{padding_clear, lasts_clear}
use Rattle.element.specs.Descriptor.{head_made, cells_made, well_made}
use Rattle.share.specs.Share.{sum_to}
use Rattle.share.specs.Maps.{empty, Put, Get, Remove, Tidy, Reply, map_reply, map_after, map_replies}

-- one set cell: five bytes
cell : List ℕ
cell = 1 ∷ 1 ∷ 0 ∷ 0 ∷ 128 ∷ []

said : ℕ → Reply
said n = (plain n, [])

got : List ℕ → Reply
got d = (plain 0, d)

-- ABSENT above the numbers and where nothing is held, SHAPE, and ABSENT before SHAPE
worked : map_replies 8 1000 empty (Put 0 cell ∷ Get 0 ∷ Remove 0 ∷ Get 0 ∷ Put 8 cell ∷ Put 8 [] ∷ Put 7 []
    ∷ Remove 0 ∷ Tidy ∷ [])
    ≡ said 0 ∷ got cell ∷ said 0 ∷ said 14 ∷ said 14 ∷ said 14 ∷ said 4 ∷ said 14 ∷ said 0 ∷ []
unfolding cell said got plain unless_refused map_replies map_reply map_after sum_to well_made cells_made
    head_made
    padding_clear lasts_clear all
worked = refl

-- with nine bytes of room: FULL for a second descriptor, not for one that is replaced, nor once the first
-- is removed
reused : map_replies 2 9 empty (Put 0 cell ∷ Put 1 cell ∷ Put 0 cell ∷ Get 1 ∷ Remove 0 ∷ Put 1 cell ∷ Get
    1 ∷ Get 0 ∷ [])
    ≡ said 0 ∷ said 13 ∷ said 0 ∷ said 14 ∷ said 0 ∷ said 0 ∷ got cell ∷ said 14 ∷ []
unfolding cell said got plain unless_refused map_replies map_reply map_after sum_to well_made cells_made
    head_made
    padding_clear lasts_clear all
reused = refl
