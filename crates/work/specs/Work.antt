-- Which refusals the work gives, in document 01's order and with its numbers;
-- and what the operation makes of the file's picture.
use Rattle.std.specs.Prelude.{ℕ, min, List, [], ◌∷◌, ◌++◌, ltb, length}
use Rattle.answer.specs.declared.Told.{Told}
use Rattle.answer.specs.Answer.{plain}
use Rattle.answer.specs.Refuse.{Test, refuse}
use Rattle.picture.specs.declared.Depth.{Depth}
use Rattle.picture.specs.Frame.{top, frame}
use Rattle.picture.specs.Bytes.{Picture, written}
use Rattle.element.specs.Shape.{Shape}
use Rattle.element.specs.Descriptor.{well_made, shape_in}
use Rattle.morphology.specs.Operations.{erode, dilate, opening, closing}
use Rattle.judge.specs.Tests.{shape_tests}
use Rattle.ech.specs.File.{depth_of, kind_of, reported_kind, pings_of, bins_of}
use Rattle.ech.specs.ReadWrite.{file_tests, picture_of}
use Rattle.text.specs.Text.{text_of, most_text}
use Rattle.work.specs.declared.Operation.{Operation}
use Rattle.work.specs.declared.Operation.TheVariants.{Erode, Dilate, Open, Close}

-- the longest text of the file f's size and reported kind
abbrev pub longest : List ℕ → ℕ
longest f = most_text (depth_of (kind_of f)) (pings_of f) (bins_of f) (reported_kind f)

-- ROOM: a text of n bytes is too short for it
abbrev pub text_tests : List ℕ → ℕ → List Test
text_tests f n = (ltb n (longest f), 8) ∷ []

-- an element d and a file f are met as 4, then the file's order,
-- with work buffers of `room` bytes and a text of n
abbrev pub work_tests : List ℕ → List ℕ → ℕ → ℕ → List Test
work_tests d f room n = shape_tests (well_made d) ++ (file_tests f room ++ text_tests f n)

-- ROOM goes by the shortest of the three work buffers
abbrev pub shortest : List ℕ → List ℕ → List ℕ → ℕ
shortest p r m = min (length p) (min (length r) (length m))

unfoldable pub work_answer : List ℕ → List ℕ → List ℕ → List ℕ → List ℕ → List ℕ → Told
work_answer d f p r m t = refuse (work_tests d f (shortest p r m) (length t)) (plain 0)

-- ---- the operation on the picture A by the element B
unfoldable pub operated : Operation → Depth → ℕ → ℕ → Shape → Picture → Picture
operated Erode depth w h B A = erode (top depth) (frame w h) B A
operated Dilate depth w h B A = dilate (frame w h) B A
operated Open depth w h B A = opening (top depth) (frame w h) B A
operated Close depth w h B A = closing (top depth) (frame w h) B A

-- the scratch m afterwards: opening and closing leave the middle picture there, and the others nothing
unfoldable pub middle_in : Operation → Depth → ℕ → ℕ → Shape → Picture → List ℕ → List ℕ
middle_in Erode depth w h B A m = m
middle_in Dilate depth w h B A m = m
middle_in Open depth w h B A m = written depth (erode (top depth) (frame w h) B A) w h m
middle_in Close depth w h B A m = written depth (dilate (frame w h) B A) w h m

-- the same of the file f's picture and the element of the descriptor d, and the text of the result
abbrev pub result_of : Operation → List ℕ → List ℕ → Picture
result_of op d f = operated op (depth_of (kind_of f)) (pings_of f) (bins_of f) (shape_in d) (picture_of f)

unfoldable pub text_in : Operation → List ℕ → List ℕ → List ℕ
text_in op d f = text_of (depth_of (kind_of f)) (result_of op d f) (pings_of f) (bins_of f) (reported_kind f)
