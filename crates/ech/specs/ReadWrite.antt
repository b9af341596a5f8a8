-- What the reader and the writer answer, and what they leave in the target.
use Rattle.std.specs.Prelude.{ℕ, ◌+◌, not, List, [], ◌∷◌, ◌++◌, eqb, length, drop, ◌≡◌, Result, IfOk}
use Rattle.answer.specs.declared.Told.{Told}
use Rattle.answer.specs.declared.Refusal.{Refusal}
use Rattle.answer.specs.Answer.{told, plain}
use Rattle.answer.specs.Refuse.{Test, refuse}
use Rattle.answer.specs.Lent.{unless_refused}
use Rattle.picture.specs.Frame.{picture_bytes}
use Rattle.picture.specs.Bytes.{Picture, written, faced}
use Rattle.judge.specs.declared.Padding.TheVariants.{Judged, Free}
use Rattle.judge.specs.Tests.{picture_tests, room_tests, body_tests}
use Rattle.ech.specs.declared.Header.{Header}
use Rattle.ech.specs.File.{head_bytes, known_kind, depth_of, face_of, formed}
use Rattle.ech.specs.File.{kind_of, pings_of, bins_of, body_of, file_of}

-- a file that is read is met as 9, 1, 2, 3, 8, its body being the source
abbrev pub file_tests : List ℕ → ℕ → List Test
file_tests f room =
    (not (formed f), 9) ∷ body_tests Judged (depth_of (kind_of f)) (pings_of f) (bins_of f) (body_of f) 0 room

unfoldable pub read_answer : List ℕ → ℕ → Told
read_answer f room = refuse (file_tests f room) (plain 0)

-- the picture that a file holds: in memory kind 3, by the file's own byte, is the ordinary picture
abbrev pub picture_of : List ℕ → Picture
picture_of f = faced (depth_of (kind_of f)) (face_of (kind_of f)) (body_of f) (pings_of f)

unfoldable pub read_target : List ℕ → List ℕ → List ℕ
read_target f t =
    unless_refused (read_answer f (length t)) t
    (written (depth_of (kind_of f)) (picture_of f) (pings_of f) (bins_of f) t)

-- what a read gives back: the answer, and kind, W and H where it is done; a refusal gives none
pub record GivenBack (answer-told : Told) (kind-read pings-read bins-read : ℕ)
    (r : Result Header Refusal) : Type 0 where
  pub answer : told r ≡ answer-told
  pub kind : IfOk r (λ head. head.kind ≡ kind-read)
  pub pings : IfOk r (λ head. head.w ≡ pings-read)
  pub bins : IfOk r (λ head. head.h ≡ bins-read)

-- RETIRED: kind 3 is no longer made
abbrev pub retired_tests : ℕ → List Test
retired_tests kind = (eqb kind 3, 15) ∷ []

-- the writer meets 9 for a kind it never knew, then 1, 2, 15, 8: what stands in the source's padding is free
abbrev pub write_tests : ℕ → ℕ → ℕ → List ℕ → ℕ → List Test
write_tests kind w h s room =
    (not (known_kind kind), 9)
    ∷ (picture_tests Free (depth_of kind) w h s
    ++ (retired_tests kind ++ room_tests (depth_of kind) w h head_bytes room))

unfoldable pub write_answer : ℕ → ℕ → ℕ → List ℕ → List ℕ → Told
write_answer kind w h s t = refuse (write_tests kind w h s (length t)) (plain 0)

unfoldable pub write_target : ℕ → ℕ → ℕ → List ℕ → List ℕ → List ℕ
write_target kind w h s t =
    unless_refused (write_answer kind w h s t) t
    (file_of kind w h s ++ drop (head_bytes + picture_bytes (depth_of kind) w h) t)
