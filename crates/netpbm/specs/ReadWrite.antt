-- What the readers and the writers answer, and what they leave in the target.
use Rattle.std.specs.Prelude.{ℕ, not, List, ◌∷◌, ◌++◌, ◌≡◌, length, drop, Result, IfOk}
use Rattle.answer.specs.declared.Told.{Told}
use Rattle.answer.specs.declared.Refusal.{Refusal}
use Rattle.answer.specs.Answer.{told, plain}
use Rattle.answer.specs.Refuse.{Test, refuse}
use Rattle.answer.specs.Lent.{unless_refused}
use Rattle.picture.specs.declared.Depth.{Depth}
use Rattle.picture.specs.Points.{value_at}
use Rattle.picture.specs.Bytes.{written}
use Rattle.judge.specs.declared.Padding.TheVariants.{Free}
use Rattle.judge.specs.Tests.{body_tests}
use Rattle.netpbm.specs.declared.Header.{Header}
use Rattle.netpbm.specs.File.{formed, pings_of, bins_of, raster_of, head_of, file_of}

-- 11 NETPBM, then 1, 2, 8, the raster being the source: its padding is free
abbrev pub read_tests : Depth → List ℕ → ℕ → List Test
read_tests depth f room =
    (not (formed depth f), 11)
    ∷ body_tests Free depth (pings_of depth f) (bins_of depth f) (raster_of depth f) 0 room

unfoldable pub read_answer : Depth → List ℕ → ℕ → Told
read_answer depth f room = refuse (read_tests depth f room) (plain 0)

-- the raster's picture: a bit 1, or a value, as the file has it; what is written has padding 0
unfoldable pub read_target : Depth → List ℕ → List ℕ → List ℕ
read_target depth f t =
    unless_refused (read_answer depth f (length t)) t
    (written depth (value_at depth (raster_of depth f) (pings_of depth f)) (pings_of depth f)
    (bins_of depth f) t)

-- what a read gives back: the answer, and W and H where it is done; a refusal gives none
pub record GivenBack (answer-told : Told) (pings-read bins-read : ℕ)
    (r : Result Header Refusal) : Type 0 where
  pub answer : told r ≡ answer-told
  pub pings : IfOk r (λ head. head.w ≡ pings-read)
  pub bins : IfOk r (λ head. head.h ≡ bins-read)

-- the writers meet 1, 2, 8: what stands in the source's padding is free
abbrev pub write_tests : Depth → ℕ → ℕ → List ℕ → ℕ → List Test
write_tests depth w h s room = body_tests Free depth w h s (length (head_of depth w h)) room

unfoldable pub write_answer : Depth → ℕ → ℕ → List ℕ → List ℕ → Told
write_answer depth w h s t = refuse (write_tests depth w h s (length t)) (plain 0)

unfoldable pub write_target : Depth → ℕ → ℕ → List ℕ → List ℕ → List ℕ
write_target depth w h s t =
    unless_refused (write_answer depth w h s t) t
    (file_of depth w h s ++ drop (length (file_of depth w h s)) t)
