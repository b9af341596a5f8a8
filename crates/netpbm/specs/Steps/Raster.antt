-- The raster judged by itself, once the header is known to be right.
use Rattle.std.specs.Prelude.{ℕ, List}
use Rattle.answer.specs.declared.Told.{Told}
use Rattle.answer.specs.Answer.{plain}
use Rattle.answer.specs.Refuse.{refuse}
use Rattle.picture.specs.declared.Depth.{Depth}
use Rattle.judge.specs.declared.Padding.TheVariants.{Free}
use Rattle.judge.specs.Tests.{body_tests}

unfoldable pub raster_answer : Depth → ℕ → ℕ → List ℕ → ℕ → Told
raster_answer depth w h s room = refuse (body_tests Free depth w h s 0 room) (plain 0)
