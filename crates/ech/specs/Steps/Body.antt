-- The body judged by itself, once the first ten bytes are known to be right.
use Rattle.std.specs.Prelude.{ℕ, List}
use Rattle.answer.specs.declared.Told.{Told}
use Rattle.answer.specs.Answer.{plain}
use Rattle.answer.specs.Refuse.{refuse}
use Rattle.ech.specs.File.{depth_of}
use Rattle.judge.specs.declared.Padding.TheVariants.{Judged}
use Rattle.judge.specs.Tests.{body_tests}

unfoldable pub body_answer : ℕ → ℕ → ℕ → List ℕ → ℕ → Told
body_answer kind w h s room = refuse (body_tests Judged (depth_of kind) w h s 0 room) (plain 0)
