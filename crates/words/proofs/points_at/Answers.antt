-- Stands on `word_at` and `cut`: `points_are` says it point by point.
-- The bytes of the source are bytes.
use native.Mathlib.Omega.{arith}
use Rattle.words.proofs.Points.{points_are}
use Rattle.words.proofs.points_at.Goals as goal

pub returns : goal.returns
returns c =
    points_are c.args.over c.args.s.now
    (λ i. let f = c.type_inv.s i in
    omega arith) c.args.at _ c.args.w _
    c.cut.ensures.1 c.word_at.ensures c.cut.ensures.0
