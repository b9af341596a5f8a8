-- The words are the points of the row: `row_places`.
-- Up to 64 pings the second word is 0.
use native.Mathlib.Omega.{arith}
use mathlib.Core.Path.{refl, ◌∙◌}
use Rattle.narrow.proofs.Strips.{row_places, no_second, next_points}
use Rattle.narrow.proofs.row_at.Goals as goal

pub returns-then-w-le64 : goal.returns-then-w-le64
returns-then-w-le64 c =
    let a = c.args in
    row_places a.over a.s.now a.at a.w _ refl c.points_at-b.ensures.1
    (λ k h. no_second a.over a.s.now a.at a.w k c.if-w-le64.true) c.requires.1

pub returns : goal.returns
returns c =
    let a = c.args in
    row_places a.over a.s.now a.at a.w _ refl c.points_at-b.ensures.1
    (λ k h. c.points_at-c.ensures.1 k h ∙ next_points a.over a.s.now a.at a.w k (omega
    (arith, c.if-w-le64.false))) c.requires.1
