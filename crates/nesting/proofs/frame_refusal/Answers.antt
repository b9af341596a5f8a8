-- Three tests one after another, with the numbers of the definition.
-- A frame that is sized has at most 1,024 by 256 points, so that their number fits.
use Rattle.answer.specs.Answer.{told, told_refusal}
use Rattle.picture.specs.Frame.{sized_frame}
use Rattle.nesting.proofs.Refused.{refused_size, refused_source, refused_points, frame_passes}
use Rattle.nesting.proofs.Refused.{points_fit}
use mathlib.Core.Bool.{true}
use mathlib.Core.Path.{◌≡◌, sym, ◌∙◌}
use native.Mathlib.Omega.{arith}
use Rattle.nesting.proofs.frame_refusal.Goals as goal
use Rattle.nesting.proofs.frame_refusal.Goals.{Else-not-sized}

size_known : (c : Else-not-sized) → let a = c.args in sized_frame a.w a.h ≡ true
size_known c = sym c.sized.ensures ∙ c.if-not-sized.false

pub returns-then-not-sized : goal.returns-then-not-sized
unfolding told told_refusal
returns-then-not-sized c = refused_size _ _ _ (sym c.sized.ensures ∙ c.if-not-sized.true)

pub returns-then-n-picture_bytes : goal.returns-then-n-picture_bytes
unfolding told told_refusal
returns-then-n-picture_bytes c =
    refused_source _ _ _ (size_known (goal.at.returns-then-n-picture_bytes c).Else-not-sized) _
    c.picture_bytes.ensures
    c.if-n-picture_bytes.true

pub overflow_mul-h : goal.overflow_mul-h
overflow_mul-h c =
    let a = c.args in
    omega (arith, points_fit a.w a.h a.n (size_known (goal.at.overflow_mul-h c).Else-not-sized))

pub returns-then-h-w-gt-MOST_POINTS : goal.returns-then-h-w-gt-MOST_POINTS
unfolding told told_refusal
returns-then-h-w-gt-MOST_POINTS c =
    refused_points _ _ _ (size_known (goal.at.returns-then-h-w-gt-MOST_POINTS c).Else-not-sized) _
    c.picture_bytes.ensures c.if-n-picture_bytes.false
    (omega (arith, c.if-h-w-gt-MOST_POINTS.true))

pub returns : goal.returns
unfolding told told_refusal
returns c =
    frame_passes _ _ _ (size_known (goal.at.returns c).Else-not-sized) _
    c.picture_bytes.ensures c.if-n-picture_bytes.false
    (omega (arith, c.if-h-w-gt-MOST_POINTS.false))
