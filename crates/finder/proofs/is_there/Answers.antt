-- The tests of the definition in its order, each settled by the call before it.
-- Past them all both buffers have the picture's bytes.
use mathlib.Core.Path.{◌≡◌, sym, ◌∙◌}
use mathlib.Core.Bool.{true}
use Rattle.picture.specs.Frame.{sized_frame}
use Rattle.chain.specs.Reading.{counted}
use Rattle.finder.proofs.Finding.{wrong_size, wrong_number, first_short, second_short, both_long}
use Rattle.finder.proofs.is_there.Goals as goal
use Rattle.finder.proofs.is_there.Goals.{Else-not-is_counted, Else-not-sized}

right_size : (c : Else-not-sized) → sized_frame c.args.w c.args.h ≡ true
right_size c = sym c.sized.ensures ∙ c.if-not-sized.false

right_number : (c : Else-not-is_counted) → counted c.args.links ≡ true
right_number c = sym c.is_counted.ensures ∙ c.if-not-is_counted.false

pub returns-then-not-sized : goal.returns-then-not-sized
returns-then-not-sized c = wrong_size _ _ _ _ _ _ (sym c.sized.ensures ∙ c.if-not-sized.true)

pub returns-then-not-is_counted : goal.returns-then-not-is_counted
returns-then-not-is_counted c =
    wrong_number _ _ _ _ _ _ (right_size (goal.at.returns-then-not-is_counted c).Else-not-sized)
    (sym c.is_counted.ensures ∙ c.if-not-is_counted.true)

pub returns-then-first-n : goal.returns-then-first-n
returns-then-first-n c =
    first_short _ _ _ _ _ _ (right_size (goal.at.returns-then-first-n c).Else-not-sized)
    (right_number (goal.at.returns-then-first-n c).Else-not-is_counted) _
    c.picture_bytes-n.ensures c.if-first-n.true

pub returns-then-second-n : goal.returns-then-second-n
returns-then-second-n c =
    second_short _ _ _ _ _ _ (right_size (goal.at.returns-then-second-n c).Else-not-sized)
    (right_number (goal.at.returns-then-second-n c).Else-not-is_counted) _
    c.picture_bytes-n.ensures c.if-first-n.false c.if-second-n.true

pub returns : goal.returns
returns c =
    both_long _ _ _ _ _ _ (right_size (goal.at.returns c).Else-not-sized)
    (right_number (goal.at.returns c).Else-not-is_counted) _
    c.picture_bytes-n.ensures c.if-first-n.false c.if-second-n.false
