-- One case of the definition for each return:
-- a link is taken, there is none to take, or there are five.
use mathlib.Core.Path.{refl, sym, ◌∙◌}
use Rattle.dividing.proofs.Least.{some_below, none_below}
use Rattle.takeapart.proofs.Ways.{onward_forth, onward_none, onward_back}
use Rattle.takeapart.proofs.onward.Goals as goal
use Rattle.takeapart.proofs.onward.Goals.{then-w-lt5+in_default, else-w-lt5}

pub returns-in-Some : goal.returns-in-Some
returns-in-Some c =
    let p = some_below 512 _ _ (sym c.in-Some.is ∙ c.pick_from.ensures) in
    onward_forth _ _ _ _ p.0 c.if-w-lt5.true p.1 c.forth.ensures

pub returns : goal.returns
returns c =
    elim c.if-w-lt5.branch [
      | then-w-lt5+in_default w ↦
          onward_none _ _ _ _ refl w.if-w-lt5.true
          (none_below 512 _ (sym w.in_default.is ∙ w.pick_from.ensures)) c.back.ensures
      | else-w-lt5 w ↦ onward_back _ _ _ w.if-w-lt5.false c.back.ensures
    ]
