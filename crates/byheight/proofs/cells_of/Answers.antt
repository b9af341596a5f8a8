-- The part from p to p and the count has so many cells as is counted:
-- `add-sub_cancel_left`.
use lib.ListN.{get_or, take, drop}
use mathlib.Core.Path.{ap}
use native.Mathlib.Nat.{add-sub_cancel_left}
use Rattle.byheight.proofs.cells_of.Goals as goal

pub returns : goal.returns
returns c =
    let a = c.args in
    ap (λ k. take k (drop a.p a.cells.now)) (add-sub_cancel_left a.p (get_or a.counts.now a.i
    0))
