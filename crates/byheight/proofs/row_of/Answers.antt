-- The part from the row's first place to its last is as long as the row:
-- `add-sub_cancel_left`.
use lib.ListN.{take, drop}
use Prim.Native.Nat.{◌*◌}
use mathlib.Core.Path.{ap}
use native.Mathlib.Nat.{add-sub_cancel_left}
use Rattle.byheight.proofs.row_of.Goals as goal

pub returns : goal.returns
returns c =
    let a = c.args in
    ap (λ n. take n (drop (a.v.0 * a.w) a.s.now)) (add-sub_cancel_left (a.v.0 * a.w) a.w)
