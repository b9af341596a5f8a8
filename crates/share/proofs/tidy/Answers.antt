-- One call: the bytes from the end of the last held descriptor on are cleared.
-- That end lies within a share that keeps the layout.
use Prim.Native.Nat.{◌+◌, ◌*◌, ◌≤◌}
use lib.ListN.{length}
use native.Mathlib.Omega.{arith}
use borrow.Author.Rules.{rules}
use Rattle.share.proofs.Checks.{whole_fits, tidy_is}
use Rattle.share.proofs.Loops.{clear_is}
use Rattle.share.proofs.tidy.Goals as goal
use Rattle.share.proofs.tidy.Goals.{After-total}

within : (c : After-total) → 2 * c.args.numbers + c.total.result ≤ length c.args.s.now
within c =
    let a = c.args in
    let h = whole_fits a.numbers a.room a.s.now c.requires in
    omega (arith, c.total.ensures.0)

pub slice_bounds-fill-count : goal.slice_bounds-fill-count
slice_bounds-fill-count c = within c

pub slice_bounds-fill-start : goal.slice_bounds-fill-start
slice_bounds-fill-start c = let h = within c in search rules

pub returns : goal.returns
returns c =
    let a = c.args in
    let h = within (goal.at.returns c).After-total in
    tidy_is a.numbers a.room a.s.now _ _ c.total.ensures.0
    (clear_is _ a.s.now _ h (c.fill.ensures.after (λ y q. q)))
