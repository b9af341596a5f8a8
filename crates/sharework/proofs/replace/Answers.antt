-- The higher descriptors slide to the end of the new one, which is copied in; then its length is set.
-- That this is the share with the map's entry changed is one law, `replaced`.
use Prim.Native.Nat.{ℕ, ◌+◌, ◌-◌, ◌*◌, ◌<◌, ◌≤◌}
use native.Mathlib.Omega.{arith}
use borrow.Author.Rules.{rules}
use lib.ListN.{length, get_or}
use Rattle.share.proofs.Replaced.{next_le, moves_fit, replaced}
use Rattle.sharework.proofs.replace.Goals as goal
use Rattle.sharework.proofs.replace.Goals.{After-total-2}

byte : (c : After-total-2) (i : ℕ) → get_or c.args.s.now i 0 < 256
byte c i = let f = c.slice_known-1.given i in omega arith

-- the place, the end of what was held, and of all, lie in this order
ordered : (c : After-total-2) →
    2 * c.args.numbers + c.total.result + c.length_at.result ≤ 2 * c.args.numbers + c.total-2.result
ordered c =
    let a = c.args in
    next_le a.numbers a.n a.s.now a.d.now c.requires (byte c) _ _ _
    c.total.ensures.0 c.length_at.ensures.0 c.total-2.ensures.0

-- and what is moved ends within the share
moved : (c : After-total-2) → let at = 2 * c.args.numbers + c.total.result in
    at + length c.args.d.now + (2 * c.args.numbers + c.total-2.result - (at + c.length_at.result))
    ≤ length c.args.s.now
moved c =
    let a = c.args in
    (moves_fit a.numbers a.n a.s.now a.d.now c.requires (byte c) _ _ _
    c.total.ensures.0 c.length_at.ensures.0 c.total-2.ensures.0).1

pub copy_within-requires-clause-start_le_end : goal.copy_within-requires-clause-start_le_end
copy_within-requires-clause-start_le_end c =
    ordered (goal.at.copy_within-requires-clause-start_le_end c).After-total-2

pub copy_within-requires-clause-dest_in_bounds : goal.copy_within-requires-clause-dest_in_bounds
copy_within-requires-clause-dest_in_bounds c =
    moved (goal.at.copy_within-requires-clause-dest_in_bounds c).After-total-2

pub copy_in-requires : goal.copy_in-requires
copy_in-requires c =
    let h = moved (goal.at.copy_in-requires c).After-total-2 in
    let k = c.copy_within.auto.self in
    search rules

pub returns : goal.returns
returns c =
    let a = c.args in
    replaced a.numbers a.n a.s.now a.d.now c.requires (byte (goal.at.returns c).After-total-2) _ _ _
    c.total.ensures.0 c.length_at.ensures.0 c.total-2.ensures.0 _ _ _
    c.copy_within.ensures.after c.copy_in.ensures c.set_length.ensures
