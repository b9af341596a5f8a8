-- The row is the lesser of the row asked for and the last;
-- its eight cells are the highest bits of the shifted word.
use Prim.Native.Nat.{◌*◌, ◌/◌, ◌%◌, ◌^◌}
use mathlib.Core.Path.{ap}
use lib.ListN.{get_or}
use Rattle.hulls.specs.Hull.{own_row}
use Rattle.hulls.proofs.own_row.Goals as goal

pub returns : goal.returns
unfolding own_row
returns c =
    let a = c.args in
    ap (λ n. get_or a.cells.now n 0 * 2 ^ a.left % 2 ^ 64 / 2 ^ 56) c.min-at.ensures
