-- Stands on the padding put beyond the frame, the windows, what stands at four places, gathered in the padded
-- row and copied from there, and the padding cleared.
-- Together they are the row: `bits_row`.
use Rattle.boxrow.proofs.Runs.{bits_row, bits_left_lem}
use Rattle.basics.specs.Bytes.{Bytes}
use lib.ListN.{length}
use Prim.Native.Nat.{◌+◌, ◌*◌, ◌/◌, ◌≤◌}
use native.Mathlib.Omega.{arith}
use borrow.Author.Rules.{rules}
use Rattle.boxrow.proofs.along_bits.Goals as goal

pub returns : goal.returns
returns c =
    let a = c.args in
    let known : Bytes a.b.now = search rules in
    let fits : 64 * ((length a.t.now + 63) / 64) ≤ length c.windows.new.b = search rules in
    let copied = c.copy_from.ensures in
    let cleared = c.blot-2.ensures in record {
      row = bits_row a.grows a.w a.m a.p a.q a.r a.s _ c.requires.some_points a.b.now _ _
          _ _ _ known c.requires.target c.blot.ensures c.windows.ensures
          fits c.gather.ensures copied cleared
          (λ i. let f = c.type_inv.t i in omega arith);
      known = known;
      left = bits_left_lem a.grows a.w a.m a.p a.q a.r a.s _ c.requires.some_points a.b.now _ _
          _ _ _ known c.requires.target c.blot.ensures c.windows.ensures
          fits c.gather.ensures copied cleared;
    }
