use Rattle.reconstruct.proofs.Visits.{cell_visit, cell_fits, same_room, pass_more}
use Rattle.settle.specs.declared.Cell.{Cell}
use lib.ListN.{length}
use Prim.Native.Nat.{◌*◌}
use mathlib.Core.Path.{refl, ap}
use borrow.Author.Rules.{rules}
use native.Mathlib.Omega.{arith}
use Rattle.reconstruct.proofs.pass.Goals as goal

pub loop-i-preserved : goal.loop-i-preserved
loop-i-preserved c =
    let l = c.loop-i in
    let a = c.args in
    let k = c.min-k.ensures in
    let f = c.turned-j.ensures in
    let s = c.settle_cell-b in
    let room = same_room a.r _ _ l.invariant.1.grew.same_length c.requires.room_2 in
    let d : Cell = record {
      square = a.r.square;
      n = a.r.n;
      u = a.r.u;
      h = a.r.h;
      y = a.y;
      j = c.turned-j.result * 8;
      k = c.min-k.result;
    } in (
      search rules,
      pass_more a.r a.mask.now a.t.now l.t _ a.back a.y l.i (omega arith) d
          (refl, ap (λ n. n * 8) f.0, k) l.changed s.result _ l.invariant.1
          (cell_visit d a.mask.now l.t _
          (λ i. omega (
            arith,
            c.type_inv.mask i,
          ))
          (l.invariant.1.grew.bytes
          (λ i. omega (arith, c.slice_known-1.given i)))
          (cell_fits a.r (length a.mask.now) a.y _ _ c.requires.room c.requires.y_lt_h f.1 k)
          (cell_fits a.r _ a.y _ _ room c.requires.y_lt_h f.1 k)
          s.result s.ensures.changed s.ensures.bytes)
          refl,
    )
