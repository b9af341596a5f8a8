use lib.Pow.{pow_pos}
use Rattle.packedline.proofs.Runs.{CellSo, cell_none, cell_more, cell_done, room}
use lib.ListN.{set}
use Prim.Native.Nat.{◌+◌, ◌-◌, ◌<◌}
use mathlib.Core.Path.{sym, subst}
use native.Mathlib.Omega.{arith}
use Rattle.packedline.proofs.cell_places.Goals as goal

pub loop-m-init : goal.loop-m-init
loop-m-init c =
    let a = c.args in
    cell_none a.grows a.word a.o a.at.now c.ranges.word.fits c.requires.1

pub bounds-at-count : goal.bounds-at-count
bounds-at-count c =
    let l = c.loop-m in
    let a = c.args in
    let f = c.first_cell-c.ensures in
    subst (λ k. l.count < k) (sym l.invariant.0)
    (room a.grows a.word a.o l.m l.count l.at l.invariant c.first_cell-c.result
    f.0 f.1.0 f.1.1.0)

pub loop-m-smaller : goal.loop-m-smaller
loop-m-smaller c =
    let f = c.first_cell-c.ensures in
    omega (arith, c.cell_bit-m.ensures, f.1.0, pow_pos (63 - c.first_cell-c.result))

pub loop-m-preserved : goal.loop-m-preserved
loop-m-preserved c =
    let l = c.loop-m in
    let a = c.args in
    let f = c.first_cell-c.ensures in
    subst (λ b. CellSo a.grows a.word a.o (l.m - b) (l.count + 1)
    (set l.at l.count c.cell_place.result)) (sym c.cell_bit-m.ensures)
    (cell_more a.grows a.word a.o l.m l.count l.at l.invariant
    c.first_cell-c.result f.0 f.1.0 f.1.1.0 c.cell_place.result
    c.cell_place.ensures.0)

pub returns : goal.returns
returns c =
    let l = c.loop-m in
    let a = c.args in
    cell_done a.grows a.word a.o l.m l.count l.at (omega arith) l.invariant
