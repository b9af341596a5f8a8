use lib.Pow.{pow_pos}
use Rattle.strokes.proofs.Strokes.{so_none, so_more, so_done, some_room, place_some, next_le}
use Rattle.strokes.proofs.Places.{cells_more, cells_all}
use Prim.Native.Nat.{◌-◌, ◌/◌, ◌<◌}
use mathlib.Core.Path.{◌≡◌, refl, sym, subst, ◌∙◌}
use native.Mathlib.Omega.{arith}
use Rattle.strokes.proofs.cell_places.Goals as goal

pub loop-m-init : goal.loop-m-init
loop-m-init c =
    let a = c.args in
    (so_none a.grows a.word a.o a.at.now c.ranges.word.fits c.requires.1, refl)

pub overflow_sub-rest : goal.overflow_sub-rest
overflow_sub-rest c = omega (arith, c.cell_bit-b.ensures, c.first_cell-c.ensures.1.0)

pub spot-requires : goal.spot-requires
spot-requires c =
    let a = c.args in (
      place_some a.grows a.o _ _ c.requires.0 c.first_cell-c.ensures.0
          c.cell_place-p.ensures.0,
      c.cell_place-p.ensures.1,
    )

pub bounds-at-count : goal.bounds-at-count
bounds-at-count c =
    let l = c.loop-m in
    let a = c.args in
    let f = c.first_cell-c.ensures in
    subst (λ k. l.count < k) (sym l.invariant.0.long)
    (some_room a.grows a.word a.o l.m l.count l.at l.invariant.0
    c.first_cell-c.result f.0 c.requires.0 f.1.0 f.1.1.0)

pub overflow_sub-m : goal.overflow_sub-m
overflow_sub-m c = next_le _ (c.cell_bit-b.result / 2) _ c.next_cell-next.ensures

pub loop-m-smaller : goal.loop-m-smaller
loop-m-smaller c =
    let f = c.first_cell-c.ensures in
    omega (
      arith,
      c.cell_bit-b.ensures,
      f.1.0,
      pow_pos (63 - c.first_cell-c.result),
    )

pub loop-m-preserved : goal.loop-m-preserved
loop-m-preserved c =
    let l = c.loop-m in
    let a = c.args in
    let f = c.first_cell-c.ensures in
    let r = c.first_cell-c.result in
    let b = c.cell_bit-b in (
      so_more a.grows a.word a.o l.m l.count l.at l.invariant.0 r f.0 c.requires.0
          f.1.0 f.1.1.0 _ _ _ _ _ b.ensures refl c.next_cell-next.ensures
          c.cell_place-p.ensures.0 c.spot.ensures.0,
      l.invariant.1 ∙ cells_more a.grows a.o l.m l.count l.at r b.result _ _ _ _
          (λ z. omega (arith, z, f.1.0, pow_pos (63 - r)))
          (some_room a.grows a.word a.o l.m l.count l.at l.invariant.0 r f.0 c.requires.0
          f.1.0 f.1.1.0) f.1.1.1 b.ensures refl c.next_cell-next.ensures
          c.cell_place-p.ensures.0 c.spot.ensures.0,
    )

pub shape_of-at : goal.shape_of-at
shape_of-at c = c.loop-m.invariant.0.long ∙ sym c.requires.1

pub returns : goal.returns
returns c =
    let l = c.loop-m in
    let a = c.args in
    let e : l.m ≡ 0 = omega arith in record {
      cover = so_done a.grows a.word a.o l.m l.count l.at e l.invariant.0;
      found = sym (l.invariant.1 ∙ cells_all a.grows a.o l.m l.count l.at (64 - l.count) e);
    }
