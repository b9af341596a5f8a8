-- The row goes into the first room, between what counts beyond the frame;
-- its windows of two into the second, which is not read.
use Rattle.rooms.specs.Steps.Lanes.{widened_to}
use Rattle.bitrooms.specs.Steps.Points.{bits_way}
use Rattle.bitparts.specs.Steps.Filled.{cells_in}
use Rattle.bitparts.specs.Steps.Points.{windows_of}
use Rattle.bitparts.proofs.Filled.{cells_filled}
use lib.ListN.{length}
use mathlib.Core.Path.{◌≡◌, ap, ◌∙◌}
use mathlib.Core.Logic.{inl, inr}
use native.Mathlib.Omega.{arith}
use borrow.Author.Rules.{rules}
use Rattle.bitsource.proofs.fill_cells.Goals as goal

pub widen-requires : goal.widen-requires
widen-requires c =
    let l : length c.pad.new.b ≡ 308 = search rules in
    let n = c.windows.ensures in
    record {
      whole = inr (omega (arith, n));
      writes = omega (arith, l, n);
      first = (omega (arith, l, n), inl (omega (arith, n)));
      second = (omega (arith, l, n), inl (omega (arith, n)));
      third = (omega (arith, l, n), inl (omega (arith, n)));
    }

pub returns : goal.returns
unfolding cells_in
returns c =
    let a = c.args in
    let p = c.pad in
    let ev = c.widen.ensures
    ∙ ap (λ n. widened_to bits_way a.grows 0 154 n 1 1 1 p.new.b) c.windows.ensures in
    record {
      shown = cells_filled a.grows a.s.now a.w
          (λ i. let g = c.type_inv.s i in omega arith)
          c.requires.fit.some_points c.requires.fit.few_points c.requires.fit.row p.new.b _
          (λ i. let g = c.slice_known-2-1.given i in omega arith)
          p.ensures ev;
      bytes = ev ∙ ap (widened_to bits_way a.grows 0 154 (windows_of a.w) 1 1 1) p.ensures;
    }
