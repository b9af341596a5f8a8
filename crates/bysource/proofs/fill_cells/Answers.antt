-- The row goes into the first room, between what counts beyond the frame;
-- its windows of two into the second, which is not read.
use Rattle.blocks.specs.Steps.Laid.{laid}
use Rattle.packedline.specs.Steps.Padded.{faced_byte}
use Rattle.rooms.specs.Steps.Lanes.{bytes_way, widened_to}
use Rattle.bysource.specs.Steps.Bytes.{bytes_far, cells_in}
use Rattle.bysource.proofs.Filled.{cells_filled}
use lib.ListN.{length, get_or}
use mathlib.Core.Bool.{false}
use mathlib.Core.Path.{◌≡◌, ap, ◌∙◌}
use mathlib.Core.Logic.{inl, inr}
use native.Mathlib.Omega.{arith}
use borrow.Author.Rules.{rules}
use Rattle.bysource.proofs.fill_cells.Goals as goal

pub widen-requires : goal.widen-requires
widen-requires c =
    let l : length c.copy_over.new.b ≡ 2464 = search rules in
    let few = c.requires.fit.few_points in
    let n = c.windows.ensures in
    record {
      whole = inr (omega (arith, n));
      writes = omega (arith, l, few, n);
      first = (omega (arith, l, few, n), inl (omega (arith, few, n)));
      second = (omega (arith, l, few, n), inl (omega (arith, few, n)));
      third = (omega (arith, l, few, n), inl (omega (arith, few, n)));
    }

pub returns : goal.returns
unfolding cells_in
returns c =
    let a = c.args in
    let p = c.copy_over in
    let l : length p.new.b ≡ 2464 = search rules in
    let eu = p.ensures ∙ ap (laid 64 (length a.s.now) (λ i. faced_byte false (get_or a.s.now i 0)))
    c.requires.fit.empty in
    let ev = c.widen.ensures
    ∙ ap (λ n. widened_to bytes_way a.grows 0 1232 n 1 1 1 p.new.b) c.windows.ensures in
    record {
      shown = cells_filled a.grows a.s.now c.requires.fit.few_points p.new.b _ l eu ev;
      bytes = ev ∙ ap (widened_to bytes_way a.grows 0 1232 (bytes_far (length a.s.now)) 1 1 1) eu;
    }
