-- The row goes into the second room; its windows of 4 into the first,
-- and those of 16, made of these, over the row.
use Rattle.rooms.specs.Steps.Lanes.{widened_to}
use Rattle.bitrooms.specs.Steps.Points.{bits_way}
use Rattle.bitparts.specs.Steps.Filled.{runs_in}
use Rattle.bitparts.specs.Steps.Points.{windows_of}
use Rattle.bitparts.proofs.Filled.{runs_filled}
use lib.ListN.{length}
use mathlib.Core.Path.{◌≡◌, ap, ◌∙◌}
use mathlib.Core.Logic.{inl, inr}
use native.Mathlib.Omega.{arith}
use borrow.Author.Rules.{rules}
use Rattle.bitsource.proofs.fill_runs.Goals as goal

pub widen-requires : goal.widen-requires
widen-requires c =
    let l : length c.pad.new.b ≡ 308 = search rules in
    let n = c.windows-n.ensures in
    record {
      whole = inr (omega (arith, n));
      writes = omega (arith, l, n);
      first = (omega (arith, l, n), inr (omega (arith, n)));
      second = (omega (arith, l, n), inr (omega (arith, n)));
      third = (omega (arith, l, n), inr (omega (arith, n)));
    }

pub widen-requires-2 : goal.widen-requires-2
widen-requires-2 c =
    let l : length c.widen.new.b ≡ 308 = search rules in
    let n = c.windows-n.ensures in
    record {
      whole = inr (omega (arith, n));
      writes = omega (arith, l, n);
      first = (omega (arith, l, n), inl (omega (arith, n)));
      second = (omega (arith, l, n), inl (omega (arith, n)));
      third = (omega (arith, l, n), inl (omega (arith, n)));
    }

pub returns : goal.returns
unfolding runs_in
returns c =
    let a = c.args in
    let p = c.pad in
    let q = c.widen in
    let n = windows_of a.w in
    let ev = q.ensures ∙ ap (λ n. widened_to bits_way a.grows 154 0 n 1 2 3 p.new.b) c.windows-n.ensures in
    let ex = c.widen-2.ensures
    ∙ ap (λ n. widened_to bits_way a.grows 0 154 n 4 8 12 q.new.b) c.windows-n.ensures in
    record {
      shown = runs_filled a.grows a.s.now a.w
          (λ i. let g = c.type_inv.s i in omega arith)
          c.requires.fit.some_points c.requires.fit.few_points c.requires.fit.row p.new.b _ _
          (λ i. let g = c.slice_known-2-1.given i in omega arith)
          (λ i. let g = c.slice_known-3-1.given i in omega arith)
          p.ensures ev ex;
      bytes = ex ∙ ap (widened_to bits_way a.grows 0 154 n 4 8 12)
          (ev ∙ ap (widened_to bits_way a.grows 154 0 n 1 2 3) p.ensures);
    }
