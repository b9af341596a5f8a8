-- The row goes into the second room; its windows of 4 into the first,
-- and those of 16, made of these, over the row.
use Rattle.blocks.specs.Steps.Laid.{laid}
use Rattle.packedline.specs.Steps.Padded.{faced_byte}
use Rattle.rooms.specs.Steps.Lanes.{bytes_way, widened_to}
use Rattle.bysource.specs.Steps.Bytes.{bytes_far, runs_in}
use Rattle.bysource.proofs.Filled.{runs_filled}
use lib.ListN.{length, get_or}
use mathlib.Core.Bool.{false}
use mathlib.Core.Path.{◌≡◌, ap, ◌∙◌}
use mathlib.Core.Logic.{inl, inr}
use native.Mathlib.Omega.{arith}
use borrow.Author.Rules.{rules}
use Rattle.bysource.proofs.fill_runs.Goals as goal

pub widen-requires : goal.widen-requires
widen-requires c =
    let l : length c.copy_over.new.b ≡ 2464 = search rules in
    let few = c.requires.fit.few_points in
    let n = c.windows-n.ensures in
    record {
      whole = inr (omega (arith, n));
      writes = omega (arith, l, few, n);
      first = (omega (arith, l, few, n), inr (omega (arith, few, n)));
      second = (omega (arith, l, few, n), inr (omega (arith, few, n)));
      third = (omega (arith, l, few, n), inr (omega (arith, few, n)));
    }

pub widen-requires-2 : goal.widen-requires-2
widen-requires-2 c =
    let l : length c.widen.new.b ≡ 2464 = search rules in
    let few = c.requires.fit.few_points in
    let n = c.windows-n.ensures in
    record {
      whole = inr (omega (arith, n));
      writes = omega (arith, l, few, n);
      first = (omega (arith, l, few, n), inl (omega (arith, few, n)));
      second = (omega (arith, l, few, n), inl (omega (arith, few, n)));
      third = (omega (arith, l, few, n), inl (omega (arith, few, n)));
    }

pub returns : goal.returns
unfolding runs_in
returns c =
    let a = c.args in
    let p = c.copy_over in
    let q = c.widen in
    let l : length p.new.b ≡ 2464 = search rules in
    let n = bytes_far (length a.s.now) in
    let eu = p.ensures
    ∙ ap (laid 1296 (length a.s.now) (λ i. faced_byte false (get_or a.s.now i 0))) c.requires.fit.empty in
    let ev = q.ensures ∙ ap (λ n. widened_to bytes_way a.grows 1232 0 n 1 2 3 p.new.b) c.windows-n.ensures in
    let ex = c.widen-2.ensures
    ∙ ap (λ n. widened_to bytes_way a.grows 0 1232 n 4 8 12 q.new.b) c.windows-n.ensures in
    record {
      shown = runs_filled a.grows a.s.now c.requires.fit.few_points p.new.b _ _ l eu ev ex;
      bytes = ex ∙ ap (widened_to bytes_way a.grows 0 1232 n 4 8 12)
          (ev ∙ ap (widened_to bytes_way a.grows 1232 0 n 1 2 3) eu);
    }
