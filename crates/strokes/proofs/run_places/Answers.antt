use Rattle.packedline.proofs.Runs.{run_none, run_more, run_done}
use lib.ListN.{length-set}
use Rattle.strokes.proofs.Places.{run_step, run_end}
use Prim.Native.Nat.{◌+◌, ◌-◌}
use mathlib.Core.Path.{refl, sym, ◌∙◌}
use native.Mathlib.Omega.{arith}
use borrow.Author.Rules.{rules}
use Rattle.strokes.proofs.run_places.Goals as goal

pub loop-c-init : goal.loop-c-init
loop-c-init c =
    let a = c.args in
    (search rules, search rules, run_none a.n a.wide a.from a.at.now c.requires.at_len, refl)

pub loop-c-preserved : goal.loop-c-preserved
loop-c-preserved c =
    let l = c.loop-c in
    let a = c.args in (
      omega arith,
      omega arith,
      run_more a.n a.wide a.from l.c (l.c + a.n) l.count
          (a.from + l.c) l.at (omega arith) (omega arith) (omega arith) (omega arith) (omega arith)
          l.invariant.2,
      l.invariant.3 ∙ run_step a.n a.wide a.from l.c l.count l.at _ (omega arith) (omega arith)
          refl,
    )

pub shape_of-at : goal.shape_of-at
shape_of-at c =
    let l = c.loop-c in
    length-set l.at l.count _ ∙ l.invariant.2.0 ∙ sym c.requires.at_len

pub returns : goal.returns
returns c =
    let l = c.loop-c in
    let a = c.args in record {
      cover = run_done a.n a.wide a.from (l.count + 1) _ (omega arith)
          (run_more a.n a.wide a.from l.c a.wide l.count (a.from + a.wide - a.n) l.at
          (omega arith) (omega arith) (omega arith) (omega arith) (omega arith) l.invariant.2);
      found = sym (l.invariant.3 ∙ run_end a.n a.wide a.from l.c l.count l.at (64 - l.count) _ (omega
          arith) refl);
    }
