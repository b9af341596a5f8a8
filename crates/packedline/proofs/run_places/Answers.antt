use Rattle.packedline.proofs.Runs.{run_none, run_more, run_done}
use lib.ListN.{length-set}
use Prim.Native.Nat.{◌+◌, ◌-◌}
use mathlib.Core.Path.{sym, ◌∙◌}
use native.Mathlib.Omega.{arith}
use borrow.Author.Rules.{rules}
use Rattle.packedline.proofs.run_places.Goals as goal

pub loop-c-init : goal.loop-c-init
loop-c-init c =
    let a = c.args in
    (search rules, search rules, run_none a.n a.wide a.from a.at.now c.requires.at_len)

pub loop-c-preserved : goal.loop-c-preserved
loop-c-preserved c =
    let l = c.loop-c in
    let a = c.args in (
      omega arith,
      omega arith,
      run_more a.n a.wide a.from l.c (l.c + a.n) l.count
          (a.from + l.c) l.at (omega arith) (omega arith) (omega arith) (omega arith) (omega arith)
          l.invariant.2,
    )

pub shape_of-at : goal.shape_of-at
shape_of-at c =
    let l = c.loop-c in
    length-set l.at l.count _ ∙ l.invariant.2.0 ∙ sym c.requires.at_len

pub returns : goal.returns
returns c =
    let l = c.loop-c in
    let a = c.args in
    run_done a.n a.wide a.from (l.count + 1) _ (omega arith)
    (run_more a.n a.wide a.from l.c a.wide l.count (a.from + a.wide - a.n) l.at
    (omega arith) (omega arith) (omega arith) (omega arith) (omega arith) l.invariant.2)
