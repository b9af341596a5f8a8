use Rattle.narrow.specs.Steps.Row.{SameRows}
use mathlib.Core.Path.{◌≡◌, subst}
use native.Mathlib.Omega.{arith}
use Rattle.narrow.proofs.Rows.{same_more}
use Rattle.narrow.proofs.same_end.Goals as goal

pub loop-e-preserved : goal.loop-e-preserved
loop-e-preserved c =
    let l = c.loop-e in
    same_more c.args.words.now c.args.r c.args.h l.e c.loop-e-test.true c.if-words-e.false l.invariant

pub returns : goal.returns
returns c =
    let a = c.args in
    let l = c.loop-e in
    let e : l.e ≡ a.h = omega (arith, l.auto.e-end (omega arith)) in
    subst (λ n. SameRows a.words.now a.r a.h n) e l.invariant
