use Prim.Native.Nat.{min}
use mathlib.Core.Path.{◌≡◌, ap, ◌∙◌}
use native.Mathlib.Omega.{arith}
use borrow.Author.Rules.{rules}
use Rattle.freeblocks.specs.Steps.Plain.{least_of}
use Rattle.freeblocks.proofs.Blocks.{least_none, least_more}
use Rattle.freeblocks.proofs.least_in.Goals as goal

pub loop-i-init : goal.loop-i-init
loop-i-init c = (search rules, least_none _ _)

pub loop-i-preserved : goal.loop-i-preserved
loop-i-preserved c =
    let l = c.loop-i in
    let a = c.args in (
      search rules,
      least_more a.grows a.t.now l.w c.min-w.result l.i l.invariant.1
          (c.min-w.ensures ∙ ap (min l.w) c.turned.ensures),
    )

pub returns : goal.returns
returns c =
    let a = c.args in
    let e : c.loop-i.i ≡ a.n = omega arith in
    c.loop-i.invariant.1 ∙ ap (least_of a.grows a.t.now) e
