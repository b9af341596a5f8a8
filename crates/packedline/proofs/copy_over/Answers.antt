use Rattle.packedline.specs.Steps.Padded.{faced_byte}
use Rattle.blocks.proofs.Laid.{laid_none, laid_more}
use Rattle.blocks.specs.Steps.Laid.{laid}
use lib.ListN.{length, get_or, length-set}
use mathlib.Core.Path.{◌≡◌, ap, ◌∙◌}
use native.Mathlib.Omega.{arith}
use borrow.Author.Rules.{rules}
use Rattle.packedline.proofs.copy_over.Goals as goal

pub loop-i-init : goal.loop-i-init
loop-i-init c = (search rules, search rules, laid_none _ _ _)

pub loop-i-preserved : goal.loop-i-preserved
loop-i-preserved c =
    let l = c.loop-i in
    let a = c.args in (
      search rules,
      simp length-set l.invariant.1,
      laid_more a.at l.i (λ i. faced_byte a.over (get_or a.s.now i 0)) a.b.now l.b _
          (omega arith) l.invariant.2 c.faced.ensures,
    )

pub returns : goal.returns
returns c =
    let a = c.args in
    let e : c.loop-i.i ≡ length a.s.now = omega arith in
    c.loop-i.invariant.2 ∙ ap (λ i. laid a.at i (λ i. faced_byte a.over (get_or a.s.now i 0))
    a.b.now) e
