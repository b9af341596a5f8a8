use Rattle.copies.specs.Steps.Copy.{over_of, cleared_at, cleared_byte}
use Rattle.basics.proofs.Lists.{over_none, over_more}
use lib.ListN.{get_or, length-set}
use Prim.Native.Nat.{◌+◌}
use mathlib.Core.Path.{ap, ◌∙◌}
use borrow.Author.Rules.{rules}
use native.Mathlib.Omega.{arith}
use Rattle.copies.proofs.copy_row.Goals as goal

pub loop-i-init : goal.loop-i-init
loop-i-init c = (search rules, search rules, over_none _ _)

pub loop-i-preserved : goal.loop-i-preserved
unfolding cleared_at
loop-i-preserved c =
    let l = c.loop-i in
    let a = c.args in (
      search rules,
      simp length-set l.invariant.1,
      over_more (cleared_at (over_of a.face) a.s.now a.at a.n a.u)
          a.t.now l.t l.i c.cleared.result (omega arith) l.invariant.2
          (c.cleared.ensures ∙ ap (λ n. cleared_byte (over_of a.face) (get_or a.s.now (a.at + l.i) 0) n)
          c.spare_at-v.ensures),
    )
