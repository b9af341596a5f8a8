use Rattle.cellwise.proofs.Spots.{picked_none, picked_more}
use Rattle.cellwise.specs.Steps.Spots.{Picked}
use mathlib.Core.Path.{◌≡◌, subst}
use native.Mathlib.Omega.{arith}
use borrow.Author.Rules.{rules}
use lib.ListN.{length}
use Rattle.cellwise.proofs.pick.Goals as goal

pub loop-j-init : goal.loop-j-init
loop-j-init c = (omega arith, picked_none _ _ _ _ _ c.requires.into_len.0)

pub keep-n-requires : goal.keep-n-requires
keep-n-requires c =
    let l = c.loop-j in record {
      into_len = (
        l.invariant.1.long,
        (omega (arith, l.invariant.1.few, c.requires.into_len.1), c.requires.le_w.0),
      );
      x_lt_w = (c.requires.le_w.1, omega (arith, c.wide.ensures, c.requires.by_index l.j (omega arith)));
    }

pub loop-j-preserved : goal.loop-j-preserved
loop-j-preserved c =
    let a = c.args in
    let l = c.loop-j in
    let k = c.keep-n in (
      search rules,
      picked_more a.w a.back a.x a.at.now l.j l.n _ l.into _ _ l.invariant.1
          (omega (
            arith,
            c.requires.into_len.1,
          )) c.wide.ensures k.ensures.number k.ensures.list,
    )

pub returns : goal.returns
returns c =
    let a = c.args in
    let e : c.loop-j.j ≡ length a.at.now = omega arith in
    subst (λ j. Picked a.w a.back a.x a.at.now j c.loop-j.n c.loop-j.into) e
    c.loop-j.invariant.1
