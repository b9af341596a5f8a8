use borrow.Author.Rules.{rules}
use native.Mathlib.Omega.{arith}
use mathlib.Core.Path.{refl}
use lib.ListN.{length-set}
use lib.Bits.{bit_and}
use Rattle.basics.proofs.Zip.{zip_none, zip_store, zip_all}
use Rattle.hit.proofs.meet.Goals as goal

pub loop-i-init : goal.loop-i-init
loop-i-init c = (search rules, search rules, zip_none bit_and _)

pub bounds-t-i : goal.bounds-t-i
bounds-t-i c = omega arith

pub bounds-by-i : goal.bounds-by-i
bounds-by-i c = omega arith

pub bounds-t-i-in-loop-i : goal.bounds-t-i-in-loop-i
bounds-t-i-in-loop-i c = omega arith

pub loop-i-smaller : goal.loop-i-smaller
loop-i-smaller c = omega arith

pub loop-i-preserved : goal.loop-i-preserved
loop-i-preserved c =
    let l = c.loop-i in
    let a = c.args in (
      search rules,
      simp length-set l.invariant.1,
      zip_store bit_and a.t.now a.by.now l.t l.i (omega arith) l.invariant.2 _ refl,
    )

pub shape_of-t : goal.shape_of-t
shape_of-t c = c.loop-i.invariant.1

pub returns : goal.returns
returns c = zip_all bit_and _ _ _ _ c.loop-i-test.false c.loop-i.invariant.2
