use Rattle.cellwise.specs.Steps.Made.{Across}
use mathlib.Core.Path.{◌≡◌, subst}
use native.Mathlib.Omega.{arith}
use Rattle.cellwise.proofs.columns.Goals as goal

pub loop-x-init : goal.loop-x-init
loop-x-init c = (
  omega arith,
  (
    c.requires.from_le_to.0,
    c.requires.across,
  ),
)

pub column-requires : goal.column-requires
column-requires c =
    let l = c.loop-x in
    let p = c.requires.from_le_to in
    record {
      ready = c.requires.ready;
      middle = c.requires.middle;
      x_lt_w = (omega (arith, p.1.0), p.1.1);
      across = l.invariant.1.1;
    }

pub loop-x-preserved : goal.loop-x-preserved
loop-x-preserved c =
    let l = c.loop-x in (
      omega (arith, l.invariant.0),
      (omega arith, c.column.ensures),
    )

pub returns : goal.returns
returns c =
    let a = c.args in
    let l = c.loop-x in
    let e : l.x ≡ a.to = omega (arith, l.invariant.1.0) in
    subst (λ x. Across a.grows a.s.now a.w a.h a.o a.words.now x l.t) e l.invariant.1.1
