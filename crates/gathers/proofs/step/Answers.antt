use Rattle.rows.specs.Steps.Fold.{start_by}
use Rattle.rooms.specs.Steps.Joined.{at_places}
use Rattle.gathers.specs.Steps.Gathered.{stepped}
use Rattle.gathers.proofs.Gathered.{step_more}
use Prim.Native.Nat.{◌*◌}
use mathlib.Core.Path.{◌≡◌, refl, ap, ◌∙◌}
use native.Mathlib.Omega.{arith}
use borrow.Author.Rules.{rules}
use lib.ListN.{length, length-set}
use Rattle.gathers.proofs.step.Goals as goal

pub loop-i-init : goal.loop-i-init
unfolding stepped
loop-i-init c = (search rules, (search rules, refl))

pub overflow_mul-i : goal.overflow_mul-i
overflow_mul-i c =
    omega (
      arith,
      c.requires.by_index c.loop-i.i (search
          rules),
      c.loop-i.invariant.1.0,
    )

pub point-requires : goal.point-requires
point-requires c =
    λ j h. c.requires.by_index_2 c.loop-i.i
    (search rules) j h

pub overflow_mul-t : goal.overflow_mul-t
overflow_mul-t c =
    omega (
      arith,
      c.requires.by_index c.loop-i.i (search rules),
      c.loop-i.invariant.1.0,
    )

pub overflow_add-t : goal.overflow_add-t
overflow_add-t c =
    omega (
      arith,
      c.requires.by_index c.loop-i.i (search rules),
      c.loop-i.invariant.1.0,
    )

pub bounds-t-a : goal.bounds-t-a
bounds-t-a c =
    omega (
      arith,
      c.requires.by_index c.loop-i.i (search rules),
      c.loop-i.invariant.1.0,
    )

pub loop-i-preserved : goal.loop-i-preserved
loop-i-preserved c =
    let a = c.args in
    let l = c.loop-i in (
      search rules,
      (
        simp length-set l.invariant.1.0,
        step_more a.a a.w _ a.t.now l.i _ l.t l.invariant.1.1 c.point.ensures,
      ),
    )

pub returns : goal.returns
returns c =
    let a = c.args in
    let e : c.loop-i.i ≡ a.n = omega arith in
    c.loop-i.invariant.1.1
    ∙ ap (λ n. stepped a.a a.w n
    (λ i. at_places a.grows (start_by a.grows 255) a.s.now (i * a.w) a.at.now
    (length a.at.now)) a.t.now) e
