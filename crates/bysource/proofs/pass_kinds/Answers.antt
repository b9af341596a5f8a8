use Rattle.sourceparts.specs.Steps.Part.{PartOf}
use mathlib.Core.Path.{◌≡◌, refl, ◌∙◌, subst}
use native.Mathlib.Omega.{arith}
use borrow.Author.Rules.{rules}
use Rattle.bysource.proofs.pass_kinds.Goals as goal

pub loop-k-init : goal.loop-k-init
loop-k-init g c = (omega arith, refl, c.requires.part_of)

pub pass-requires : goal.pass-requires
pass-requires g c =
    let l = c.loop-k in
    record {
      rooms = c.requires.rooms;
      ready = c.requires.ready;
      t_len = (l.invariant.1 ∙ c.requires.t_len, search rules);
      part_of = l.invariant.2;
    }

pub loop-k-preserved : goal.loop-k-preserved
loop-k-preserved g c =
    let l = c.loop-k in
    let r = c.pass in
    (search rules, r.auto.t ∙ l.invariant.1, r.ensures)

pub shape_of-t : goal.shape_of-t
shape_of-t g c = c.loop-k.invariant.1

pub returns : goal.returns
returns g c =
    let a = c.args in
    let l = c.loop-k in
    let e : l.k ≡ 2 = omega (arith, l.invariant.0) in
    subst (λ k. PartOf g.D.Scan.depth a.grows a.s.now a.w a.h a.o a.words.now k 0 0 l.t) e
    l.invariant.2
