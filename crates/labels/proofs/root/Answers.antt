use Rattle.regions.proofs.Roots.{root_turn, root_stop}
use Rattle.regions.specs.Steps.Union.{root_of}
use mathlib.Core.Path.{sym, ap, ◌∙◌}
use native.Mathlib.Omega.{arith}
use Rattle.labels.proofs.root.Goals as goal

pub loop-j-preserved : goal.loop-j-preserved
loop-j-preserved c =
    let l = c.loop-j in
    let u = c.args.up.now in (
      omega arith,
      ap (root_of u) c.from-j.ensures ∙ sym (root_turn u l.j (omega arith)) ∙ l.invariant.1,
    )

pub returns : goal.returns
returns c = sym (root_stop c.args.up.now c.loop-j.j (omega arith)) ∙ c.loop-j.invariant.1
