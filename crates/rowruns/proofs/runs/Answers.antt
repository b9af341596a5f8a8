use mathlib.Core.Path.{ap, ◌∙◌}
use native.Mathlib.Omega.{arith}
use lib.ListN.{length}
use borrow.Author.Rules.{rules}
use Rattle.rowruns.proofs.Pieces.{length_piece}
use Rattle.rowruns.proofs.Stepped.{run_one, run_more, run_all}
use Rattle.rowruns.proofs.runs.Goals as goal

pub loop-a-init : goal.loop-a-init
loop-a-init c =
    let a = c.args in
    let p = c.requires in (
      search rules,
      search rules,
      search rules,
      run_one a.grows a.n a.h p.some_bytes a.t.now (λ i. omega (arith, c.type_inv.t i)) p.long,
    )

pub loop-a-preserved : goal.loop-a-preserved
loop-a-preserved c =
    let a = c.args in
    let p = c.requires in
    let l = c.loop-a in
    let d = c.min-d.ensures in
    let e = c.join_rows.ensures in (
      search rules,
      omega (arith, d, c.loop-a-test.true),
      ap length e ∙ length_piece a.grows 0 _ _ l.t ∙ l.invariant.2,
      run_more a.grows a.n a.h p.some_bytes a.t.now
          (λ i. search rules) p.long l.a _ l.t _ l.invariant.0
          (omega (arith, d)) l.invariant.3 e (λ i. omega (arith, c.type_inv.t i)),
    )

pub returns : goal.returns
returns c =
    let a = c.args in
    let p = c.requires in
    let l = c.loop-a in
    run_all a.grows a.n a.h p.some_bytes a.t.now
    (λ i. search rules) p.long l.a a.k l.t l.invariant.3
    (omega (arith, l.invariant.1, c.loop-a-test.false))
