use mathlib.Core.Path.{ap, ◌∙◌}
use native.Mathlib.Omega.{arith}
use lib.ListN.{length}
use borrow.Author.Rules.{rules}
use Rattle.rowruns.specs.Steps.Pieces.{start_of, piece_of}
use Rattle.rowruns.proofs.Pieces.{piece_none, piece_next, length_piece}
use Rattle.rowruns.proofs.join_rest.Goals as goal

pub loop-m-init : goal.loop-m-init
loop-m-init c = (search rules, search rules, piece_none _ _ _ _)

pub loop-m-preserved : goal.loop-m-preserved
loop-m-preserved c =
    let a = c.args in
    let l = c.loop-m in
    let r = c.join_byte in
    let e = r.ensures ∙ ap (λ i. piece_of a.grows i a.s 1 l.t) c.start-i.ensures.0 in (
      search rules,
      ap length e ∙ length_piece a.grows _ a.s 1 l.t ∙ l.invariant.1,
      piece_next a.n a.s a.c l.m 1 a.t.now l.t _ (omega arith) c.requires.1 a.grows
          l.invariant.2 e,
    )

pub returns : goal.returns
returns c =
    let a = c.args in
    c.loop-m.invariant.2
    ∙ ap (λ m. piece_of a.grows (start_of a.grows a.n a.c m) a.s m a.t.now) (omega arith)
