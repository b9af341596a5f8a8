use Prim.Native.Nat.{◌*◌, ◌/◌}
use mathlib.Core.Path.{◌≡◌, ap, ◌∙◌}
use native.Mathlib.Omega.{arith}
use lib.ListN.{length}
use borrow.Author.Rules.{rules}
use Rattle.rowruns.specs.Steps.Pieces.{start_of, piece_of}
use Rattle.rowruns.proofs.Pieces.{piece_none, piece_more, length_piece}
use Rattle.rowruns.proofs.join_blocks.Goals as goal

pub loop-k-init : goal.loop-k-init
loop-k-init c = (search rules, piece_none _ _ _ _)

pub loop-k-preserved : goal.loop-k-preserved
loop-k-preserved c =
    let a = c.args in
    let l = c.loop-k in
    let r = c.join_block in
    let e = r.ensures ∙ ap (λ i. piece_of a.grows i a.s 64 l.t) c.start-i.ensures.0 in (
      ap length e ∙ length_piece a.grows _ a.s 64 l.t ∙ l.invariant.0,
      piece_more a.grows a.n a.s (64 * l.k) 64 a.t.now l.t _ (omega arith)
          c.requires l.invariant.1 e
          ∙ ap (λ m. piece_of a.grows (start_of a.grows a.n 0 m) a.s m a.t.now) (omega arith),
    )

pub returns : goal.returns
returns c =
    let a = c.args in
    let n : c.loop-k.k ≡ a.n / 64 = omega arith in
    let e : c.loop-k.t ≡ piece_of a.grows (start_of a.grows a.n 0 (64 * c.loop-k.k)) a.s (64 * c.loop-k.k)
    a.t.now = c.loop-k.invariant.1 in
    (omega arith, e ∙ ap (λ k. piece_of a.grows (start_of a.grows a.n 0 (64 * k)) a.s (64 * k) a.t.now) n)
