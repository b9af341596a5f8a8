-- Stands on what becomes of the part, of the comment and of each number.
-- The five together are the next state, kept.
use Rattle.pnmheader.proofs.Scans.{step_kept}
use Rattle.pnmheader.proofs.next.Goals as goal

pub returns : goal.returns
returns c =
    let a = c.args in (
      step_kept a.s a.b _ _ _ _ _ c.part_after-part.ensures.0 c.open_after-comment.ensures
          c.number_after.ensures
          c.number_after-2.ensures c.number_after-3.ensures,
      c.part_after-part.ensures.1,
    )
