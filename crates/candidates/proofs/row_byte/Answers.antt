-- Above and below the box nothing; within it the run of cells that the cuts leave: law `row_made`.
-- What each call returned stands behind it; the sum is at most 14.
use native.Mathlib.Omega.{arith}
use mathlib.Core.Path.{sym}
use Rattle.candidates.proofs.Numbers.{row_above, row_below, row_made, few_sum}
use Rattle.candidates.specs.Candidates.{row_byte}
use Rattle.candidates.proofs.row_byte.Goals as goal

pub returns-then-r-upper : goal.returns-then-r-upper
unfolding row_byte
returns-then-r-upper c =
    sym (row_above _ _ _ _ _ _ _ _ _ (let z = c.part-upper.ensures in omega arith))

pub returns-then-lower-r : goal.returns-then-lower-r
unfolding row_byte
returns-then-lower-r c = sym (row_below _ _ _ _ _ _ _ _ _ (omega arith) (omega arith))

pub overflow_add-from : goal.overflow_add-from
overflow_add-from c =
    record {
      fits =
          few_sum _ _ _ _ _ _ _ _ c.part-from.ensures.1 c.max.ensures
          c.saturating_sub-ul.ensures
          c.saturating_sub-ll.ensures
          c.part.ensures.1 c.part-2.ensures.1;
    }

pub returns : goal.returns
returns c =
    row_made _ _ _ _ _ _ _ _ _ _ _ _ _ _ _ _ _ _ _ _
    c.part-upper.ensures.0
    c.part-lower.ensures.0
    c.part-from.ensures.0
    c.part-to.ensures.0
    c.part.ensures.0
    c.part-2.ensures.0
    c.part-3.ensures.0
    c.part-4.ensures.0
    (let z = c.if-r-upper.false in omega arith)
    (let z = c.if-lower-r.false in omega arith)
    c.saturating_sub-ul.ensures
    c.saturating_sub-ll.ensures
    c.saturating_sub-ur.ensures
    c.saturating_sub-lr.ensures
    c.max.ensures
    c.max-2.ensures
    c.saturating_sub.ensures
    c.run_byte.ensures
