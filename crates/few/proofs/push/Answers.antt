-- By the test: one place more, or more than a few.
-- The list has room for 16.
use borrow.Author.Tests.{lt-ltb, le-ltb}
use Rattle.few.proofs.push.Goals as goal

pub returns-then-count-ge-FEW : goal.returns-then-count-ge-FEW
returns-then-count-ge-FEW c =
    record {
      number = simp (le-ltb _ _ c.if-count-ge-FEW.true);
      list = simp (le-ltb _ _ c.if-count-ge-FEW.true);
    }

pub returns : goal.returns
returns c =
    record {
      number = simp (lt-ltb _ _ c.if-count-ge-FEW.false);
      list = simp (lt-ltb _ _ c.if-count-ge-FEW.false);
    }
