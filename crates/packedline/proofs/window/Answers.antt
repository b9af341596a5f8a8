-- By cases of the width: at most four windows make up the run.
-- Each case is the definition's.
use borrow.Author.Tests.{le-leb, lt-leb}
use Rattle.packedline.proofs.window.Goals as goal

pub returns-then-wide-le16 : goal.returns-then-wide-le16
returns-then-wide-le16 c =
    simp (
      lt-leb c.args.wide 4 c.if-wide-le4.false,
      le-leb c.args.wide 16 c.if-wide-le16.true,
    )

pub returns-else-wide-le16 : goal.returns-else-wide-le16
returns-else-wide-le16 c =
    simp (
      lt-leb c.args.wide 4 c.if-wide-le4.false,
      lt-leb c.args.wide 16 c.if-wide-le16.false,
    )
