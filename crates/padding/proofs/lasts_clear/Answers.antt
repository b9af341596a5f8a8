use Rattle.std.proofs.Common.{sym}
use Rattle.picture.specs.Bytes.{lasts_clear}
use Rattle.basics.proofs.Tests.{all_stop}
use borrow.Author.Tests.{ne_eqb}
use Rattle.padding.proofs.lasts_clear.Goals as goal

pub returns-then-s-last-ne0 : goal.returns-then-s-last-ne0
unfolding lasts_clear
returns-then-s-last-ne0 c =
    sym (all_stop _ c.loop-y.y c.args.h c.loop-y-test.true (ne_eqb _ _ c.if-s-last-ne0.true))
