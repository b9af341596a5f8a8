-- All digits less those past `wide`; of 64 cells or more it is all digits.
-- The difference does not wrap, since a number moved down is no greater.
use Rattle.packedline.proofs.Words.{run_whole}
use Rattle.packedline.proofs.run_word.Goals as goal

pub returns-then-wide-ge64 : goal.returns-then-wide-ge64
returns-then-wide-ge64 c = run_whole c.args.wide c.if-wide-ge64.true
