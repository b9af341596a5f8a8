-- Eight stores are eight turns of the loop of `lay`: `eight_laid`.
-- The length stays with each store.
use Rattle.words.proofs.Points.{eight_laid}
use Rattle.words.proofs.lay_eight.Goals as goal

pub returns : goal.returns
returns c =
    eight_laid c.args.from c.args.v c.args.t.now _ _ _ _ _ _ _ _ c.requires c.byte_of.ensures
    c.byte_of-2.ensures c.byte_of-3.ensures c.byte_of-4.ensures c.byte_of-5.ensures c.byte_of-6.ensures
    c.byte_of-7.ensures c.byte_of-8.ensures
