-- Below 64 a shifted 1 is the power of two itself, so that 1 less is all columns before `right`.
-- Shifted down and up again it has lost the columns before `left`.
use Rattle.reach.proofs.Loops.{shift_one_pos, mask_is}
use Rattle.board.proofs.mask.Goals as goal

pub overflow_sub-result : goal.overflow_sub-result
overflow_sub-result c = shift_one_pos c.args.cut.right c.requires.right_high

pub returns : goal.returns
returns c = mask_is c.args.cut.left c.args.cut.right c.requires.right_high
