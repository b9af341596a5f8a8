-- A power of 2 moved down by c is a lesser power of 2.
-- c is below 64, so that the shift does not wrap.
use Rattle.packedline.proofs.Words.{one_cell}
use Rattle.packedline.proofs.cell_bit.Goals as goal

pub returns : goal.returns
returns c = one_cell c.args.c c.requires
