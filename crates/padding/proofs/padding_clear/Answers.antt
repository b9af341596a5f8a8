-- Stands on lasts_clear, with the row's bytes and two to the number of spare bits.
-- There are fewer than 8 spare bits, so that the shift keeps a byte.
use Rattle.picture.proofs.Sizes.{spare_mask}
use Rattle.picture.specs.Bytes.{padding_clear, lasts_clear}
use mathlib.Core.Path.{ap₂, ◌∙◌}
use Rattle.padding.proofs.padding_clear.Goals as goal

pub returns : goal.returns
unfolding padding_clear
returns c =
    let a = c.args in
    c.lasts_clear.ensures
    ∙ ap₂ (λ n m. lasts_clear a.s.now n m a.h) c.row_bytes-n.ensures
    (spare_mask a.depth a.w c.spare_bits-u.result c.spare_bits-u.ensures)
