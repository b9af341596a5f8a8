-- Stands on clear_rows, with the bytes of a row and its spare bits.
-- What is left is the picture that was there, written once more over itself: law `copied`, byte by byte.
use Rattle.copies.proofs.Copies.{copied}
use Rattle.picture.specs.declared.Face.TheVariants.{AsIs}
use Rattle.picture.specs.Bytes.{faced}
use mathlib.Core.Path.{refl, ◌∙◌}
use native.Mathlib.Omega.{arith}
use Rattle.copies.proofs.clear_padding.Goals as goal

pub returns : goal.returns
unfolding faced
returns c =
    let a = c.args in
    c.clear_rows.ensures
    ∙ copied AsIs a.t.now (λ i. omega
    (arith, c.slice_known-1.given i))
    a.w a.depth _ _ _ a.h a.t.now refl
    c.row_bytes-n.ensures
    c.spare_bits-u.ensures
