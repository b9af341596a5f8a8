-- Stands on copy_rows, with the bytes of a row and its spare bits.
-- What the loops leave is the picture written: law `copied`, byte by byte.
use Rattle.copies.proofs.Copies.{copied}
use mathlib.Core.Path.{refl, ◌∙◌}
use native.Mathlib.Omega.{arith}
use Rattle.copies.proofs.copy_picture.Goals as goal

pub returns : goal.returns
returns c =
    let a = c.args in
    c.copy_rows.ensures
    ∙ copied a.face a.s.now (λ i. omega
    (arith, c.type_inv.s i))
    a.w a.depth _ _ _ a.h a.t.now refl
    c.row_bytes-n.ensures
    c.spare_bits-u.ensures
