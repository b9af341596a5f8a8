-- Stands on rows_within, with the row's bytes and its spare bits.
-- Nothing is written, so that nothing else falls: by bytes it is the definition's test turned over.
use Rattle.marker.specs.Steps.Bytes.{rows_within}
use Rattle.marker.proofs.Within.{rows_points}
use Rattle.picture.specs.declared.Depth.TheVariants.{OneBit}
use Rattle.picture.proofs.Sizes.{row_some, spare_few}
use Prim.Native.Nat.{◌*◌}
use mathlib.Core.Path.{ap, ap₂, ◌∙◌}
use native.Mathlib.Omega.{arith}
use Rattle.marker.proofs.lies_within.Goals as goal

pub rows_within-requires : goal.rows_within-requires
rows_within-requires c =
    let a = c.args in
    let n = c.row_bytes-n.ensures in
    let t = ap (λ m. a.h * m) n in record {
      le_n = (
        omega (arith, n, row_some OneBit a.w c.requires.holds.some_pings),
        omega (arith, c.spare_bits-u.ensures, spare_few OneBit a.w),
      );
      n_in_bounds = (omega (arith, t, c.requires.holds.long), omega (arith, t, c.requires.holds_2.long));
    }

pub returns : goal.returns
returns c =
    let a = c.args in
    c.rows_within.ensures
    ∙ ap₂ (λ n u. rows_within a.marker.now a.mask.now n u a.h)
    c.row_bytes-n.ensures c.spare_bits-u.ensures
    ∙ rows_points a.marker.now a.mask.now
    (λ i. omega (arith, c.type_inv.marker i))
    (λ i. omega (arith, c.type_inv.mask i))
    a.w c.requires.holds.some_pings a.h
