-- Stands on sized and row_bytes: a sized frame's product does not wrap.
-- In a frame that is not sized nothing is multiplied.
use Rattle.picture.proofs.Sizes.{sized_tells, picture_few}
use Prim.Native.Nat.{◌*◌}
use mathlib.Core.Path.{sym, ap, ◌∙◌}
use native.Mathlib.Omega.{arith}
use Rattle.picture.proofs.picture_bytes.Goals as goal

pub row_bytes-requires : goal.row_bytes-requires
row_bytes-requires c =
    let s = sized_tells c.args.w c.args.h
    (sym c.sized.ensures ∙ c.if-sized.true) in
    s.few_pings

pub overflow_mul-result : goal.overflow_mul-result
overflow_mul-result c =
    let a = c.args in
    let s = sized_tells a.w a.h (sym c.sized.ensures ∙ c.if-sized.true) in
    omega (
      arith,
      ap (λ n. a.h * n) c.row_bytes.ensures,
      picture_few a.depth a.w a.h s.few_pings s.few_bins,
    )
