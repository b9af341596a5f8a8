-- The bytes of the picture are made one by one, then the padding of each row is cleared.
-- What is left is the one picture less the other, whatever their padding was: law `subtracted`.
use Rattle.less.proofs.Less.{subtracted}
use Rattle.picture.specs.Frame.{picture_bytes}
use Rattle.picture.proofs.Sizes.{picture_few}
use Prim.Native.Nat.{◌*◌}
use lib.ListN.{length, take}
use lib.Seq.{length-take-le}
use mathlib.Core.Path.{◌≡◌, sym, ap}
use native.Mathlib.Omega.{arith}
use Rattle.std.proofs.Common.{rules}
use Rattle.less.proofs.subtract.Goals as goal

pub overflow_mul-m : goal.overflow_mul-m
overflow_mul-m c =
    let a = c.args in
    omega (
      arith,
      ap (λ n. a.h * n) c.row_bytes.ensures,
      picture_few a.depth a.w a.h c.requires.holds.few_pings c.requires.holds.few_bins,
    )

pub slice_bounds-less_bytes-end : goal.slice_bounds-less_bytes-end
slice_bounds-less_bytes-end c =
    let a = c.args in
    let e : a.h * c.row_bytes.result ≡ picture_bytes a.depth a.w a.h =
    ap (λ n. a.h * n) c.row_bytes.ensures in
    sym (length-take-le _ a.other.now (omega (arith, e, c.requires.holds.long)))

pub less_bytes-requires : goal.less_bytes-requires
less_bytes-requires c =
    let a = c.args in
    let e : a.h * c.row_bytes.result ≡ picture_bytes a.depth a.w a.h =
    ap (λ n. a.h * n) c.row_bytes.ensures in
    let s : length (take (a.h * c.row_bytes.result) a.other.now) ≡ a.h * c.row_bytes.result =
    length-take-le _ a.other.now (omega (arith, e, c.requires.holds.long)) in
    omega (arith, s, e, c.requires.holds_2.long)

pub returns : goal.returns
returns c =
    let a = c.args in
    subtracted a.depth a.from a.w a.h a.other.now a.target.now
    (λ i. let l = c.type_inv.other i in omega arith)
    (λ i. search rules)
    c.requires.holds.long c.requires.holds_2.long _ _ _
    (ap (λ n. a.h * n) c.row_bytes.ensures)
    c.less_bytes.ensures
    c.clear_padding.ensures
