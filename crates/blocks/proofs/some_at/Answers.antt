-- The bytes are copied over the first n of a block of none.
-- The others stay 0.
use Rattle.basics.proofs.Lists.{part_length}
use Rattle.basics.proofs.SliceParts.{get_mid}
use Rattle.blocks.proofs.Laid.{laid_front}
use lib.ListN.{length, get_or, replicate, length-replicate}
use Prim.Native.Nat.{ℕ, ◌+◌, ◌-◌, ◌≤◌}
use mathlib.Core.Path.{◌≡◌, ap, ◌∙◌}
use native.Mathlib.Omega.{arith}
use Rattle.blocks.proofs.some_at.Goals as goal

pub returns : goal.returns
returns c =
    let a = c.args in
    let e = c.copy_from_slice.ensures.after in
    let n : a.at + a.n - a.at ≡ a.n = omega arith in
    let fits : a.n ≤ length {A = ℕ} (replicate 64 0) = omega (arith, length-replicate {A = ℕ} 64 0) in
    laid_front a.n (λ i. get_or a.s.now (a.at + i) 0) (replicate 64 0) _ fits
    (ap length e ∙ part_length a.s.now a.at a.n c.requires.1)
    (λ i h. ap (λ l. get_or l i 0) e ∙ get_mid a.at _ a.s.now i (omega arith))
