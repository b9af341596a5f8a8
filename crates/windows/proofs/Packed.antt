-- Packed bytes joined: in any grouping, and with the byte that changes nothing.
use Prim.Native.Nat.{ℕ, zero, suc, ◌+◌, ◌%◌, ◌^◌, ◌≤◌, ◌<◌}
use mathlib.Core.Path.{◌≡◌, sym, ap, ◌∙◌}
use mathlib.Core.Bool.{Bool, true, false}
use native.Mathlib.Omega.{arith}
use native.Mathlib.Nat.{pow-suc, lt_of_lt_of_le}
use lib.Pow.{pow_mono}
use lib.Bits.{or_lt, and_lt, or_zero_r, and_mask}
use Rattle.basics.specs.Bits.{bit}
use Rattle.basics.proofs.Bits.{bits_same}
use Rattle.rows.specs.Steps.Fold.{join_by, start_by}
use Rattle.blocks.specs.Steps.Joins.{join_packed}
use Rattle.blocks.proofs.Points.{bit_join}
use Rattle.morphology.specs.Operations.{fold}

below_power : (n : ℕ) → n < 2 ^ n
below_power zero = omega arith
below_power (suc n) = omega (arith, pow-suc 2 n, below_power n)

below : (n m : ℕ) → n ≤ m → n < 2 ^ m
below n m h = lt_of_lt_of_le (below_power n) (pow_mono {i = n} {j = m} h)

pub join_lt : (grows : Bool) (k a b : ℕ) → a < 2 ^ k → b < 2 ^ k → join_packed grows a b < 2 ^ k
join_lt true k a b h g = or_lt k a b h g
join_lt false k a b h g = and_lt k a b h g

by_assoc : (grows : Bool) (a b c : ℕ) → join_by grows a (join_by grows b c)
    ≡ join_by grows (join_by grows a b) c
by_assoc true a b c = omega arith
by_assoc false a b c = omega arith

pub join_assoc : (grows : Bool) (a b c : ℕ) → join_packed grows a (join_packed grows b c)
    ≡ join_packed grows (join_packed grows a b) c
join_assoc grows a b c =
    let n = a + b + c in
    let la = below a n (omega arith) in
    let lb = below b n (omega arith) in
    let lc = below c n (omega arith) in
    bits_same n (join_packed grows a (join_packed grows b c)) (join_packed grows (join_packed grows a b) c)
    (join_lt grows n a (join_packed grows b c) la (join_lt grows n b c lb lc))
    (join_lt grows n (join_packed grows a b) c (join_lt grows n a b la lb) lc)
    (λ k h. bit_join grows a (join_packed grows b c) k ∙ ap (join_by grows (bit a k)) (bit_join grows b c k)
    ∙ by_assoc grows (bit a k) (bit b k) (bit c k)
    ∙ sym (bit_join grows (join_packed grows a b) c k
    ∙ ap (λ n. join_by grows n (bit c k)) (bit_join grows a b k)))

pub join_neutral : (grows : Bool) (a : ℕ) → a < 256 → join_packed grows a (start_by grows 255) ≡ a
join_neutral true a h = or_zero_r a
join_neutral false a h = and_mask a 8 ∙ small a h
  where
    small : (a : ℕ) → a < 256 → a % 256 ≡ a
    small a h = omega arith

-- what is joined first among themselves may be joined one after another
pub fold_in : (grows : Bool) (a : ℕ) (f : ℕ → ℕ) (n : ℕ) → a < 256
    → join_packed grows a (fold (join_packed grows) (start_by grows 255) f n) ≡ fold (join_packed grows) a f n
unfolding fold
fold_in grows a f zero h = join_neutral grows a h
fold_in grows a f (suc n) h =
    join_assoc grows a (fold (join_packed grows) (start_by grows 255) f n) (f n)
    ∙ ap (λ m. join_packed grows m (f n)) (fold_in grows a f n h)
