-- What C gets of a nesting is taken apart again into its number and the number of regions.
use Prim.Native.Nat.{ℕ, ◌+◌, ◌*◌, ◌/◌, ◌^◌, ◌<◌}
use mathlib.Core.Path.{◌≡◌, refl, ap, ◌∙◌}
use mathlib.Core.Bool.{Bool, true, false, cond}
use native.Mathlib.Omega.{arith}
use borrow.Fn.Kinds.{Dens, res_t, ended_of}
use denote.Triple.Clauses.{AtExit}
use contract.Lifetimes.{Lfts}
use borrow.Author.Tests.{ltb-false}
use lib.Bits.{and_mask}
use lib.Dec.{lit<}
use lib.ListN.{length}
use Rattle.answer.specs.Answer.{plain, is_done}
use Rattle.answer.specs.Refuse.{refuse}
use Rattle.answer.proofs.Order.{none_of}
use Rattle.answer.proofs.Packed.{number_few, number_packed}
use Rattle.regions.specs.Limits.{most_regions}
use Rattle.regions.specs.Listing.{regions_of}
use Rattle.nesting.specs.Nesting.{nest_tests, nest_answer, OfRegions}
use Rattle.nesting.proofs.Refused.{nest_numbered}
use Rattle.hostnest.specs.Nest.{nest_number}
use Rattle.hostnest.specs.Apart.{nest_apart, nest_told}
use Rattle.hostnest.proofs.qik_nesting.Kinds as nesting-kinds
use Rattle.hostnest.proofs.qik_nesting.Reads as nesting-reads

-- a byte and a pair of bytes, side by side
told_apart : (n k : ℕ) → n < 2 ^ 8 → k < 2 ^ 16
    → nest_apart (n + k * 2 ^ 16) ≡ record { number = n; regions = k }
unfolding nest_apart
told_apart n k small few = λ i. record { number = number i; regions = regions i }
  where
    number : (nest_apart (n + k * 2 ^ 16)).number ≡ n
    number = and_mask (n + k * 2 ^ 16) 8 ∙ omega (arith, small, few)

    regions : (nest_apart (n + k * 2 ^ 16)).regions ≡ k
    regions = and_mask ((n + k * 2 ^ 16) / 2 ^ 16) 16 ∙ omega (arith, small, few)

-- the regions of a call that is not refused are few
few_regions : (R : ℕ → ℕ) (w h n len : ℕ)
    → cond (is_done (nest_answer R w h n len)) (regions_of R (h * w)) 0 < 2 ^ 16
few_regions R w h n len = by (is_done (nest_answer R w h n len)) refl
  where
    by : (b : Bool) → is_done (nest_answer R w h n len) ≡ b → cond b (regions_of R (h * w)) 0 < 2 ^ 16
    by true e =
        let p = none_of (nest_tests R w h n len) (nest_numbered R w h n len) e in
        omega (arith, ltb-false most_regions (regions_of R (h * w)) p.1.1.1.0)
    by false e = lit< tt

pub nest_apart_lem : (R : ℕ → ℕ) (w h n len : ℕ)
    → nest_apart (nest_number R w h n len) ≡ nest_told R w h n len
unfolding nest_number nest_told
nest_apart_lem R w h n len =
    let ts = nest_tests R w h n len in
    let k = cond (is_done (nest_answer R w h n len)) (regions_of R (h * w)) 0 in
    ap (λ m. nest_apart (m + k * 2 ^ 16)) (number_packed ts)
    ∙ told_apart (refuse ts (plain 0)).number k
    (number_few ts (lit< tt, (lit< tt, (lit< tt, (lit< tt, (lit< tt, tt)))))) (few_regions R w h n len)

-- so of every number that the contract of `qik_nesting` allows, as the prover reads it
pub qik_nesting_apart : (κs : Lfts 2) (a : Dens κs nesting-kinds.ps) (r : (res_t nesting-kinds.r κs).Denot)
    (e : AtExit (ended_of 2 nesting-kinds.ps nesting-kinds.r) κs) → nesting-reads.Learnt κs a r e
    → OfRegions a.1.1.0.now a.0 a.1.0 (λ R.
    nest_apart r ≡ nest_told R a.0 a.1.0 (length a.1.1.0.now) (length a.1.1.1.0.now))
qik_nesting_apart κs a r e p R f =
    ap nest_apart (p.0 R f) ∙ nest_apart_lem R a.0 a.1.0 (length a.1.1.0.now) _
