-- A share whose lengths are 0 holds nothing.
use Prim.Native.Nat.{ℕ, zero, suc, ◌+◌, ◌*◌, ◌≤◌, ◌<◌}
use mathlib.Core.Path.{◌≡◌, refl, sym, ap, ap₂, subst}
use mathlib.Core.List.{List, [], ◌++◌}
use native.Mathlib.Omega.{arith}
use lib.ListN.{length, get_or, take, drop, replicate}
use Rattle.std.proofs.lemmas.Grind.{common_steps}
use Rattle.share.specs.Share.{sum_to, length_at, place_of, held_at}
use Rattle.share.specs.Maps.{empty}
use Rattle.share.proofs.Shares.{Holds}

pub get_d_zeros : (n : ℕ) (l : List ℕ) (i : ℕ) → i < n → get_or (replicate n 0 ++ l) i 0 ≡ 0
get_d_zeros n l i h = grind (arith, common_steps)

sum_zeros : (n : ℕ) → sum_to (λ i. 0) n ≡ 0
unfolding sum_to
sum_zeros zero = refl
sum_zeros (suc n) = ap (λ k. k + 0) (sum_zeros n)

none_at : (s : List ℕ) (i : ℕ) → get_or s (2 * i) 0 ≡ 0 → get_or s (2 * i + 1) 0 ≡ 0 → length_at s i ≡ 0
unfolding length_at
none_at s i a b = ap₂ (λ x y. x + 256 * y) a b

nothing_at : (N : ℕ) (s : List ℕ) (i : ℕ) → length_at s i ≡ 0 → held_at N s i ≡ []
unfolding held_at
nothing_at N s i z = ap (λ k. take k (drop (place_of N s i) s)) z

pub zero_holds : (N M : ℕ) (s : List ℕ) → length s ≡ 2 * N + M → ((i : ℕ) → i < 2 * N → get_or s i 0 ≡ 0)
    → Holds N M s empty
zero_holds N M s e zeros =
    record {
      long = e;
      few = subst (λ n. n ≤ M) (sym (sum_zeros N)) (omega arith);
      fine = λ i h. refl;
      lengths = none;
      held = λ i h. nothing_at N s i (none i h);
    }
  where
    none : (i : ℕ) → i < N → length_at s i ≡ 0
    none i h = none_at s i (zeros (2 * i) (omega arith)) (zeros (2 * i + 1) (omega arith))
