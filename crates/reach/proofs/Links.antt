-- An array that was filled in order to its end.
use Prim.Native.Nat.{ℕ, ◌-◌}
use mathlib.Core.Path.{◌≡◌, ap, ◌∙◌}
use mathlib.Core.List.{List, ◌++◌, append-nil}
use native.Mathlib.Omega.{arith}
use lib.ListN.{replicate}
use Rattle.basics.specs.Lists.{firsts}

pub filled_all : (f : ℕ → ℕ) (m r : ℕ) (l : List ℕ) → r ≡ m → l ≡ firsts f r ++ replicate (m - r) 0
    → l ≡ firsts f m
filled_all f m r l e q =
    q ∙ ap (λ n. firsts f n ++ replicate (m - n) 0) e
    ∙ ap (λ k. firsts f m ++ replicate k 0) (none m) ∙ append-nil (firsts f m)
  where
    none : (m : ℕ) → m - m ≡ 0
    none m = omega arith
