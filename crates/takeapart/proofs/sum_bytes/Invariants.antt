-- Invariant: the first n bytes are there.
-- What falls: the bytes that are left.
use Prim.Native.Nat.{ℕ, ◌-◌, ◌≤◌}
use mathlib.Core.Path.{◌≡◌}
use mathlib.Core.List.{◌++◌}
use lib.ListN.{drop, replicate}
use Rattle.basics.specs.Lists.{firsts}
use Rattle.takeapart.specs.Sum.{sum_byte}
use Rattle.takeapart.proofs.sum_bytes.Given as goal

abbrev pub invariant-loop-n : goal.invariant-loop-n
invariant-loop-n l =
    (l.n ≤ 60) × (l.bytes ≡ firsts (sum_byte l.w) l.n ++ drop l.n (replicate {A = ℕ} 60 0))
