-- Invariant: v has 0 exactly where m points from there on are 0. Falls: what m lacks of n.
-- Each turn joins two windows side by side, the last two overlap: `window_more`.
use Rattle.narrow.specs.Steps.Strip.{OffWhere, Clear}
use Prim.Native.Nat.{◌-◌, ◌≤◌}
use Rattle.narrow.proofs.windows.Given as goal

abbrev pub invariant-loop-m : goal.invariant-loop-m
invariant-loop-m l = (1 ≤ l.m) × ((l.m ≤ l.n) × OffWhere l.v (Clear l.initial.v l.m))

abbrev pub decreases-loop-m : goal.decreases-loop-m
decreases-loop-m l = l.n - l.m
