-- Invariant: a is what the first c columns add.
-- What falls: the columns that are left.
use Rattle.reach.specs.Steps.Words.{spread_of}
use mathlib.Core.Path.{◌≡◌}
use Prim.Native.Nat.{◌≤◌, ◌-◌}
use Rattle.board.proofs.spread.Given as goal

abbrev pub invariant-loop-c : goal.invariant-loop-c
invariant-loop-c l = (l.c ≤ l.w) × (l.a ≡ spread_of l.acc l.line l.cells l.c)
