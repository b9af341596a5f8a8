-- Invariant: v is the word flooded i times.
-- What falls: the times that are left; a time that changes nothing ends the loop.
use Rattle.settle.specs.Steps.Words.{flooded}
use Prim.Native.Nat.{◌≤◌, ◌-◌}
use mathlib.Core.Path.{◌≡◌}
use Rattle.settlecell.proofs.flood.Given as goal

abbrev pub invariant-loop-i : goal.invariant-loop-i
invariant-loop-i l = (l.i ≤ 64) × (l.v ≡ flooded l.m l.o l.c l.i)
