-- Invariant: m of the bytes that were left are joined.
-- What falls: those that still are.
use Prim.Native.Nat.{◌-◌, ◌≤◌}
use mathlib.Core.Path.{◌≡◌}
use lib.ListN.{length}
use Rattle.rowruns.specs.Steps.Pieces.{start_of, piece_of}
use Rattle.rowruns.proofs.join_rest.Given as goal

abbrev pub invariant-loop-m : goal.invariant-loop-m
invariant-loop-m l =
    (l.m ≤ l.n - l.c) × (length l.t ≡ length l.initial.t)
    × (l.t ≡ piece_of l.grows (start_of l.grows l.n l.c l.m) l.s l.m l.initial.t)
