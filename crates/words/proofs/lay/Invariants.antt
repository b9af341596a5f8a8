-- Invariant: i bytes of v are laid from the place `from` on. Falls: the bytes left.
-- All else of t stays.
use Prim.Native.Nat.{◌-◌, ◌≤◌}
use mathlib.Core.Path.{◌≡◌}
use lib.ListN.{length}
use Rattle.blocks.specs.Steps.Laid.{laid}
use Rattle.words.specs.Steps.Words.{byte_of}
use Rattle.words.proofs.lay.Given as goal

abbrev pub invariant-loop-i : goal.invariant-loop-i
invariant-loop-i l =
    (l.i ≤ l.end - l.from)
    × ((length l.t ≡ length l.initial.t) × (l.t ≡ laid l.from l.i (byte_of l.v) l.initial.t))
