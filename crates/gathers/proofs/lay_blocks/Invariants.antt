-- Invariant: the first k blocks are laid, and t is as it was elsewhere. What falls: the blocks left.
-- The source is no part of what is written.
use Rattle.blocks.specs.Steps.Laid.{laid}
use Rattle.gathers.specs.Steps.Gathered.{at_all}
use Prim.Native.Nat.{◌-◌, ◌*◌, ◌≤◌}
use mathlib.Core.Path.{◌≡◌}
use lib.ListN.{length}
use Rattle.gathers.proofs.lay_blocks.Given as goal

abbrev pub invariant-loop-k : goal.invariant-loop-k
invariant-loop-k l =
    (l.k ≤ l.n) × ((length l.t ≡ length l.initial.t) × (l.t ≡ laid l.from (64 * l.k) (at_all
    l.grows l.s l.at) l.initial.t))
