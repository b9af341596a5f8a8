-- Invariant: the verdict of the offsets from number n on is the verdict of the check. What falls:
-- the offsets that are left. At a fault the offset is the answer; past the last one the chain is accepted.
use Prim.Native.Nat.{◌-◌, ◌≤◌}
use mathlib.Core.Path.{◌≡◌}
use lib.ListN.{take}
use Rattle.element.specs.Record.{shape_by}
use Rattle.morphology.specs.Check.{fault_test, check_of}
use Rattle.reach.specs.Steps.Links.{shapes_of}
use Rattle.faults.specs.Steps.Scan.{all_offsets}
use Rattle.faults.proofs.Seek.{seek}
use Rattle.faults.proofs.check.Given as goal

abbrev pub invariant-loop-n : goal.invariant-loop-n
invariant-loop-n l =
    (l.n ≤ all_offsets)
    × (seek (fault_test (shape_by l.outline l.cells) (shapes_of (take l.k l.links))) l.n (all_offsets - l.n)
    ≡ check_of (shape_by l.outline l.cells) (shapes_of (take l.k l.links)))
