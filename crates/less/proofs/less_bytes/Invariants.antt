-- Invariant: the first i bytes are made with those beside, the others as they were.
-- No byte is read after its own store.
use mathlib.Core.Path.{◌≡◌}
use Prim.Native.Nat.{◌≤◌}
use lib.ListN.{length, take}
use Rattle.basics.specs.Zip.{zip_in}
use Rattle.less.specs.Steps.Sides.{less_by}
use Rattle.less.proofs.less_bytes.Given as goal

abbrev pub invariant-loop-i : goal.invariant-loop-i
invariant-loop-i l =
    (l.i ≤ length l.by) × (length l.t ≡ length l.initial.t)
    × (l.t ≡ zip_in (less_by l.depth l.from) l.initial.t (take l.i l.by))
