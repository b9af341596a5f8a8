-- Invariant: the counts of the first i sides are there, and `here` is what side i + 1 keeps.
-- No side is counted twice: each takes what the next one keeps.
use Prim.Native.Nat.{◌+◌, ◌≤◌}
use mathlib.Core.Path.{◌≡◌}
use mathlib.Core.List.{◌++◌}
use lib.ListN.{length, drop}
use Rattle.basics.specs.Lists.{firsts}
use Rattle.picture.specs.declared.Depth.TheVariants.{OneBit}
use Rattle.picture.specs.Frame.{frame, picture_bytes}
use Rattle.picture.specs.Points.{value_at}
use Rattle.sizes.specs.Spectrum as defined
use Rattle.sizes.specs.Spectrum.{count_at}
use Rattle.spectrum.proofs.count_sides.Given as goal

abbrev pub invariant-loop-i : goal.invariant-loop-i
invariant-loop-i l =
    (l.i ≤ 31) × (length l.counts ≡ length l.initial.counts) × (length l.t ≡ picture_bytes OneBit l.w l.h)
    × (l.here ≡ defined.survivors (frame l.w l.h) (value_at OneBit l.source l.w) (l.i + 1))
    × (l.counts ≡ firsts (λ i. count_at (frame l.w l.h) (value_at OneBit l.source l.w) (i + 1)) l.i
    ++ drop l.i l.initial.counts)
