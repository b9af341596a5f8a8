-- Invariant: t is the sum of the lengths below i, each of two bytes.
-- Each turn adds the length that stands for i, so that at the end t is the sum of all.
use Prim.Native.Nat.{◌*◌, ◌≤◌}
use mathlib.Core.Path.{◌≡◌}
use Rattle.share.specs.Share.{sum_to, length_at}
use Rattle.share.proofs.total.Given as goal

abbrev pub invariant-loop-i : goal.invariant-loop-i
invariant-loop-i l = (l.t ≤ 65535 * l.i) × (l.t ≡ sum_to (length_at l.fn.s) l.i)
