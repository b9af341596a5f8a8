-- Invariant: k whole blocks of the n bytes are joined.
-- What falls: the blocks left.
use Prim.Native.Nat.{◌*◌}
use mathlib.Core.Path.{◌≡◌}
use lib.ListN.{length}
use Rattle.rowruns.specs.Steps.Pieces.{start_of, piece_of}
use Rattle.rowruns.proofs.join_blocks.Given as goal

abbrev pub invariant-loop-k : goal.invariant-loop-k
invariant-loop-k l =
    (length l.t ≡ length l.initial.t)
    × (l.t ≡ piece_of l.grows (start_of l.grows l.n 0 (64 * l.k)) l.s (64 * l.k) l.initial.t)
