-- Invariant: what stands at the first places, those before the next one, is joined.
-- It starts from what counts beyond the frame.
use Rattle.rows.specs.Steps.Fold.{start_by}
use Rattle.rooms.specs.Steps.Joined.{at_places}
use mathlib.Core.Path.{◌≡◌}
use Rattle.gathers.proofs.point.Given as goal

abbrev pub invariant-loop-p : goal.invariant-loop-p
invariant-loop-p l = l.c ≡ at_places l.grows (start_by l.grows 255) l.s l.i l.at l.p-index
