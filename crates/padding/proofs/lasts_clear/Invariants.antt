-- Invariant: the last bytes of the rows before y are multiples of m.
-- A row that is not clear ends the loop.
use Rattle.picture.specs.Bytes.{last_clear}
use Rattle.basics.specs.Tests.{all}
use mathlib.Core.Bool.{true}
use mathlib.Core.Path.{◌≡◌}
use Rattle.padding.proofs.lasts_clear.Given as goal

abbrev pub invariant-loop-y : goal.invariant-loop-y
invariant-loop-y l = all (last_clear l.s l.n l.m) l.y ≡ true
