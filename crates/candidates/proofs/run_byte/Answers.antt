-- The cells from the first on, and those up to the last, joined by `&`.
-- Nothing where they are turned, or where the last is none of a link.
use native.Mathlib.Omega.{arith}
use mathlib.Core.Path.{sym}
use Rattle.candidates.proofs.Numbers.{run_turned, run_far, run_cells}
use Rattle.candidates.proofs.run_byte.Goals as goal

pub returns-then-last-first : goal.returns-then-last-first
returns-then-last-first c = sym (run_turned _ _ (omega arith))

pub returns-then-last-gt7 : goal.returns-then-last-gt7
returns-then-last-gt7 c = sym (run_far _ _ (omega arith) (omega arith))

pub returns : goal.returns
returns c = sym (run_cells _ _ (omega arith) (omega arith))
