-- One case of the definition for each return.
-- What each return has found out of n is the arithmetic of the tests before it.
use native.Mathlib.Omega.{arith}
use mathlib.Core.Path.{sym}
use Rattle.candidates.proofs.Numbers.{needs_one, needs_two, needs_three, needs_four, needs_five}
use Rattle.candidates.proofs.needed.Goals as goal

pub returns-then-n-most : goal.returns-then-n-most
returns-then-n-most c = (sym (needs_one _ _ (omega arith)), omega arith)

pub returns-then-n-most-2 : goal.returns-then-n-most-2
returns-then-n-most-2 c = (sym (needs_two _ _ (omega arith) (omega arith)), omega arith)

pub returns-then-n-most-3 : goal.returns-then-n-most-3
returns-then-n-most-3 c =
    (sym (needs_three _ _ (omega arith) (omega arith) (omega arith)), omega arith)

pub returns-then-n-most-4 : goal.returns-then-n-most-4
returns-then-n-most-4 c =
    (sym (needs_four _ _ (omega arith) (omega arith) (omega arith) (omega arith)), omega arith)

pub returns : goal.returns
returns c =
    (sym (needs_five _ _ (omega arith) (omega arith) (omega arith) (omega arith)), omega arith)
