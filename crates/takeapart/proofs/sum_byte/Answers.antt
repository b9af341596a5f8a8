-- One case of the definition for each return:
-- the size, the origin, a row.
use native.Mathlib.Omega.{arith}
use Rattle.takeapart.proofs.Ways.{byte_size, byte_column, byte_row_lem, byte_cells}
use Rattle.takeapart.proofs.sum_byte.Goals as goal

pub returns-then-n-lt2 : goal.returns-then-n-lt2
returns-then-n-lt2 c = byte_size _ _ (omega arith)

pub returns-then-n-eq2 : goal.returns-then-n-eq2
returns-then-n-eq2 c = byte_column _ _ (omega arith) (omega arith)

pub returns-then-n-eq3 : goal.returns-then-n-eq3
returns-then-n-eq3 c = byte_row_lem _ _ (omega arith) c.if-n-eq2.false (omega arith)

pub returns : goal.returns
returns c = byte_cells _ _ (omega arith) c.if-n-eq2.false c.if-n-eq3.false
