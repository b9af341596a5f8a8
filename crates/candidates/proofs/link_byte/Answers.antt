-- One case of the definition for each return: size, origin, and a row.
-- Past the first four bytes the row is four less.
use native.Mathlib.Omega.{arith}
use mathlib.Core.Path.{sym, ap, ◌∙◌}
use Rattle.candidates.proofs.Numbers.{byte_wide, byte_high, byte_column, byte_row_lem, byte_own}
use Rattle.candidates.proofs.Numbers.{byte_boxed}
use Prim.Native.Nat.{◌+◌}
use Rattle.candidates.proofs.link_byte.Goals as goal

pub returns-then-j-eq0 : goal.returns-then-j-eq0
returns-then-j-eq0 c =
    ap (λ n. n + 1) c.min.ensures ∙ sym (byte_wide _ _ _ _ (omega arith))

pub returns-then-j-eq1 : goal.returns-then-j-eq1
returns-then-j-eq1 c =
    ap (λ n. n + 1) c.min-then-j-eq1.ensures ∙ sym (byte_high _ _ _ _ (omega arith))

pub returns-then-j-eq2 : goal.returns-then-j-eq2
returns-then-j-eq2 c = c.part.ensures.0 ∙ sym (byte_column _ _ _ _ (omega arith))

pub returns-then-j-eq3 : goal.returns-then-j-eq3
returns-then-j-eq3 c = c.part-then-j-eq3.ensures.0 ∙ sym (byte_row_lem _ _ _ _ (omega arith))

pub returns-then-c : goal.returns-then-c
returns-then-c c = sym (byte_own _ _ _ _ (omega arith) c.if-c.true)

pub returns : goal.returns
returns c = c.row_byte.ensures ∙ sym (byte_boxed _ _ _ _ (omega arith) c.if-c.false)
