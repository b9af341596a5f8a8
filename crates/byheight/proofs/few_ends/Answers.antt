use Prim.Native.Nat.{zero-le, ◌≤◌}
use mathlib.Core.Bool.{Bool, true, false}
use mir.Val.{bool_byte}
use lib.Dec.{eqb}
use lib.ListN.{get_or}
use native.Mathlib.Nat.{le_refl}
use native.Mathlib.Omega.{arith}
use borrow.Author.Rules.{rules}
use Rattle.byheight.proofs.few_ends.Goals as goal
use Rattle.byheight.proofs.few_ends.Goals.{After-shared_slice_known-in-loop-i-1}

one : (b : Bool) → bool_byte b ≤ 1
one false = zero-le
one true = le_refl 1

-- what a turn adds
adds : (c : After-shared_slice_known-in-loop-i-1)
    → bool_byte (eqb (get_or c.args.s.now c.loop-i.i 0) c.beyond-end.result) ≤ 1
adds c = one (eqb (get_or c.args.s.now c.loop-i.i 0) c.beyond-end.result)

pub loop-i-init : goal.loop-i-init
loop-i-init c = (search rules, search rules)

pub overflow_add-n : goal.overflow_add-n
overflow_add-n c = omega (arith, adds c)

pub loop-i-preserved : goal.loop-i-preserved
loop-i-preserved c = (omega (arith, adds c), omega arith)

pub overflow_mul-result : goal.overflow_mul-result
overflow_mul-result c = omega arith
