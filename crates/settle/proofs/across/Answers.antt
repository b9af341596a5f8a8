-- The machine's own expression, where the one point before the word goes to its top: `sides_machine`.
-- The word and the two bytes beside it are those of the definition.
use Rattle.settle.proofs.Loops.{sides_machine}
use Rattle.settle.specs.Steps.Words.{sides, across_of}
use Prim.Native.Nat.{◌%◌, ◌/◌, ◌^◌}
use mathlib.Core.Path.{◌∙◌}
use native.Mathlib.Omega.{arith}
use Rattle.settle.proofs.across.Goals as goal

pub returns : goal.returns
unfolding across_of
returns c =
    let a = c.args in
    sides_machine c.word-v.result c.byte_before-before.result c.byte_from-after.result
    a.k
    (omega arith) (omega arith)
    ∙ λ i. sides (c.word-v.ensures i) (c.byte_before-before.ensures i % 2)
    (c.byte_from-after.ensures i / 2 ^ 7) a.k
