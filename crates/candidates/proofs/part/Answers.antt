-- At most 7 by 5, so that the product does not wrap.
-- The rest is the definition, number by number.
use native.Mathlib.Omega.{arith}
use native.Mathlib.Nat.{mul-le-mul}
use Rattle.candidates.specs.Candidates as spec
use Rattle.candidates.proofs.part.Goals as goal

pub overflow_mul-most : goal.overflow_mul-most
overflow_mul-most c =
    omega (
      arith,
      mul-le-mul {n₁ = c.args.most} {m₁ = c.args.i} {n₂ = 7} {m₂ =
          5} (omega arith) (omega arith),
    )

pub returns : goal.returns
unfolding spec.part
returns c = (omega arith, omega arith)
