-- The first two by their numbers, the others by quotient and rest.
-- 7 less something is at most 7.
use native.Mathlib.Omega.{arith}
use mathlib.Core.Path.{sym}
use Rattle.candidates.proofs.Numbers.{try_first, try_second, try_other}
use Rattle.candidates.proofs.try_no.Goals as goal

pub returns-then-t-eq0 : goal.returns-then-t-eq0
returns-then-t-eq0 c = (
  sym (try_first _ (omega arith)),
  record {
    few_side = omega arith;
    few_origin =
        omega arith;
    few_cut = omega arith;
  },
)

pub returns-then-t-eq1 : goal.returns-then-t-eq1
returns-then-t-eq1 c = (
  sym (try_second _ (omega arith)),
  record {
    few_side = omega arith;
    few_origin =
        omega arith;
    few_cut = omega arith;
  },
)

pub returns : goal.returns
returns c = (
  sym (try_other _ _ _ (λ e. omega arith) (λ e. omega arith) (omega arith)
      (omega arith)),
  record { few_side = omega arith; few_origin = omega arith; few_cut = omega arith },
)
