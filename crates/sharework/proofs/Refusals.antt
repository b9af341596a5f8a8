-- What is known of the refusals of a put, for the check to cite.
use Prim.Native.Nat.{ℕ, ◌≤◌, ◌<◌}
use mathlib.Core.List.{List}
use native.Mathlib.Omega.{arith}
use mathlib.Core.Path.{◌≡◌, refl}
use Rattle.answer.specs.declared.Refusal.TheVariants.{Shape, Full}
use Rattle.answer.specs.Answer.{plain, told_refusal}
use Rattle.share.specs.Share.{sum_to, length_at}
use Rattle.share.proofs.Sums.{sum_within}
use Rattle.share.proofs.Checks.{absent_told, others_is, whole_sum}

pub shape_told : told_refusal Shape ≡ plain 4
unfolding told_refusal
shape_told = refl

pub full_told : told_refusal Full ≡ plain 13
unfolding told_refusal
full_told = refl

-- the length that is replaced is one of those that are summed
pub own_le : (s : List ℕ) (n N : ℕ) → n < N → length_at s n ≤ sum_to (length_at s) N
own_le s n N h = let q = sum_within (length_at s) n N h in omega arith

pub ruleset putting = (others_is, own_le, whole_sum, absent_told, shape_told, full_told)
