-- Of any answer that is no split dx and dy are 0: the law of the refusals, and of what is done too.
use Prim.Native.Nat.{ℕ}
use mathlib.Core.Path.{◌≡◌, refl, ap}
use lib.IntN.{pos}
use Rattle.std.specs.Prelude.{Result, Ok, Err}
use Rattle.answer.specs.declared.Refusal.{Refusal}
use Rattle.answer.specs.declared.Refusal.TheVariants.{Split}
use Rattle.answer.specs.Answer.{plain, told}
use Rattle.answer.proofs.Variants.{plain_offset}

pub answer_offset : {A : Type 0} (a : Result A Refusal) → ((x y : ℕ) → a ≡ Err (Split x y) → ⊥)
    → (pos 0 ≡ (told a).dx) × (pos 0 ≡ (told a).dy)
unfolding told plain
answer_offset (Ok u) k = (refl, refl)
answer_offset (Err r) k = plain_offset r (λ x y e. k x y (ap Err e))
