-- What a call gives where it is done, as one equation with the 0 where it is refused.
use Rattle.std.specs.Prelude.{Result, Ok, Err, IfOk}
use Prim.Native.Nat.{ℕ}
use mathlib.Core.Path.{◌≡◌, sym, ap, ◌∙◌}
use mathlib.Core.Bool.{cond}
use Rattle.answer.specs.declared.Refusal.{Refusal}
use Rattle.answer.specs.declared.Told.{Told}
use Rattle.answer.specs.Answer.{told, told_refusal, plain, is_done}
use Rattle.answer.proofs.Variants.{refused_undone}
use Rattle.demands.specs.Given.{given}

pub given_is : {A : Type 0} (f : A → ℕ) (t : Told) (n : ℕ) (r : Result A Refusal) → told r ≡ t
    → IfOk r (λ x. f x ≡ n)
    → given f r ≡ cond (is_done t) n 0
unfolding told plain told_refusal
given_is f t n (Ok x) e p = p ∙ ap (λ (u : Told). cond (is_done u) n 0) e
given_is f t n (Err s) e p =
    sym (ap (λ b. cond b n 0) (refused_undone s)) ∙ ap (λ (u : Told). cond (is_done u) n 0) e
