-- What comes back, packed in one number.
use Prim.Native.Nat.{ℕ, ◌+◌, ◌*◌, ◌^◌}
use mathlib.Core.Path.{◌≡◌, ap, ap₂, ◌∙◌}
use Rattle.std.specs.Prelude.{Result}
use Rattle.answer.specs.declared.Refusal.{Refusal}
use Rattle.answer.specs.Answer.{told}
use Rattle.answer.specs.Packed.{packed}
use Rattle.regions.specs.Listing.{regions_of}
use Rattle.nesting.specs.Nesting.{nest_answer, regions_in, GivenBack}
use Rattle.hostnest.specs.Nest.{nest_number}

pub nest_packed : (R : ℕ → ℕ) (w h n len : ℕ) (r : Result ℕ Refusal) (k : ℕ) → k ≡ packed (told r)
    → GivenBack (nest_answer R w h n len) (regions_of R (h * w)) r
    → k + regions_in r * 2 ^ 16 ≡ nest_number R w h n len
unfolding nest_number
nest_packed R w h n len r k e g = ap₂ (λ k m. k + m * 2 ^ 16) (e ∙ ap packed g.answer) g.regions
