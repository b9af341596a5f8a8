-- The links that are read.
use Rattle.std.specs.Prelude.{ℕ, zero, suc, ◌≡◌, cond, List, [], ◌∷◌, take, Result, Ok, Err, IfOk}
use Rattle.answer.specs.declared.Told.{Told}
use Rattle.answer.specs.declared.Refusal.{Refusal}
use Rattle.answer.specs.declared.Refusal.TheVariants.{Shape, Chain}
use Rattle.answer.specs.Answer.{told}
use Rattle.element.specs.Descriptor.{wide_of, high_of, well_made}
use Rattle.element.specs.Record.{element_of}
use Rattle.reach.specs.declared.Link.{Link}
use Rattle.reach.specs.Steps.Links.{link_of}
use Rattle.chain.specs.Reading.{first_of, rest_of, small}

-- one descriptor: its link, or SHAPE, or CHAIN
unfoldable pub link_read : List ℕ → Result Link Refusal
link_read d =
    cond (well_made d) (cond (small (wide_of d) (high_of d)) (Ok (link_of (element_of d))) (Err Chain))
    (Err Shape)

unfoldable pub held_in : ℕ → List ℕ → List Link
held_in zero d = []
held_in (suc n) d = link_of (element_of (first_of d)) ∷ held_in n (rest_of d)

-- the answer, and where it is done the first k links
pub record ReadAs (answer : Told) (k : ℕ) (d : List ℕ) (r : Result (List Link) Refusal) : Type 0 where
  pub answered : told r ≡ answer
  pub links : IfOk r (λ all. take k all ≡ held_in k d)
