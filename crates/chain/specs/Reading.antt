-- Document 01, "Chains" and "Refusal numbers": a chain as bytes,
-- the descriptors of its links one after another, and the order of its refusals.
use Rattle.std.specs.Prelude.{ℕ, zero, suc, Bool, not, ◌&&◌, List, [], ◌∷◌, leb, ltb, length, take, drop}
use Rattle.answer.specs.declared.Told.{Told}
use Rattle.answer.specs.Answer.{told}
use Rattle.answer.specs.Refuse.{Test, refuse}
use Rattle.element.specs.Shape.{Shape}
use Rattle.element.specs.Descriptor.{wide_of, high_of, well_made, shape_in, descriptor_length}
use Rattle.morphology.specs.Chain.{most_link_cells, most_links}
use Rattle.morphology.specs.Check.{check_of}
use Rattle.faults.specs.Verdicts.{answer_of}

-- the first of the descriptors, by its own w and h, and what follows it
unfoldable pub first_of : List ℕ → List ℕ
first_of d = take (descriptor_length d) d

unfoldable pub rest_of : List ℕ → List ℕ
rest_of d = drop (descriptor_length d) d

-- one to five links, each at most 8 wide and 8 high
abbrev pub counted : ℕ → Bool
counted k = leb 1 k && leb k most_links

abbrev pub small : ℕ → ℕ → Bool
small w h = leb w most_link_cells && leb h most_link_cells

-- one link after another (4, then 6), then following bytes (4)
unfoldable pub link_tests : ℕ → List ℕ → List Test
link_tests zero d = (ltb 0 (length d), 4) ∷ []
link_tests (suc n) d =
    (not (well_made (first_of d)), 4)
    ∷ (not (small (wide_of (first_of d)) (high_of (first_of d))), 6)
    ∷ link_tests n (rest_of d)

-- within a chain: its number (6), then its links
unfoldable pub chain_tests : ℕ → List ℕ → List Test
chain_tests k d = (not (counted k), 6) ∷ link_tests k d

-- the chain check alone starts with the element (4)
unfoldable pub check_tests : List ℕ → ℕ → List ℕ → List Test
check_tests element k chain = (not (well_made element), 4) ∷ chain_tests k chain

-- the links
unfoldable pub links_in : ℕ → List ℕ → List Shape
links_in zero d = []
links_in (suc n) d = shape_in (first_of d) ∷ links_in n (rest_of d)

-- what the check answers: the first refusal, or else the verdict, accepted or SPLIT
unfoldable pub checked : List ℕ → ℕ → List ℕ → Told
checked element k chain =
    refuse (check_tests element k chain) (told (answer_of (check_of (shape_in element) (links_in k chain))))
