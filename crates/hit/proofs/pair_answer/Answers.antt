-- The tests in the order of the refusals, each settled by the call before it.
-- The overlap is looked for only where both descriptors are well made.
use Rattle.answer.specs.Answer.{told}
use Rattle.hit.proofs.Pairs.{first_unmade, second_unmade, overlapping, apart}
use Rattle.element.specs.Descriptor.{well_made, shape_in}
use Rattle.morphology.specs.Overlap.{shared}
use Rattle.element.proofs.WellMade.{made_cells}
use mathlib.Core.Bool.{true}
use mathlib.Core.Path.{◌≡◌, sym, ◌∙◌}
use Rattle.hit.proofs.pair_answer.Goals as goal
use Rattle.hit.proofs.pair_answer.Goals.{Else-not-one, Else-not-two}

one : (c : Else-not-one) → well_made c.args.hit.now ≡ true
one c = sym c.well_made-one.ensures ∙ c.if-not-one.false

two : (c : Else-not-two) → well_made c.args.miss.now ≡ true
two c = sym c.well_made-two.ensures ∙ c.if-not-two.false

pub returns-then-not-one : goal.returns-then-not-one
unfolding told
returns-then-not-one c =
    let a = c.args in
    first_unmade (well_made a.hit.now) (well_made a.miss.now)
    (shared (shape_in a.hit.now) (shape_in a.miss.now))
    (sym c.well_made-one.ensures ∙ c.if-not-one.true)

pub returns-then-not-two : goal.returns-then-not-two
unfolding told
returns-then-not-two c =
    let a = c.args in
    second_unmade (well_made a.hit.now) (well_made a.miss.now)
    (shared (shape_in a.hit.now) (shape_in a.miss.now)) (one (goal.at.returns-then-not-two c).Else-not-one)
    (sym c.well_made-two.ensures ∙ c.if-not-two.true)

pub is_shared-requires : goal.is_shared-requires
is_shared-requires c =
    record {
      hit_value = made_cells _ (one (goal.at.is_shared-requires c).Else-not-one);
      miss_value = made_cells _ (two c);
    }

pub returns-then-is_shared : goal.returns-then-is_shared
unfolding told
returns-then-is_shared c =
    overlapping _ _ _ (one (goal.at.returns-then-is_shared c).Else-not-one)
    (two (goal.at.returns-then-is_shared c).Else-not-two)
    (sym c.is_shared.ensures ∙ c.if-is_shared.true)

pub returns : goal.returns
unfolding told
returns c =
    apart _ _ _ (one (goal.at.returns c).Else-not-one) (two (goal.at.returns c).Else-not-two)
    (sym c.is_shared.ensures ∙ c.if-is_shared.false)
