-- No link is refused: the links that were read stand for the shapes of the bytes,
-- and so the verdict is the definition's.
use mathlib.Core.Path.{ap, ◌∙◌}
use native.Mathlib.Omega.{arith}
use Rattle.answer.specs.Answer.{told, plain}
use Rattle.element.proofs.WellMade.{made_cells}
use Rattle.faults.specs.Verdicts.{answer_of}
use Rattle.chain.specs.Reading.{checked}
use Rattle.chain.proofs.Checking.{check_passed, few_links, chained, same_check}
use Rattle.chain.proofs.judged.Goals as goal

pub element_at-e-requires : goal.element_at-e-requires
element_at-e-requires c = made_cells _ c.requires.element_value.0

pub check-requires : goal.check-requires
check-requires c =
    record {
      chained =
          chained _ _ _ (plain 0) c.requires.element_value.0 c.requires.element_value.1 c.requires.made
          _ c.requires.held _ c.element_at-e.ensures;
      k_le_most_links = few_links _ c.requires.element_value.1;
    }

pub returns : goal.returns
unfolding checked
returns c =
    c.check.ensures
    ∙ ap (λ v. told (answer_of v))
    (same_check _ _ _ (plain 0) c.requires.element_value.0 c.requires.element_value.1 c.requires.made
    _ c.requires.held _ c.element_at-e.ensures
    (λ i. omega (arith, c.type_inv.element i))
    (λ i. omega (arith, c.type_inv.chain i)))
    ∙ check_passed _ _ _ _ c.requires.element_value.0 c.requires.element_value.1 c.requires.made
