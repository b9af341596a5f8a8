-- The tests in the order of the refusals, each settled by the call before it.
-- Where the element and the number pass, the rest is judged of the links that were read.
use mathlib.Core.Path.{◌≡◌, refl, sym, ◌∙◌}
use mathlib.Core.Bool.{true}
use Rattle.answer.specs.Answer.{told, told_refusal}
use Rattle.element.specs.Descriptor.{well_made}
use Rattle.chain.specs.Reading.{counted, checked}
use Rattle.std.proofs.lemmas.Result.{err_from_is_err_and}
use Rattle.answer.proofs.Variants.{handed_on}
use Rattle.chain.proofs.Reading.{read_passed}
use Rattle.chain.proofs.Checking.{check_unmade, check_miscounted, few_links, check_refused}
use Rattle.chain.proofs.check_chain.Goals as goal
use Rattle.chain.proofs.check_chain.Goals.{Else-not-is_counted, Else-not-well_made}

made : (c : Else-not-well_made) → well_made c.args.element.now ≡ true
made c = sym c.well_made.ensures ∙ c.if-not-well_made.false

right : (c : Else-not-is_counted) → counted c.args.links ≡ true
right c = sym c.is_counted.ensures ∙ c.if-not-is_counted.false

pub returns-then-not-well_made : goal.returns-then-not-well_made
unfolding checked told told_refusal
returns-then-not-well_made c =
    check_unmade _ _ _ _ _
    (sym c.well_made.ensures ∙ c.if-not-well_made.true) refl

pub returns-then-not-is_counted : goal.returns-then-not-is_counted
unfolding checked told told_refusal
returns-then-not-is_counted c =
    check_miscounted _ _ _ _ (made (goal.at.returns-then-not-is_counted c).Else-not-well_made)
    (sym c.is_counted.ensures ∙ c.if-not-is_counted.true)

pub read_links-requires : goal.read_links-requires
read_links-requires c = few_links _ (right c)

pub returns-in_err-held : goal.returns-in_err-held
unfolding checked
returns-in_err-held c =
    handed_on _ _ _ c.in_err-held.was (err_from_is_err_and c.from_residual.result c.from_residual.ensures.1)
    ∙ check_refused _ _ _ _ (made (goal.at.returns-in_err-held c).Else-not-well_made)
    (right (goal.at.returns-in_err-held c).Else-not-is_counted) _ _ c.read_links.ensures c.in_err-held.was

pub judged-requires : goal.judged-requires
judged-requires c =
    let passed = read_passed _ _ _ _ c.in_ok-held.was c.read_links.ensures in
    record {
      element_value = (
        made (goal.at.judged-requires c).Else-not-well_made,
        right (goal.at.judged-requires c).Else-not-is_counted,
      );
      made = passed.0;
      held = passed.1;
    }
