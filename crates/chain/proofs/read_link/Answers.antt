-- The descriptor is judged as any element first, and then for its size; each test is settled by its call.
-- Where both pass, the link is that of the element that was read.
use mathlib.Core.Path.{◌≡◌, sym, ap, ◌∙◌}
use mathlib.Core.Bool.{true, false}
use Rattle.element.specs.declared.Element.{Element}
use Rattle.element.specs.Descriptor.{well_made}
use Rattle.element.proofs.WellMade.{made_cells}
use Rattle.reach.specs.Steps.Links.{link_of}
use Rattle.chain.proofs.Reading.{one_unmade, one_wide, one_held, size_of}
use Rattle.chain.proofs.read_link.Goals as goal
use Rattle.chain.proofs.read_link.Goals.{Else-not-well_made}

made : (c : Else-not-well_made) → well_made c.args.d.now ≡ true
made c = sym c.well_made.ensures ∙ c.if-not-well_made.false

pub returns-then-not-well_made : goal.returns-then-not-well_made
returns-then-not-well_made c = one_unmade _ (sym c.well_made.ensures ∙ c.if-not-well_made.true)

pub element_at-e-requires : goal.element_at-e-requires
element_at-e-requires c = made_cells _ (made c)

pub returns-then-not-is_small : goal.returns-then-not-is_small
returns-then-not-is_small c =
    one_wide _ (made (goal.at.returns-then-not-is_small c).Else-not-well_made)
    (size_of _ _ c.element_at-e.ensures false
    (sym c.is_small.ensures ∙ c.if-not-is_small.true))

pub returns : goal.returns
returns c =
    one_held _ (sym c.well_made.ensures ∙ c.if-not-well_made.false)
    (size_of _ _ c.element_at-e.ensures true
    (sym c.is_small.ensures ∙ c.if-not-is_small.false)) _
    (c.link_of.ensures ∙ ap (λ (e : Element). link_of e) c.element_at-e.ensures)
