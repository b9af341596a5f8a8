-- A rectangle of more than one row does what its row words do: `as_box`.
-- Either way is the flat operation.
use Rattle.rectangle.proofs.Boxes.{as_box}
use Rattle.boxes.specs.Steps.Box.{is_box}
use Rattle.plan.specs.Steps.Plan.{outline_by, grows_by}
use Rattle.element.specs.declared.Outline.{Outline}
use lib.ListN.{length}
use Prim.Native.Nat.{◌≤◌}
use mathlib.Core.Bool.{true, false}
use mathlib.Core.Path.{◌≡◌, sym, ◌∙◌, subst}
use Rattle.bitways.proofs.wide_bits.Goals as goal

pub is_box-requires : goal.is_box-requires
is_box-requires c =
    subst (λ (o : Outline). o.h ≤ length c.args.words.now) (sym c.outline_of-o.ensures)
    c.requires.ready.words

pub returns-then-grows_of : goal.returns-then-grows_of
returns-then-grows_of c =
    let a = c.args in
    as_box a.words.now (outline_by a.plan) c.requires.ready.few_wide
    (subst (λ o. is_box a.words.now o.h o.w ≡ true) c.outline_of-o.ensures
    (sym c.is_box.ensures ∙ c.if-is_box.true))
    true (grows_by a.plan) true a.s.now a.t.now _ a.w a.h
    (sym c.grows_of.ensures ∙ c.if-grows_of.true) c.bits_by_plan.ensures

pub returns-then-is_box : goal.returns-then-is_box
returns-then-is_box c =
    let a = c.args in
    as_box a.words.now (outline_by a.plan) c.requires.ready.few_wide
    (subst (λ o. is_box a.words.now o.h o.w ≡ true) c.outline_of-o.ensures
    (sym c.is_box.ensures ∙ c.if-is_box.true))
    true (grows_by a.plan) false a.s.now a.t.now _ a.w a.h
    (sym c.grows_of.ensures ∙ c.if-grows_of.false) c.bits_by_plan-then-is_box.ensures
