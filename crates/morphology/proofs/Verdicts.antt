-- What the check's verdict means for pictures: it accepts exactly when chained dilation and chained
-- erosion equal the element's own on every picture, at both depths, in every frame within the limits;
-- and it splits at the first offset, in row order, at which a lone echo in some frame within
-- the limits is dilated differently. What is proved of faults holds of any greatest value from 1 on.
use Prim.Native.Nat.{ℕ, ◌≤◌}
use mathlib.Core.Path.{◌≡◌, subst}
use mathlib.Core.Logic.{◌↔◌}
use mathlib.Core.List.{List}
use lib.Dec.{lit≤}
use Rattle.picture.specs.declared.Depth.{Depth}
use Rattle.picture.specs.declared.Depth.TheVariants.{OneBit, EightBit}
use Rattle.picture.specs.Frame.{Frame, top}
use Rattle.picture.specs.Bytes.{Picture}
use Rattle.element.specs.Shape.{Shape, Offset}
use Rattle.morphology.specs.Step.{Place, In}
use Rattle.morphology.specs.Operations.{erode, dilate}
use Rattle.morphology.specs.Chain.{Fault, Accepted, First, Chained, erode_all, dilate_all}
use Rattle.morphology.specs.Check.{value, Taken, Split, check_of, Says}
use Rattle.morphology.specs.Demand.{Same, Differs, lone}
use Rattle.morphology.proofs.Places.{FaultAt}
use Rattle.morphology.proofs.Bridge.{fault_to}
use Rattle.morphology.proofs.Check.{check_says, says_once}
use Rattle.morphology.proofs.Agree.{same_dilated, same_eroded, eros_some}
use Rattle.morphology.proofs.LoneEcho.{lone_le}
use Rattle.morphology.proofs.Differences.{fault_differs, differs_fault}

pub some_top : (depth : Depth) → 1 ≤ top depth
some_top OneBit = lit≤ tt
some_top EightBit = lit≤ tt

module _ (E : Shape) (Bs : List Shape) (C : Chained E Bs) where
  -- where no offset is at fault the chain does what the element does, on any picture in any frame
  module _ (none : Accepted E Bs) where
    none_at : (e : Place) → ¬ FaultAt E Bs e
    none_at e f = none (value e) (fault_to E Bs C e f)

    pub accepted_dilated : (F : Frame) (A : Picture) (p : Place) → In F p
        → dilate_all F Bs A p.x p.y ≡ dilate F E A p.x p.y
    accepted_dilated F A p i = same_dilated E Bs C none_at F A p i

    pub accepted_eroded : (most : ℕ) (F : Frame) (A : Picture) (p : Place) → In F p
        → erode_all most F Bs A p.x p.y ≡ erode most F E A p.x p.y
    accepted_eroded most F A p i =
        same_eroded E Bs C none_at F most A p i (eros_some most F Bs A C.some_links p i)

  module _ (most : ℕ) (some : 1 ≤ most) where
    -- no offset is at fault exactly where the chain does what the element does,
    -- on every picture, in every frame and at every point
    pub accepted_is_same : Accepted E Bs ↔ Same most E Bs
    accepted_is_same = (
      λ none. record {
        dilated = λ F l A b. accepted_dilated none F A;
        eroded = λ F l A b. accepted_eroded none most F A;
      },
      λ s e f.
          let d = fault_differs E Bs C most some e f in
          d.differ (s.dilated d.frame d.limits (lone most d.echo)
          (λ p i. lone_le most d.echo p) d.point d.point_in),
    )

    -- an offset is at fault exactly where in some frame some lone echo
    -- is dilated differently there by the element and by the chain
    pub fault_is_difference : (e : Offset) → Fault E Bs e ↔ Differs most E Bs e
    fault_is_difference e = (fault_differs E Bs C most some e, differs_fault E Bs C most some e)

    -- so the first offset at fault is the first at which a lone echo is dilated differently
    pub first_fault_is_first_difference : (e : Offset) → First (Fault E Bs) e ↔ First (Differs most E Bs) e
    first_fault_is_first_difference e = (
      λ f. record {
        holds = (fault_is_difference e).0 f.holds;
        none_before = λ d b x. f.none_before d b ((fault_is_difference d).1 x);
      },
      λ f. record {
        holds = (fault_is_difference e).1 f.holds;
        none_before = λ d b x. f.none_before d b ((fault_is_difference d).0 x);
      },
    )

  -- the check accepts exactly when the chain does what the element does, at both depths
  pub accepts : (check_of E Bs ≡ Taken) ↔ ((depth : Depth) → Same (top depth) E Bs)
  accepts = (
    λ e depth. (accepted_is_same (top depth) (some_top depth)).0 (subst (Says E Bs) e (check_says E Bs C)),
    λ s. says_once E Bs C (check_of E Bs) Taken (check_says E Bs C)
        ((accepted_is_same 1 (lit≤ tt)).1 (s OneBit)),
  )

  -- and it splits the chain at the first offset at which a lone echo, of any strength, is dilated differently
  pub splits : (strength : ℕ) → 1 ≤ strength → (x y : ℕ)
      → (check_of E Bs ≡ Split x y) ↔ First (Differs strength E Bs) (value (record { x = x; y = y }))
  splits strength some x y = (
    λ e. (first_fault_is_first_difference strength some _).0 (subst (Says E Bs) e (check_says E Bs C)),
    λ s. says_once E Bs C (check_of E Bs) (Split x y) (check_says E Bs C)
        ((first_fault_is_first_difference strength some _).1 s),
  )
