-- The rows of bits, taken as they are, are what the definitions say of an outline and its row words;
-- and an element within its limits goes into a plan, and comes out of it.
use Prim.Native.Nat.{ℕ}
use mathlib.Core.Path.{◌≡◌, sym, ap, ap₂, ◌∙◌, subst}
use native.Mathlib.Omega.{arith}
use mathlib.Core.Bool.{Bool, false}
use mathlib.Core.List.{List}
use Rattle.picture.specs.declared.Depth.{Depth}
use Rattle.picture.specs.declared.Depth.TheVariants.{OneBit}
use Rattle.picture.specs.Frame.{frame}
use Rattle.picture.specs.Points.{value_at}
use Rattle.picture.specs.Bytes.{written, faced}
use Rattle.element.specs.declared.Outline.{Outline}
use Rattle.element.specs.Record.{shape_by}
use Rattle.morphology.specs.Operations.{flat}
use Rattle.rows.specs.Steps.Ready.{Ready}
use Rattle.rows.specs.Steps.Ways.{swept_by}
use Rattle.plan.specs.Steps.Plan.{Small, plan_of, outline_by, grows_by}
use Rattle.plan.proofs.Plans.{plan_outline, plan_grows}
use Rattle.bitrow.specs.Steps.Row.{swept_bits}

pub rows_of_bits : (w h : ℕ) (o : Outline) (words s t u : List ℕ) (grows : Bool)
    → u ≡ written OneBit (swept_bits (record { over = false; grows = grows }) s w h o words) w h t
    → u ≡ written OneBit (swept_by grows flat 1 (frame w h) (shape_by o words) (value_at OneBit s w)) w h t
unfolding swept_bits faced
rows_of_bits w h o words s t u grows eu = eu

-- an element within its limits goes into a plan
pub ready_small : (depth : Depth) (ns nw w h : ℕ) (o : Outline) → Ready depth ns nw w h o → Small o
ready_small depth ns nw w h o p =
    record {
      wide = omega (arith, p.few_wide);
      high = omega (arith, p.few_high);
      column = omega (arith, p.few_wide, p.column);
      row = omega (arith, p.few_high, p.row);
    }

-- what is asked of the element, and what is made by it, at the plan
pub ready_planned : (grows : Bool) (depth : Depth) (ns nw w h : ℕ) (o : Outline)
    → Ready depth ns nw w h o → Ready depth ns nw w h (outline_by (plan_of grows o))
ready_planned grows depth ns nw w h o p =
    subst (Ready depth ns nw w h) (sym (plan_outline o (ready_small depth ns nw w h o p) grows)) p

pub made_planned : (grows : Bool) (plan w h : ℕ) (o : Outline) (words s t u : List ℕ) → Small o
    → plan ≡ plan_of grows o
    → u ≡ written OneBit (swept_by (grows_by plan) flat 1 (frame w h) (shape_by (outline_by plan) words)
    (value_at OneBit s w)) w h t
    → u ≡ written OneBit (swept_by grows flat 1 (frame w h) (shape_by o words) (value_at OneBit s w)) w h t
made_planned grows plan w h o words s t u small e eu =
    eu ∙ ap₂ (λ g o. written OneBit (swept_by g flat 1 (frame w h) (shape_by o words)
    (value_at OneBit s w)) w h t)
    (ap grows_by e ∙ plan_grows o small grows) (ap outline_by e ∙ plan_outline o small grows)
