-- What a cell makes of a value by its height; at height 0 a byte stays as it is.
use Prim.Native.Nat.{ℕ, suc, ◌≤◌}
use mathlib.Core.Path.{◌≡◌, refl, sym, ap, ap₂, ◌∙◌}
use mathlib.Core.Bool.{Bool, true, false}
use mathlib.Core.List.{List, [], ◌∷◌}
use native.Mathlib.Omega.{arith}
use Rattle.basics.specs.Bytes.{Bytes}
use Rattle.basics.specs.Zip.{zip_in}
use Rattle.picture.specs.Frame.{Frame}
use Rattle.picture.specs.Bytes.{Picture}
use Rattle.element.specs.Shape.{Shape}
use Rattle.morphology.specs.Step.{Place}
use Rattle.morphology.specs.Operations.{flat}
use Rattle.morphology.specs.Order.{Bounded}
use Rattle.morphology.proofs.Weights.{lower_zero, raise_zero}
use Rattle.morphology.proofs.Order.{erode_same, dilate_same}
use Rattle.rows.specs.Steps.Ways.{weigh_by, swept_by}
use Rattle.rows.specs.Steps.Fold.{join_by}

weigh_zero : (grows : Bool) (g v : ℕ) → g ≡ 0 → v ≤ 255 → weigh_by grows g v ≡ v
weigh_zero true g v e l = ap (λ g. weigh_by true g v) e ∙ raise_zero v l
weigh_zero false g v e l = ap (λ g. weigh_by false g v) e ∙ lower_zero v l

-- bytes joined as they are
zip_zero : (grows : Bool) (g : ℕ) → g ≡ 0 → (l bs : List ℕ) → Bytes bs
    → zip_in (join_by grows) l bs ≡ zip_in (λ a b. join_by grows a (weigh_by grows g b)) l bs
unfolding zip_in
zip_zero grows g e [] bs bytes = refl
zip_zero grows g e (x ∷ l) [] bytes = refl
zip_zero grows g e (x ∷ l) (b ∷ bs) bytes =
    let byte = bytes 0 in
    ap₂ (λ (v : ℕ) (t : List ℕ). join_by grows x v ∷ t) (sym (weigh_zero grows g b e (omega arith)))
    (zip_zero grows g e l bs (λ i. bytes (suc i)))

pub joined_plain : (grows : Bool) (g : ℕ) (l bs u : List ℕ) → g ≡ 0 → Bytes bs → u
    ≡ zip_in (join_by grows) l bs
    → u ≡ zip_in (λ a b. join_by grows a (weigh_by grows g b)) l bs
joined_plain grows g l bs u q bytes e = e ∙ zip_zero grows g q l bs bytes

-- an element whose heights are 0 does what it does flat
pub unweighed : (grows : Bool) (top : ℕ) (F : Frame) (B : Shape) (A : Picture) → Bounded 255 F A
    → ((c r : ℕ) → B.height c r ≡ 0)
    → (p : Place)
    → swept_by grows (weigh_by grows) top F B A p.x p.y ≡ swept_by grows flat top F B A p.x p.y
unweighed true top F B A b e p =
    dilate_same (weigh_by true) flat F B A A p
    (λ q i s. weigh_zero true _ _ (e s.cell.column s.cell.row) (b q i))
unweighed false top F B A b e p =
    erode_same (weigh_by false) flat F B A A p top
    (λ q i s. weigh_zero false _ _ (e s.cell.column s.cell.row) (b q i))
