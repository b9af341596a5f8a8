-- A picture that is written over what has not changed is written over what there was.
use Prim.Native.Nat.{ℕ}
use mathlib.Core.Path.{◌≡◌, ap, ◌∙◌}
use mathlib.Core.List.{List}
use Rattle.picture.specs.declared.Depth.TheVariants.{EightBit}
use Rattle.picture.specs.Bytes.{Picture, written}

pub over_same : (A : Picture) (w h : ℕ) (t was u : List ℕ) → was ≡ t → u ≡ written EightBit A w h was
    → u ≡ written EightBit A w h t
over_same A w h t was u e eu = eu ∙ ap (λ l. written EightBit A w h l) e
