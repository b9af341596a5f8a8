-- What an operation leaves, by the one that is asked for.
use Prim.Native.Nat.{ℕ}
use mathlib.Core.Path.{◌≡◌, sym, subst}
use mathlib.Core.List.{List}
use Rattle.picture.specs.declared.Depth.{Depth}
use Rattle.picture.specs.Bytes.{Picture, written}
use Rattle.element.specs.Shape.{Shape}
use Rattle.work.specs.declared.Operation.{Operation}
use Rattle.work.specs.Work.{operated, middle_in}

-- the buffers u and v, which were r and m
abbrev pub Leaves : Depth → ℕ → ℕ → Shape → Picture → List ℕ → List ℕ → List ℕ → List ℕ → Operation → Type 0
Leaves depth w h B A r m u v op =
    (u ≡ written depth (operated op depth w h B A) w h r) × (v ≡ middle_in op depth w h B A m)

pub as_asked : (depth : Depth) (w h : ℕ) (B : Shape) (A : Picture) (r m u v : List ℕ) (asked op : Operation)
    → asked ≡ op
    → Leaves depth w h B A r m u v op → Leaves depth w h B A r m u v asked
as_asked depth w h B A r m u v asked op e l = subst (Leaves depth w h B A r m u v) (sym e) l
