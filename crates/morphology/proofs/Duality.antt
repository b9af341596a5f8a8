-- Erosion and dilation under the complement within the frame.
use Prim.Native.Nat.{ℕ, ◌-◌, ◌≤◌, ◌<◌}
use mathlib.Core.Path.{◌≡◌, refl, sym, ap₂, subst₂}
use native.Mathlib.Nat.{le_antisymm}
use native.Mathlib.Omega.{arith}
use lib.Dec.{T}
use Rattle.picture.specs.Frame.{Frame}
use Rattle.picture.specs.Bytes.{Picture}
use Rattle.element.specs.Shape.{Shape}
use Rattle.morphology.specs.Step.{Place, Step}
use Rattle.morphology.specs.Operations.{Change, flat, erode_by, dilate_by, complement}
use Rattle.morphology.specs.Turned.{turned_element}
use Rattle.morphology.specs.Order.{Bounded, Holding, Mirrored}
use Rattle.morphology.proofs.Reach.{height_at, erosion, dilation, erode_top, erode_le, le_dilate}

pub flat_mirrored : (top : ℕ) → Mirrored top flat flat
flat_mirrored top g v h = refl

module _ (B : Shape) (column : B.origin_column < B.wide) (row : B.origin_row < B.high) where
  -- the turned element leads back, by a cell of the same height
  turn_back : (p q : Place) → Step (turned_element B) q p → Step B p q
  unfolding turned_element
  turn_back p q s =
      let k = s.cell in
      record {
        cell = record {
          column = B.wide - 1 - k.column;
          row = B.high - 1 - k.row;
          in_width = omega arith;
          in_height = omega arith;
          set = k.set;
        };
        across = omega arith;
        down = omega arith;
      }

  turn : (p q : Place) (s : Step B p q)
      → (t : Step (turned_element B) q p) × (height_at (turned_element B) t ≡ height_at B s)
  unfolding turned_element
  turn p q s =
      let k = s.cell in
      let ec : k.column ≡ B.wide - 1 - (B.wide - 1 - k.column) = omega arith in
      let er : k.row ≡ B.high - 1 - (B.high - 1 - k.row) = omega arith in (
        record {
          cell = record {
            column = B.wide - 1 - k.column;
            row = B.high - 1 - k.row;
            in_width = omega arith;
            in_height = omega arith;
            set = subst₂ (λ c r. T (B.has c r)) ec er k.set;
          };
          across = omega arith;
          down = omega arith;
        },
        ap₂ B.height (sym ec) (sym er),
      )

  -- the erosion of the complement is the complement of the dilation by the turned element
  pub erode_complement : (lower raise : Change) (top : ℕ) → Mirrored top lower raise
      → Holding top raise → (F : Frame) (A : Picture) → Bounded top F A → (p : Place)
      → erode_by lower top F B (complement top A) p.x p.y
      ≡ top - dilate_by raise F (turned_element B) A p.x p.y
  unfolding turned_element turn_back
  erode_complement lower raise top mirrored holds F A b p =
      le_antisymm
      (less _ _ (erode_top lower top F B (complement top A) p)
      ((dilation raise F (turned_element B) A p _).1 (λ q i s.
      let t = turn_back p q s in
      let k = rw (mirrored (height_at B t) (A q.x q.y) (b q i))
      at (erode_le lower top F B (complement top A) p q i t) in
      less' _ _ (holds (height_at B t) _ (b q i)) k)))
      ((erosion lower top F B (complement top A) p _).1 (
        omega arith,
        λ q i s.
            let t = turn p q s in
            let k : raise (height_at B s) (A q.x q.y)
            ≤ dilate_by raise F (turned_element B) A p.x p.y =
            rw t.1 at (le_dilate raise F (turned_element B) A q p i t.0) in
            rw (mirrored (height_at B s) (A q.x q.y) (b q i)) (omega arith),
      ))
    where
      less : (e d : ℕ) → e ≤ top → d ≤ top - e → e ≤ top - d
      less e d h k = omega arith

      less' : (r e : ℕ) → r ≤ top → e ≤ top - r → r ≤ top - e
      less' r e h k = omega arith
