-- Where the set cells and the origin span more than the sums of five links, no chain is accepted.
use Prim.Native.Nat.{ℕ, ◌+◌, ◌-◌, ◌*◌, ◌≤◌}
use mathlib.Core.Path.{◌≡◌, sym, ap, ◌∙◌, subst}
use mathlib.Core.Bool.{true}
use mathlib.Core.List.{List, [], ◌∷◌}
use native.Mathlib.Omega.{arith}
use lib.Dec.{T}
use lib.ListN.{length, get_or}
use Rattle.picture.specs.Frame.{Frame}
use Rattle.answer.specs.Answer.{centre}
use Rattle.basics.specs.Bytes.{Bytes}
use Rattle.element.specs.Shape.{Shape}
use Rattle.element.specs.Descriptor.{wide_of, high_of, origin_column_of, origin_row_of, well_made, shape_in}
use Rattle.element.specs.Record.{cell_on, shape_of}
use Rattle.element.proofs.Cells.{cell_same}
use Rattle.element.proofs.WellMade.{cells_tell, made_cells}
use Rattle.morphology.specs.Step.{Place, Cell, In}
use Rattle.morphology.specs.Chain.{AllFit, Chained, most_link_cells}
use Rattle.morphology.specs.Check.{still, total, back_x, forth_x, back_y, forth_y}
use Rattle.morphology.proofs.Places.{Walk, FaultAt}
use Rattle.morphology.proofs.Scan.{walk_range}
use Rattle.morphology.proofs.Agree.{to_chain}
use Rattle.hulls.specs.Extent.{extent_of}
use Rattle.hulls.specs.Hull.{hull_in, rows_in, side_of, hull_by, hull_of}
use Rattle.chainfor.specs.Find.{within}
use Rattle.hulls.proofs.Hulls.{rows_in_lem}
use Rattle.chainlaw.proofs.Measured.{Inside, all_inside, within_near}

-- the sums of links span 7 columns and rows for each, and one more
pub spans : (Bs : List Shape) → AllFit most_link_cells Bs
    → (back_x Bs + forth_x Bs ≤ 7 * length Bs) × (back_y Bs + forth_y Bs ≤ 7 * length Bs)
unfolding total
spans [] f = (omega arith, omega arith)
spans (B ∷ Bs) f = let g = f.0 in let s = spans Bs f.1 in (omega arith, omega arith)

-- how far the links lead from the origin, each set cell of the element lies at the most
pub record Held (E : Shape) (Bs : List Shape) (x y : ℕ) : Type 0 where
  pub left : E.origin_column ≤ x + back_x Bs
  pub right : x ≤ E.origin_column + forth_x Bs
  pub top : E.origin_row ≤ y + back_y Bs
  pub bottom : y ≤ E.origin_row + forth_y Bs

module _ (E : Shape) (Bs : List Shape) (C : Chained E Bs) (none : (e : Place) → ¬ FaultAt E Bs e) where
  -- the offset of a set cell, as a place; in this frame it and (0, 0) are points
  place_of : Cell E → Place
  place_of k =
      record { x = centre + k.column - E.origin_column; y = centre + k.row - E.origin_row }

  bytes : Frame
  bytes = record { pings = 2 * centre; bins = 2 * centre }

  -- the chain leads to it
  reached : (k : Cell E) → Walk (In bytes) Bs still (place_of k)
  unfolding place_of bytes
  reached k =
      let f = C.element in
      to_chain E Bs C bytes (place_of k) still (place_of k)
      (record { ping = omega arith; bin = omega arith }) (record { ping = omega arith; bin = omega arith })
      (record { across = omega arith; down = omega arith }) (none (place_of k))
      (record { cell = k; across = omega arith; down = omega arith })

  pub cells_held : (k : Cell E) → Held E Bs k.column k.row
  unfolding place_of bytes
  cells_held k =
      let f = C.element in
      let p = walk_range (In bytes) most_link_cells Bs still (place_of k) C.links (reached k) in
      record { left = omega arith; right = omega arith; top = omega arith; bottom = omega arith }

-- ---- a side that holds all of it is within reach
side_near : (o f l back forth : ℕ) → back + forth ≤ 35 → o - back ≤ f → l ≤ o + forth
    → (side_of o f l).span ≤ 35
unfolding side_of
side_near o f l back forth h a b = omega (arith, h, a, b)

module _ (d : List ℕ) (bytes : Bytes d) (made : well_made d ≡ true) (Bs : List Shape)
    (C : Chained (shape_in d) Bs) (none : (e : Place) → ¬ FaultAt (shape_in d) Bs e) where
  inside : Inside (extent_of (rows_in d) (wide_of d) (high_of d))
      (origin_column_of d - back_x Bs) (origin_column_of d + forth_x Bs) (origin_row_of d - back_y Bs)
      (origin_row_of d + forth_y Bs)
  unfolding shape_in shape_of
  inside =
      let t = cells_tell d (made_cells d made) in
      all_inside _ _ _ _ (omega (arith, t.column, t.few_wide)) (omega (arith, t.row, t.few_high))
      (rows_in d) (wide_of d) (high_of d)
      (λ x y hx hy on.
      let h = cells_held (shape_in d) Bs C none (record {
        column = x;
        row = y;
        in_width = hx;
        in_height = hy;
        set = subst T (ap (λ l. cell_on (get_or l y 0) x) (sym (rows_in_lem d))
            ∙ cell_same d bytes (made_cells d made) x y hx hy) on;
      }) in (
        omega (arith, h.left),
        h.right,
        omega (arith, h.top),
        h.bottom,
      ))

  pub accepted_within : within (hull_in d) ≡ true
  unfolding hull_in hull_of hull_by
  accepted_within =
      let s = spans Bs C.links in
      let n = C.few_links in
      let i = inside in
      within_near (hull_in d)
      (side_near _ _ _ (back_x Bs) (forth_x Bs) (omega (arith, s.0, n)) i.left i.right)
      (side_near _ _ _ (back_y Bs) (forth_y Bs) (omega (arith, s.1, n)) i.top i.bottom)
