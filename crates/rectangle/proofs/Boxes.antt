-- An element whose row words are runs of all its cells does what the rectangle does.
use Prim.Native.Nat.{ℕ, ◌-◌, ◌≤◌, ◌<◌}
use mathlib.Core.Path.{◌≡◌, sym, ap, ◌∙◌}
use mathlib.Core.Bool.{Bool, true, false}
use mathlib.Core.List.{List}
use native.Mathlib.Omega.{arith}
use lib.Dec.{eqb}
use lib.ListN.{get_or}
use borrow.Author.Tests.{eqb-true, eq-eqb}
use Rattle.basics.specs.Bits.{bit}
use Rattle.basics.proofs.Tests.{all_at}
use Rattle.picture.specs.Frame.{top, frame}
use Rattle.picture.specs.Points.{value_at}
use Rattle.picture.specs.Bytes.{written}
use Rattle.picture.proofs.Points.{written_same}
use Rattle.element.specs.declared.Outline.{Outline}
use Rattle.element.specs.Descriptor.{most_cells}
use Rattle.element.specs.Record.{cell_on, shape_of, shape_by}
use Rattle.morphology.specs.Operations.{flat}
use Rattle.morphology.proofs.Cells.{erode_cells, dilate_cells}
use Rattle.rows.specs.Steps.Ways.{swept_by}
use Rattle.packedline.specs.Steps.Cells.{run_word}
use Rattle.packedline.proofs.Covers.{run_on}
use Rattle.joins.specs.Steps.Joins.{depth_if}
use Rattle.boxes.specs.Steps.Box.{is_box}
use Rattle.boxlaw.specs.Steps.Box.{box_shape, boxed}

module _ (words : List ℕ) (o : Outline) (few : o.w ≤ most_cells) (box : is_box words o.h o.w ≡ true)
  where
    cells_on : (c r : ℕ) → c < o.w → r < o.h → cell_on (get_or words r 0) c ≡ true
    unfolding is_box
    cells_on c r hc hr =
        ap (λ n. cell_on n c)
        (eqb-true (get_or words r 0) (run_word o.w)
        (all_at (λ r. eqb (get_or words r 0) (run_word o.w)) o.h box r hr))
        ∙ eq-eqb (bit (run_word o.w) (63 - c)) 1 (run_on o.w (63 - c) (omega arith) (omega arith))

    pub box_same : (packed grows : Bool) (s : List ℕ) (w h x y : ℕ)
        → boxed packed grows s w h o x y
        ≡ swept_by grows flat (top (depth_if packed)) (frame w h) (shape_by o words)
        (value_at (depth_if packed) s w) x y
    unfolding boxed box_shape shape_of
    box_same packed true s w h x y =
        sym (dilate_cells (shape_by o words) (λ c r. true) cells_on (frame w h)
        (value_at (depth_if packed) s w) x y flat)
    box_same packed false s w h x y =
        sym (erode_cells (shape_by o words) (λ c r. true) cells_on (frame w h)
        (value_at (depth_if packed) s w) x y flat (top (depth_if packed)))

    -- and so does a picture that is written by it, the way that was found to be the one asked for
    pub as_box : (packed grows found : Bool) (s t u : List ℕ) (w h : ℕ) → grows ≡ found
        → u ≡ written (depth_if packed) (boxed packed found s w h o) w h t
        → u ≡ written (depth_if packed)
        (swept_by grows flat (top (depth_if packed)) (frame w h) (shape_by o words)
        (value_at (depth_if packed) s w)) w h t
    as_box packed grows found s t u w h q eu =
        eu
        ∙ ap (λ g. written (depth_if packed) (boxed packed g s w h o) w h t) (sym q)
        ∙ written_same (depth_if packed) _ _ w h t (λ x y lx ly. box_same packed grows s w h x y)
