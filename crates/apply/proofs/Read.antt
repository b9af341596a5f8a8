-- The record that was read of a descriptor is within its limits,
-- and does what the definitions say of the descriptor's own element.
use Prim.Native.Nat.{ℕ, ◌+◌, ◌-◌, ◌≤◌}
use mathlib.Core.Path.{◌≡◌, sym, ap, ap₂, ◌∙◌, subst}
use mathlib.Core.Bool.{Bool, true, false, not}
use mathlib.Core.List.{List}
use native.Mathlib.Omega.{arith}
use lib.ListN.{length, take, drop, replicate, length-append, length-replicate}
use Rattle.basics.specs.Bytes.{Bytes}
use Rattle.basics.specs.Lists.{firsts}
use Rattle.basics.proofs.Lists.{length_firsts, tail_is}
use Rattle.picture.specs.declared.Depth.{Depth}
use Rattle.picture.specs.declared.Depth.TheVariants.{OneBit, EightBit}
use Rattle.picture.specs.Frame.{Frame, row_bytes, top, frame}
use Rattle.picture.specs.Bytes.{Picture, written}
use Rattle.picture.proofs.Points.{written_same}
use Rattle.element.specs.declared.Element.{Element}
use Rattle.element.specs.declared.Outline.{Outline}
use Rattle.element.specs.Descriptor.{most_cells, wide_of, high_of, cells_end}
use Rattle.element.specs.Descriptor.{heights_of, cells_made, shape_in, weighted_in}
use Rattle.element.specs.Record.{element_of, shape_of, weighted_of}
use Rattle.element.specs.Steps.Words.{row_word, row_words}
use Rattle.element.proofs.WellMade.{cells_tell}
use Rattle.element.proofs.Cells.{cell_same, weighted_cell_same}
use Rattle.morphology.specs.Operations.{flat}
use Rattle.morphology.specs.Weighted.{lower, raise}
use Rattle.morphology.proofs.Cells.{erode_cells, dilate_cells}
use Rattle.rows.specs.Steps.Ways.{weigh_by, swept_by}
use Rattle.byterow.specs.Steps.Row.{heightened_by}
use Rattle.apply.specs.Steps.Applied.{Fitting, flat_by, flat_twice_by}
use Rattle.apply.specs.Steps.Applied.{weighted_by, weighted_twice_by}
use Rattle.apply.proofs.Twice.{swept_alike}

-- the outline and the row words, read by themselves, make up the descriptor's record
pub parts_read : (d rows : List ℕ) (o : Outline) → o ≡ (element_of d).outline → rows ≡ (element_of d).rows
    → ◌≡◌ {A = Element} (record { outline = o; rows = rows }) (element_of d)
parts_read d rows o eo er = λ i. record { outline = eo i; rows = er i }

module _ (d : List ℕ) (m : cells_made d ≡ true) where
  words_length : length (element_of d).rows ≡ most_cells
  unfolding element_of row_words
  words_length =
      let t = cells_tell d m in
      length-append (firsts (row_word d n) (high_of d)) (replicate (most_cells - high_of d) 0)
      ∙ ap₂ (λ a b. a + b) (length_firsts (row_word d n) (high_of d))
      (length-replicate (most_cells - high_of d) 0)
      ∙ whole (high_of d) t.few_high
    where
      n : ℕ
      n = row_bytes OneBit (wide_of d)

      whole : (h : ℕ) → h ≤ most_cells → h + (most_cells - h) ≡ most_cells
      whole h l = omega arith

  pub words_long : (e : Element) → e ≡ element_of d → length e.rows ≡ most_cells
  words_long e q = ap (λ (e : Element). length e.rows) q ∙ words_length

  fitting_own : Fitting (element_of d).outline (length (element_of d).rows)
  unfolding element_of
  fitting_own =
      let t = cells_tell d m in
      record {
        few_wide = t.few_wide;
        few_high = t.few_high;
        column = t.column;
        row = t.row;
        words = subst (λ n. high_of d ≤ n) (sym words_length) t.few_high;
      }

  pub fitting : (e : Element) → e ≡ element_of d → Fitting e.outline (length e.rows)
  fitting e q = subst (λ (e : Element). Fitting e.outline (length e.rows)) (sym q) fitting_own

  -- ---- a flat operation, and a weighted one by the heights in the descriptor's own bytes
  module _ (b : Bytes d) (top : ℕ) (F : Frame) (A : Picture) (x y : ℕ) where
    pub flat_read : (grows : Bool)
        → swept_by grows flat top F (shape_of (element_of d)) A x y
        ≡ swept_by grows flat top F (shape_in d) A x y
    unfolding shape_of shape_in element_of
    flat_read true =
        dilate_cells (shape_of (element_of d)) (shape_in d).has
        (λ c r lc lr. cell_same d b m c r lc lr) F A x y flat
    flat_read false =
        erode_cells (shape_of (element_of d)) (shape_in d).has
        (λ c r lc lr. cell_same d b m c r lc lr) F A x y flat top

    pub weighted_read : (grows : Bool)
        → swept_by grows (weigh_by grows) top F (heightened_by (element_of d).outline (element_of d).rows
        (heights_of d)) A x y
        ≡ swept_by grows (weigh_by grows) top F (weighted_in d) A x y
    unfolding heightened_by weighted_of weighted_in element_of
    weighted_read true =
        dilate_cells (weighted_of (element_of d) d) (weighted_in d).has
        (λ c r lc lr. weighted_cell_same d b m c r lc lr) F A x y raise
    weighted_read false =
        erode_cells (weighted_of (element_of d) d) (weighted_in d).has
        (λ c r lc lr. weighted_cell_same d b m c r lc lr) F A x y lower top

-- ---- what is written by the element that was read is what the definitions say of the descriptor's:
-- where its heights are
module _ (d : List ℕ) (m : cells_made d ≡ true) (e : Element) (q : e ≡ element_of d)
    (n : ℕ) (en : n ≡ cells_end e.outline.w e.outline.h) where
  end_is : n ≡ cells_end (wide_of d) (high_of d)
  unfolding element_of
  end_is = en ∙ ap (λ (e : Element). cells_end e.outline.w e.outline.h) q

  pub heights_read : take (length d - n) (drop n d) ≡ heights_of d
  heights_read = tail_is d n ∙ ap (λ n. drop n d) end_is

  pub heights_within : n ≤ length d
  heights_within = subst (λ n. n ≤ length d) (sym end_is) (cells_tell d m).rows

module _ (d : List ℕ) (m : cells_made d ≡ true) (b : Bytes d)
    (e : Element) (q : e ≡ element_of d) (grows : Bool) (w h : ℕ)
    (A : Picture) (t u : List ℕ) where
  module _ (depth : Depth) where
    pub flat_written : u ≡ written depth (flat_by grows depth w h e.outline e.rows A) w h t
        → u ≡ written depth (swept_by grows flat (top depth) (frame w h) (shape_in d) A) w h t
    flat_written eu =
        eu ∙ ap (λ (e : Element). written depth (flat_by grows depth w h e.outline e.rows A) w h t) q
        ∙ written_same depth _ _ w h t (λ x y lx ly. flat_read d m b (top depth) (frame w h) A x y grows)

    pub flat_twice_written : u ≡ written depth (flat_twice_by grows depth w h e.outline e.rows A) w h t
        → u ≡ written depth
        (swept_by (not grows) flat (top depth) (frame w h) (shape_in d)
        (swept_by grows flat (top depth) (frame w h) (shape_in d) A)) w h t
    flat_twice_written eu =
        eu ∙ ap (λ (e : Element). written depth (flat_twice_by grows depth w h e.outline
        e.rows A) w h t) q
        ∙ written_same depth _ _ w h t (λ x y lx ly.
        flat_read d m b (top depth) (frame w h) _ x y (not grows)
        ∙ swept_alike (not grows) flat (top depth) (frame w h) (shape_in d) _ _
        (λ p i. flat_read d m b (top depth) (frame w h) A p.x p.y grows) x y)

  module _ (hs : List ℕ) (eh : hs ≡ heights_of d) where
    pub weighted_written : u ≡ written EightBit (weighted_by grows w h e.outline e.rows hs A) w h t
        → u ≡ written EightBit (swept_by grows (weigh_by grows) 255 (frame w h) (weighted_in d) A) w h t
    weighted_written eu =
        eu ∙ ap₂ (λ (e : Element) hs. written EightBit (weighted_by grows w h e.outline
        e.rows hs A) w h t) q eh
        ∙ written_same EightBit _ _ w h t (λ x y lx ly. weighted_read d m b 255 (frame w h) A x y grows)

    pub weighted_twice_written : u ≡ written EightBit (weighted_twice_by grows w h e.outline
        e.rows hs A) w h t
        → u ≡ written EightBit
        (swept_by (not grows) (weigh_by (not grows)) 255 (frame w h) (weighted_in d)
        (swept_by grows (weigh_by grows) 255 (frame w h) (weighted_in d) A))
        w h t
    weighted_twice_written eu =
        eu ∙ ap₂ (λ (e : Element) hs. written EightBit (weighted_twice_by grows w h e.outline
        e.rows hs A) w h t) q eh
        ∙ written_same EightBit _ _ w h t (λ x y lx ly.
        weighted_read d m b 255 (frame w h) _ x y (not grows)
        ∙ swept_alike (not grows) (weigh_by (not grows)) 255 (frame w h) (weighted_in d) _ _
        (λ p i. weighted_read d m b 255 (frame w h) A p.x p.y grows) x y)
