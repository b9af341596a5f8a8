-- The results of a chained run: where each link begins,
-- the result that it gives, and that the links that were read give the same.
use Prim.Native.Nat.{ℕ, zero, suc, ◌+◌, ◌≤◌, ◌<◌}
use mathlib.Core.Path.{◌≡◌, refl, sym, ap, ◌∙◌, subst}
use mathlib.Core.Bool.{Bool, true, false}
use mathlib.Core.List.{List, [], ◌∷◌, ◌++◌}
use native.Mathlib.Omega.{arith}
use borrow.Author.Tests.{leb-true}
use native.Mathlib.Nat.{not-suc-le-zero, le_of_suc-le-suc}
use native.Mathlib.Numerals.{add-one}
use lib.Dec.{leb}
use lib.ListN.{get_or, take}
use lib.Seq.{get_or-take}
use Rattle.basics.specs.Bytes.{Bytes}
use Rattle.basics.proofs.Lists.{length_firsts, get_d_firsts}
use Rattle.basics.proofs.Tests.{both}
use Rattle.answer.specs.Answer.{plain}
use Rattle.answer.specs.Refuse.{refuse}
use Rattle.picture.specs.declared.Depth.{Depth}
use Rattle.picture.specs.declared.Depth.TheVariants.{OneBit}
use Rattle.picture.specs.Frame.{Frame, top, frame}
use Rattle.picture.specs.Points.{value_at}
use Rattle.picture.specs.Bytes.{Picture}
use Rattle.element.specs.Shape.{Shape}
use Rattle.element.specs.Descriptor.{wide_of, high_of, cells_made, well_made, shape_in}
use Rattle.element.specs.Record.{cell_on, element_of, shape_of}
use Rattle.element.proofs.WellMade.{made_cells}
use Rattle.morphology.specs.Operations.{flat, erode, dilate}
use Rattle.morphology.specs.Order.{Alike, Bounded}
use Rattle.morphology.specs.Chain.{most_link_cells, erode_all, dilate_all}
use Rattle.rows.specs.Steps.Ways.{swept_by}
use Rattle.rows.proofs.Swept.{swept_bounded}
use Rattle.element.proofs.Cells.{cell_same}
use Rattle.morphology.proofs.Cells.{erode_cells, dilate_cells}
use Rattle.apply.proofs.Read.{fitting}
use Rattle.apply.proofs.Twice.{bit_value, swept_alike}
use Rattle.reach.specs.declared.Link.{Link}
use Rattle.reach.specs.Steps.Links.{first_rows, link_by, link_of, link_shape, empty_link}
use Rattle.chain.specs.Reading.{first_of, rest_of, small, link_tests, links_in}
use Rattle.chain.specs.Steps.Records.{held_in}
use Rattle.chain.proofs.Checking.{passed_here, first_bytes, rest_bytes}
use Rattle.chained.specs.Run.{eroded, dilated}
use Rattle.chained.specs.Steps.Buffers.{Fit, by_link, results_by, made_by}

-- ---- the bytes that follow i links

unfoldable pub rest_after : ℕ → List ℕ → List ℕ
rest_after zero d = d
rest_after (suc i) d = rest_after i (rest_of d)

pub rest_more : (i : ℕ) (d : List ℕ) → rest_after (suc i) d ≡ rest_of (rest_after i d)
unfolding rest_after
rest_more zero d = refl
rest_more (suc i) d = rest_more i (rest_of d)

links_more : (i : ℕ) (d : List ℕ)
    → links_in (suc i) d ≡ links_in i d ++ (shape_in (first_of (rest_after i d)) ∷ [])
unfolding links_in rest_after
links_more zero d = refl
links_more (suc i) d = ap (λ Bs. shape_in (first_of d) ∷ Bs) (links_more i (rest_of d))

pub link_made : (k i : ℕ) (d : List ℕ) → i < k → refuse (link_tests k d) (plain 0) ≡ plain 0
    → well_made (first_of (rest_after i d)) ≡ true
unfolding link_tests rest_after
link_made zero i d l e = absurd (not-suc-le-zero l)
link_made (suc k) zero d l e =
    (passed_here (well_made (first_of d))
    (small (wide_of (first_of d)) (high_of (first_of d))) (link_tests k (rest_of d)) e).0
link_made (suc k) (suc i) d l e =
    link_made k i (rest_of d) (le_of_suc-le-suc l)
    (passed_here (well_made (first_of d))
    (small (wide_of (first_of d)) (high_of (first_of d))) (link_tests k (rest_of d)) e).1.1

pub link_small : (k i : ℕ) (d : List ℕ) → i < k → refuse (link_tests k d) (plain 0) ≡ plain 0
    → high_of (first_of (rest_after i d)) ≤ most_link_cells
unfolding link_tests rest_after
link_small zero i d l e = absurd (not-suc-le-zero l)
link_small (suc k) zero d l e =
    leb-true _ _ (both (leb (wide_of (first_of d)) most_link_cells)
    (leb (high_of (first_of d)) most_link_cells)
    (passed_here (well_made (first_of d))
    (small (wide_of (first_of d)) (high_of (first_of d))) (link_tests k (rest_of d)) e).1.0).1
link_small (suc k) (suc i) d l e =
    link_small k i (rest_of d) (le_of_suc-le-suc l)
    (passed_here (well_made (first_of d))
    (small (wide_of (first_of d)) (high_of (first_of d))) (link_tests k (rest_of d)) e).1.1

-- ---- the results

erode_last : (top : ℕ) (F : Frame) (Bs : List Shape) (B : Shape) (A : Picture)
    → erode_all top F (Bs ++ (B ∷ [])) A ≡ erode top F B (erode_all top F Bs A)
unfolding erode_all
erode_last top F [] B A = refl
erode_last top F (C ∷ Bs) B A = erode_last top F Bs B (erode top F C A)

dilate_last : (F : Frame) (Bs : List Shape) (B : Shape) (A : Picture)
    → dilate_all F (Bs ++ (B ∷ [])) A ≡ dilate F B (dilate_all F Bs A)
unfolding dilate_all
dilate_last F [] B A = refl
dilate_last F (C ∷ Bs) B A = dilate_last F Bs B (dilate F C A)

module _ (depth : Depth) (w h : ℕ) (source chain : List ℕ) where
  next : (grows : Bool) (i : ℕ)
      → results_by grows depth w h source chain (suc i)
      ≡ swept_by grows flat (top depth) (frame w h)
      (shape_in (first_of (rest_after i chain))) (results_by grows depth w h source chain i)
  unfolding eroded dilated
  next true i =
      ap (λ Bs. dilate_all (frame w h) Bs (value_at depth source w)) (links_more i chain)
      ∙ dilate_last (frame w h) (links_in i chain) _ _
  next false i =
      ap (λ Bs. erode_all (top depth) (frame w h) Bs (value_at depth source w)) (links_more i chain)
      ∙ erode_last (top depth) (frame w h) (links_in i chain) _ _

  -- each result is made of the one before it by its link
  pub result_more : (grows : Bool) (i : ℕ)
      → results_by grows depth w h source chain (i + 1)
      ≡ swept_by grows flat (top depth) (frame w h)
      (shape_in (first_of (rest_after i chain))) (results_by grows depth w h source chain i)
  result_more grows i = ap (results_by grows depth w h source chain) (add-one i) ∙ next grows i

  -- result 0 is the source
  pub result_none : (grows : Bool) → value_at depth source w ≡ results_by grows depth w h source chain 0
  unfolding eroded dilated links_in erode_all dilate_all
  result_none true = refl
  result_none false = refl

  module _ (b : Bounded (top depth) (frame w h) (value_at depth source w)) where
    -- no result has a value above the greatest
    pub result_bounded : (grows : Bool) (i : ℕ)
        → Bounded (top depth) (frame w h) (results_by grows depth w h source chain i)
    result_bounded grows zero = subst (Bounded (top depth) (frame w h)) (result_none grows) b
    result_bounded grows (suc i) =
        subst (Bounded (top depth) (frame w h)) (sym (next grows i))
        (swept_bounded grows (top depth) (frame w h) (shape_in (first_of (rest_after i chain)))
        (results_by grows depth w h source chain i) (result_bounded grows i))

-- ---- the links that were read

module _ (d : List ℕ) (m : cells_made d ≡ true) (few : high_of d ≤ most_link_cells) where
  link_fits : Fit (link_of (element_of d))
  unfolding element_of link_by first_rows
  link_fits =
      let f = fitting d m (element_of d) refl in
      record {
        few_wide = f.few_wide;
        few_high = f.few_high;
        column = f.column;
        row = f.row;
        words = subst (λ n. high_of d ≤ n) (sym (length_firsts _ most_link_cells)) few;
      }

  -- a link does what the definitions say of its descriptor's own element
  module _ (b : Bytes d) (top : ℕ) (F : Frame) (A : Picture) (x y : ℕ) where
    cell_held : (c r : ℕ) → c < wide_of d → r < high_of d
        → cell_on (get_or (link_of (element_of d)).rows r 0) c ≡ (shape_in d).has c r
    unfolding shape_in shape_of element_of link_by first_rows
    cell_held c r lc lr =
        ap (λ word. cell_on word c)
        (get_d_firsts (λ r. get_or (element_of d).rows r 0) most_link_cells r (omega arith))
        ∙ cell_same d b m c r lc lr

    link_read : (grows : Bool)
        → swept_by grows flat top F (link_shape (link_of (element_of d))) A x y
        ≡ swept_by grows flat top F (shape_in d) A x y
    unfolding shape_of shape_in element_of link_by
    link_read true =
        dilate_cells (link_shape (link_of (element_of d))) (shape_in d).has cell_held F A x y flat
    link_read false =
        erode_cells (link_shape (link_of (element_of d))) (shape_in d).has cell_held F A x y flat top

record_at : (k i : ℕ) (d : List ℕ) → i < k
    → get_or (held_in k d) i empty_link ≡ link_of (element_of (first_of (rest_after i d)))
unfolding held_in rest_after
record_at zero i d l = absurd (not-suc-le-zero l)
record_at (suc k) zero d l = refl
record_at (suc k) (suc i) d l = record_at k i (rest_of d) (le_of_suc-le-suc l)

rest_after_bytes : (i : ℕ) (d : List ℕ) → Bytes d → Bytes (rest_after i d)
unfolding rest_after
rest_after_bytes zero d b = b
rest_after_bytes (suc i) d b = rest_after_bytes i (rest_of d) (rest_bytes d b)

module _ (depth : Depth) (w h : ℕ) (source chain : List ℕ) (all : List Link) (k : ℕ) (bytes : Bytes chain)
    (made : refuse (link_tests k chain) (plain 0) ≡ plain 0) (are : take k all ≡ held_in k chain) where
  link_is : (i : ℕ) → i < k → get_or all i empty_link ≡ link_of (element_of (first_of (rest_after i chain)))
  link_is i l = sym (get_or-take k all i empty_link l) ∙ ap
      (λ es. get_or es i empty_link) are ∙ record_at k i chain l

  cells_here : (i : ℕ) → i < k → cells_made (first_of (rest_after i chain)) ≡ true
  cells_here i l = made_cells _ (link_made k i chain l made)

  pub fitting_here : (i : ℕ) → i < k → Fit (get_or all i empty_link)
  fitting_here i l = subst Fit (sym (link_is i l))
      (link_fits (first_of (rest_after i chain)) (cells_here i l) (link_small k i chain l made))

  -- they give the results of the definition
  pub made_alike : (grows : Bool) (i : ℕ) → i ≤ k
      → Alike (frame w h) (made_by grows depth w h source all i) (results_by grows depth w h source chain i)
  unfolding made_by
  made_alike grows zero l p q =
      ap (λ (A : Picture). A p.x p.y) (result_none depth w h source chain grows)
  made_alike grows (suc i) l p q =
      let d = first_of (rest_after i chain) in
      let A = made_by grows depth w h source all i in
      ap (λ (e : Link). by_link grows depth w h e A p.x p.y) (link_is i l)
      ∙ link_read d (cells_here i l) (link_small k i chain l made)
      (first_bytes _ (rest_after_bytes i chain bytes)) (top depth) (frame w h) A
      p.x p.y grows
      ∙ swept_alike grows flat (top depth) (frame w h)
      (shape_in d) A (results_by grows depth w h source chain i)
      (made_alike grows i (omega arith)) p.x p.y
      ∙ ap (λ (A : Picture). A p.x p.y) (sym (next depth w h source chain grows i))

-- a one-bit result is 0 or 1
module _ (depth : Depth) (w h : ℕ) (source : List ℕ)
    (all : List Link) (one : depth ≡ OneBit) (grows : Bool) where
  within : (i : ℕ) → Bounded (top depth) (frame w h) (made_by grows depth w h source all i)
  unfolding made_by
  within zero p q =
      subst (λ n. value_at depth source w p.x p.y ≤ n)
      (sym (ap top one)) (bit_value depth one source w p.x p.y)
  within (suc i) p q =
      swept_bounded grows (top depth) (frame w h)
      (link_shape (get_or all i empty_link)) (made_by grows depth w h source all i)
      (within i) p q

  pub made_small : (i x y : ℕ) → x < w → y < h → made_by grows depth w h source all i x y ≤ 1
  made_small i x y lx ly =
      subst (λ n. made_by grows depth w h source all i x y ≤ n) (ap top one)
      (within i (record { x = x; y = y }) (record { ping = lx; bin = ly }))
