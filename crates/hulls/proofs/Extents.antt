-- The extent of an element's cells, as a loop makes it.
use Prim.Native.Nat.{ℕ, ◌+◌}
use mathlib.Core.Path.{◌≡◌, refl, sym, ap, ◌∙◌}
use mathlib.Core.Bool.{true, false, cond}
use mathlib.Core.List.{List}
use native.Mathlib.Numerals.{add-one}
use lib.ListN.{get_or}
use Rattle.element.specs.Record.{cell_on}
use Rattle.hulls.specs.declared.Extent.{Extent}
use Rattle.hulls.specs.Extent.{unseen, with_cell, seen, row_extent, extent_of}

module _ (b : Extent) (word c r : ℕ) where
  pub seen_on : cell_on word c ≡ true → seen b word c r ≡ with_cell b c r
  unfolding seen
  seen_on e = ap (λ t. cond t (with_cell b c r) b) e

  pub seen_off : cell_on word c ≡ false → seen b word c r ≡ b
  unfolding seen
  seen_off e = ap (λ t. cond t (with_cell b c r) b) e

module _ (b : Extent) (word r : ℕ) where
  pub row_none : b ≡ row_extent b word r 0
  unfolding row_extent
  row_none = refl

  pub row_more : (n : ℕ) (e g : Extent) → e ≡ row_extent b word r n → g ≡ seen e word n r
      → g ≡ row_extent b word r (n + 1)
  unfolding row_extent
  row_more n e g p q = q ∙ ap (λ (x : Extent). seen x word n r) p
      ∙ ap (row_extent b word r) (sym (add-one n))

  pub row_all_lem : (n w : ℕ) (e : Extent) → e ≡ row_extent b word r n → n ≡ w → e ≡ row_extent b word r w
  row_all_lem n w e p q = p ∙ ap (row_extent b word r) q

module _ (rows : List ℕ) (w : ℕ) where
  pub rows_none : unseen ≡ extent_of rows w 0
  unfolding extent_of
  rows_none = refl

  pub rows_more : (n : ℕ) (e g : Extent) → e ≡ extent_of rows w n → g ≡ row_extent e (get_or rows n 0) n w
      → g ≡ extent_of rows w (n + 1)
  unfolding extent_of
  rows_more n e g p q =
      q ∙ ap (λ (x : Extent). row_extent x (get_or rows n 0) n w) p ∙ ap (extent_of rows w) (sym (add-one n))

  pub rows_all : (n h : ℕ) (e : Extent) → e ≡ extent_of rows w n → n ≡ h → e ≡ extent_of rows w h
  rows_all n h e p q = p ∙ ap (extent_of rows w) q
