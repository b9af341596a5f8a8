-- What is measured of an element whose set cells fill a rectangle: its four ends.
use Prim.Native.Nat.{ℕ, zero, suc, ◌≤◌, ◌<◌}
use mathlib.Core.Path.{◌≡◌, sym, subst}
use mathlib.Core.Bool.{Bool, true, false, cond}
use mathlib.Core.List.{List}
use mathlib.Core.Logic.{⊎_elim}
use native.Mathlib.Omega.{arith}
use native.Mathlib.Nat.{not-suc-le-zero, le_of_suc-le-suc, eq-or-lt_of_le}
use borrow.Author.Tests.{le-leb}
use lib.Dec.{T}
use lib.ListN.{get_or}
use Rattle.element.specs.Descriptor.{most_cells}
use Rattle.element.specs.Record.{cell_on}
use Rattle.hulls.specs.declared.Extent.{Extent}
use Rattle.hulls.specs.declared.Hull.{Hull}
use Rattle.hulls.specs.Extent.{unseen, with_cell, seen, row_extent, extent_of}
use Rattle.chainfor.specs.Find.{within}

-- what the sums of a chain can span
pub within_near : (H : Hull) → H.across.span ≤ 35 → H.down.span ≤ 35 → within H ≡ true
unfolding within
within_near H a b = simp (le-leb H.across.span 35 a, le-leb H.down.span 35 b)

-- the extent holds the cell (x, y)
pub record Around (b : Extent) (x y : ℕ) : Type 0 where
  pub left : b.left ≤ x
  pub right : x ≤ b.right
  pub top : b.top ≤ y
  pub bottom : y ≤ b.bottom

-- and nothing beyond these columns and rows
pub record Inside (b : Extent) (c d r s : ℕ) : Type 0 where
  pub left : c ≤ b.left
  pub right : b.right ≤ d
  pub top : r ≤ b.top
  pub bottom : b.bottom ≤ s

seen_keeps : (b : Extent) (word n m x y : ℕ) → Around b x y → Around (seen b word n m) x y
unfolding seen with_cell
seen_keeps b word n m x y a = by (cell_on word n)
  where
    by : (t : Bool) → Around (cond t (with_cell b n m) b) x y
    by true = record {
      left = omega (arith, a.left);
      right = omega (arith, a.right);
      top = omega (arith, a.top);
      bottom = omega (arith, a.bottom);
    }
    by false = a

seen_adds : (b : Extent) (word n m : ℕ) → T (cell_on word n) → Around (seen b word n m) n m
unfolding seen with_cell
seen_adds b word n m = by (cell_on word n)
  where
    by : (t : Bool) → T t → Around (cond t (with_cell b n m) b) n m
    by true h = record { left = omega arith; right = omega arith; top = omega arith; bottom = omega arith }
    by false h = absurd h

row_keeps : (b : Extent) (word m x y n : ℕ) → Around b x y → Around (row_extent b word m n) x y
unfolding row_extent
row_keeps b word m x y zero a = a
row_keeps b word m x y (suc n) a =
    seen_keeps (row_extent b word m n) word n m x y (row_keeps b word m x y n a)

row_adds : (b : Extent) (word m x n : ℕ) → x < n → T (cell_on word x) → Around (row_extent b word m n) x m
unfolding row_extent
row_adds b word m x zero h t = absurd (not-suc-le-zero h)
row_adds b word m x (suc n) h t =
    ⊎_elim
    (λ e. subst (λ (k : ℕ). Around (seen (row_extent b word m n) word n m) k m) (sym e)
    (seen_adds (row_extent b word m n) word n m (subst (λ (k : ℕ). T (cell_on word k)) e t)))
    (λ l. seen_keeps (row_extent b word m n) word n m x m (row_adds b word m x n l t))
    (eq-or-lt_of_le (le_of_suc-le-suc h))

-- every set cell is held
pub all_around : (rows : List ℕ) (w x y n : ℕ) → x < w → y < n → T (cell_on (get_or rows y 0) x)
    → Around (extent_of rows w n) x y
unfolding extent_of
all_around rows w x y zero hx hy t = absurd (not-suc-le-zero hy)
all_around rows w x y (suc n) hx hy t =
    ⊎_elim
    (λ e. subst (λ (k : ℕ). Around (row_extent (extent_of rows w n) (get_or rows n 0) n w) x k) (sym e)
    (row_adds (extent_of rows w n) (get_or rows n 0) n x w hx
    (subst (λ (k : ℕ). T (cell_on (get_or rows k 0) x)) e t)))
    (λ l. row_keeps (extent_of rows w n) (get_or rows n 0) n x y w (all_around rows w x y n hx l t))
    (eq-or-lt_of_le (le_of_suc-le-suc hy))

-- nothing is held beyond the columns and rows of the set cells
module _ (c d r s : ℕ) where
  seen_inside : (b : Extent) (word n m : ℕ)
      → (T (cell_on word n) → (c ≤ n) × (n ≤ d) × (r ≤ m) × (m ≤ s))
      → Inside b c d r s → Inside (seen b word n m) c d r s
  unfolding seen with_cell
  seen_inside b word n m f a = by (cell_on word n) f
    where
      by : (t : Bool) → (T t → (c ≤ n) × (n ≤ d) × (r ≤ m) × (m ≤ s))
          → Inside (cond t (with_cell b n m) b) c d r s
      by true g =
          let h = g tt in
          record {
            left = omega (arith, a.left, h.0);
            right = omega (arith, a.right, h.1);
            top = omega (arith, a.top, h.2);
            bottom = omega (arith, a.bottom, h.3);
          }
      by false g = a

  row_inside : (b : Extent) (word m n : ℕ)
      → ((x : ℕ) → x < n → T (cell_on word x) → (c ≤ x) × (x ≤ d) × (r ≤ m) × (m ≤ s))
      → Inside b c d r s → Inside (row_extent b word m n) c d r s
  unfolding row_extent
  row_inside b word m zero f a = a
  row_inside b word m (suc n) f a =
      seen_inside (row_extent b word m n) word n m (f n (omega arith))
      (row_inside b word m n (λ x h. f x (omega (arith, h))) a)

  pub all_inside : c ≤ most_cells → r ≤ most_cells → (rows : List ℕ) (w n : ℕ)
      → ((x y : ℕ) → x < w → y < n → T (cell_on (get_or rows y 0) x) → (c ≤ x) × (x ≤ d) × (r ≤ y) × (y ≤ s))
      → Inside (extent_of rows w n) c d r s
  unfolding extent_of unseen
  all_inside hc hr rows w zero f =
      record { left = hc; right = omega arith; top = hr; bottom = omega arith }
  all_inside hc hr rows w (suc n) f =
      row_inside (extent_of rows w n) (get_or rows n 0) n w (λ x h. f x n h (omega arith))
      (all_inside hc hr rows w n (λ x y h k. f x y h (omega (arith, k))))
