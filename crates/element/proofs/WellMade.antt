-- What the tests of a descriptor tell, test by test.
use Prim.Native.Nat.{ℕ, ◌+◌, ◌/◌, ◌≤◌, ◌<◌}
use mathlib.Core.Path.{◌≡◌}
use mathlib.Core.Bool.{true, ◌&&◌}
use mathlib.Core.List.{List}
use native.Mathlib.Omega.{arith}
use native.Mathlib.Nat.{mul-le-mul}
use borrow.Author.Tests.{leb-true, ltb-true}
use lib.Dec.{leb, ltb, eqb}
use lib.ListN.{length}
use Rattle.basics.proofs.Tests.{both}
use Rattle.picture.specs.declared.Depth.TheVariants.{OneBit, EightBit}
use Rattle.picture.specs.Frame.{picture_bytes}
use Rattle.picture.specs.Bytes.{padding_clear}
use Rattle.element.specs.Descriptor.{most_cells, wide_of, high_of, origin_column_of}
use Rattle.element.specs.Descriptor.{origin_row_of, cells_of, cells_end, head_made}
use Rattle.element.specs.Descriptor.{cells_made, well_made, well_weighted}

-- whatever the two bytes are, the rows end within few bytes
pub rows_few : (w h : ℕ) → w ≤ 255 → h ≤ 255 → picture_bytes OneBit w h ≤ 8160
rows_few w h a b = mul-le-mul {n₁ = h} {m₁ = (w + 7) / 8} {n₂ = 255} {m₂ = 32} b (omega arith)

-- well made cells: the four bytes, and the rows after them
pub record Cells (d : List ℕ) : Type 0 where
  pub long : 4 ≤ length d
  pub some_wide : 1 ≤ wide_of d
  pub few_wide : wide_of d ≤ most_cells
  pub some_high : 1 ≤ high_of d
  pub few_high : high_of d ≤ most_cells
  pub column : origin_column_of d < wide_of d
  pub row : origin_row_of d < high_of d
  pub rows : cells_end (wide_of d) (high_of d) ≤ length d
  pub clear : padding_clear OneBit (cells_of d) (wide_of d) (high_of d) ≡ true

pub record Head (w h column row : ℕ) : Type 0 where
  pub some_wide : 1 ≤ w
  pub few_wide : w ≤ most_cells
  pub some_high : 1 ≤ h
  pub few_high : h ≤ most_cells
  pub column_in : column < w
  pub row_in : row < h

pub head_tells : (w h column row : ℕ) → head_made w h column row ≡ true → Head w h column row
unfolding head_made
head_tells w h column row e =
    let p = both ((leb 1 w && leb w most_cells) && (leb 1 h && leb h most_cells))
    (ltb column w && ltb row h) e in
    let q = both (leb 1 w && leb w most_cells) (leb 1 h && leb h most_cells) p.0 in
    let a = both (leb 1 w) (leb w most_cells) q.0 in
    let b = both (leb 1 h) (leb h most_cells) q.1 in
    let o = both (ltb column w) (ltb row h) p.1 in
    record {
      some_wide = leb-true 1 w a.0;
      few_wide = leb-true w most_cells a.1;
      some_high = leb-true 1 h b.0;
      few_high = leb-true h most_cells b.1;
      column_in = ltb-true column w o.0;
      row_in = ltb-true row h o.1;
    }

module _ (d : List ℕ) where
  pub cells_tell : cells_made d ≡ true → Cells d
  unfolding cells_made
  cells_tell e =
      let p =
      both (leb 4 (length d) && head_made (wide_of d) (high_of d) (origin_column_of d) (origin_row_of d)) _
      e in
      let q = both (leb 4 (length d))
      (head_made (wide_of d) (high_of d) (origin_column_of d) (origin_row_of d)) p.0 in
      let r = both (leb (cells_end (wide_of d) (high_of d)) (length d))
      (padding_clear OneBit (cells_of d) (wide_of d) (high_of d)) p.1 in
      let t = head_tells (wide_of d) (high_of d) (origin_column_of d) (origin_row_of d) q.1 in
      record {
        long = leb-true 4 (length d) q.0;
        some_wide = t.some_wide;
        few_wide = t.few_wide;
        some_high = t.some_high;
        few_high = t.few_high;
        column = t.column_in;
        row = t.row_in;
        rows = leb-true (cells_end (wide_of d) (high_of d)) (length d) r.0;
        clear = r.1;
      }

  pub made_cells : well_made d ≡ true → cells_made d ≡ true
  unfolding well_made
  made_cells e = (both (cells_made d) (eqb (length d) (cells_end (wide_of d) (high_of d))) e).0

  pub weighted_cells : well_weighted d ≡ true → cells_made d ≡ true
  unfolding well_weighted
  weighted_cells e =
      (both (cells_made d) _ (both (cells_made d && eqb (length d)
      (cells_end (wide_of d) (high_of d) + picture_bytes EightBit (wide_of d) (high_of d))) _ e).0).0
