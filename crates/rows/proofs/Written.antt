-- A picture written row after row over what was there, as every loop over the rows of a result writes it.
use Prim.Native.Nat.{ℕ, ◌+◌, ◌-◌, ◌*◌, ◌≤◌, ◌<◌}
use mathlib.Core.Path.{◌≡◌}
use mathlib.Core.List.{List, ◌++◌}
use native.Mathlib.Omega.{arith}
use borrow.Rule.Slice.PartMut.{put_mid}
use lib.ListN.{length, drop}
use Rattle.basics.specs.Lists.{joined}
use Rattle.basics.proofs.Joined.{rows_none, rows_more, rows_all}
use Rattle.picture.specs.declared.Depth.{Depth}
use Rattle.picture.specs.Frame.{row_bytes}
use Rattle.picture.specs.Bytes.{Picture, row_of, bytes_of, written}
use Rattle.picture.proofs.Sizes.{row_room}
use Rattle.picture.proofs.Rows.{row_length}

-- row y lies in the picture's bytes
pub row_fits : (n k y h m : ℕ) → n ≡ k → y < h → h * k ≤ m → y * n + n ≤ m
row_fits n k y h m e l j = rw e (omega (arith, row_room k l))

module _ (depth : Depth) (A : Picture) (w : ℕ) (t₀ : List ℕ) where
  abbrev row : ℕ → List ℕ
  row y = row_of depth (λ x. A x y) w

  each : (y : ℕ) → length (row y) ≡ row_bytes depth w
  each y = row_length depth (λ x. A x y) w

  -- the bytes once the first y rows are written
  unfoldable pub rows_written : ℕ → List ℕ
  rows_written y = joined row y ++ drop (y * row_bytes depth w) t₀

  pub written_none : t₀ ≡ rows_written 0
  unfolding rows_written
  written_none = rows_none row (row_bytes depth w) each t₀

  pub written_more : (n y : ℕ) (t ys : List ℕ) → n ≡ row_bytes depth w → t ≡ rows_written y → ys ≡ row y
      → put_mid (y * n) (y * n + n - y * n) t ys ≡ rows_written (y + 1)
  unfolding rows_written
  written_more n y t ys en et ey = rows_more row (row_bytes depth w) each n y t₀ t ys en et ey

  pub written_all : (y h : ℕ) (t : List ℕ) → t ≡ rows_written y → y ≡ h → t ≡ written depth A w h t₀
  unfolding rows_written written bytes_of
  written_all y h t e q = rows_all row (row_bytes depth w) each y h t₀ t e q
