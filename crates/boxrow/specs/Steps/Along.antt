-- A row from windows at four places of a padded row, in points.
use Rattle.std.specs.Prelude.{ℕ, ◌+◌, ◌-◌, ◌/◌, ◌%◌, ◌≤◌, ◌<◌, min, ◌≡◌, Bool, true, false, cond, List}
use Rattle.std.specs.Prelude.{[], ◌∷◌, get_or, set}
use Rattle.picture.specs.Frame.{most_pings, row_bytes}
use Rattle.element.specs.Descriptor.{most_cells}
use Rattle.rows.specs.Steps.Fold.{join_by}
use Rattle.blocks.specs.Steps.Points.{point_of}
use Rattle.windows.specs.Steps.Widened.{widened_by, windows_of}
use Rattle.windows.specs.Steps.Places.{gathered_at}
use Rattle.packedline.specs.Steps.Padded.{spare_of, blotted_by}
use Rattle.packedline.specs.Steps.Cells.{window_of}
use Rattle.joins.specs.Steps.Joins.{depth_if}
use Rattle.bytewindows.specs.Steps.Four.{byte_windows}

-- of `wide` cells with the origin o, how many lie before it as erosion looks, or as dilation does
abbrev pub before_of : Bool → ℕ → ℕ → ℕ
before_of grows o wide = cond grows (wide - 1 - o) o

-- the bytes of a padded row
abbrev pub room_of : Bool → ℕ
room_of packed = cond packed 200 1224

-- four values of a row, joined, x places on
unfoldable pub four_at : Bool → (ℕ → ℕ) → ℕ → ℕ → ℕ → ℕ → ℕ → ℕ
four_at grows Q p q r s x =
    join_by grows (join_by grows (join_by grows (Q (p + x)) (Q (q + x))) (Q (r + x))) (Q (s + x))

-- the padded row of w points, the padding of its last byte beyond the frame
unfoldable pub blotted_row : Bool → ℕ → List ℕ → List ℕ
blotted_row grows w b =
    set b (8 + (w + 7) / 8 - 1) (blotted_by grows (get_or b (8 + (w + 7) / 8 - 1) 0) (spare_of (w % 8)))

unfoldable pub bits_along : Bool → ℕ → ℕ → ℕ → ℕ → ℕ → ℕ → List ℕ → ℕ → ℕ
bits_along grows w m p q r s b x =
    four_at grows (point_of (windows_of grows (((w + 7) / 8 + 81) / 64) m (blotted_row grows w b))) p q r s x

unfoldable pub bytes_along : Bool → ℕ → ℕ → ℕ → ℕ → ℕ → ℕ → List ℕ → ℕ → ℕ
bytes_along grows w m p q r s b x =
    four_at grows (λ y. get_or (byte_windows grows ((w + 187) / 64) m b) y 0) p q r s x

-- what is left in the padded row
unfoldable pub bits_left : Bool → ℕ → ℕ → ℕ → ℕ → ℕ → ℕ → List ℕ → List ℕ
bits_left grows w m p q r s b =
    widened_by (gathered_at grows (p ∷ q ∷ r ∷ s ∷ [])) (((w + 7) / 8 + 63) / 64)
    (windows_of grows (((w + 7) / 8 + 81) / 64) m (blotted_row grows w b))

unfoldable pub bytes_left : Bool → ℕ → ℕ → ℕ → ℕ → ℕ → ℕ → List ℕ → List ℕ
bytes_left grows w m p q r s b = byte_windows grows ((w + 187) / 64) m b

-- a run of `wide` cells with the origin o: windows side by side, the last at its end
unfoldable pub along_at : Bool → Bool → ℕ → ℕ → ℕ → List ℕ → ℕ → ℕ
along_at packed grows w o wide b x =
    cond packed bits_along bytes_along grows w (window_of wide) (64 - before_of grows o wide)
    (64 - before_of grows o wide + min (window_of wide) (wide - window_of wide))
    (64 - before_of grows o wide + min (window_of wide + window_of wide) (wide - window_of wide))
    (64 - before_of grows o wide + (wide - window_of wide)) b x

unfoldable pub left_along : Bool → Bool → ℕ → ℕ → ℕ → List ℕ → List ℕ
left_along packed grows w o wide b =
    cond packed bits_left bytes_left grows w (window_of wide) (64 - before_of grows o wide)
    (64 - before_of grows o wide + min (window_of wide) (wide - window_of wide))
    (64 - before_of grows o wide + min (window_of wide + window_of wide) (wide - window_of wide))
    (64 - before_of grows o wide + (wide - window_of wide)) b

-- a padded row, a row of w points, and four places that lie within an element's reach
pub record AlongFit (packed : Bool) (nb nt w p q r s : ℕ) : Type 0 where
  pub some_points : 1 ≤ w
  pub few_points : w ≤ most_pings
  pub room : nb ≡ room_of packed
  pub target : nt ≡ row_bytes (depth_if packed) w
  pub first : p < 128
  pub second : q < 128
  pub third : r < 128
  pub fourth : s < 128

-- and a run of `wide` cells whose origin is o
pub record RunFit (packed : Bool) (nb nt w o wide : ℕ) : Type 0 where
  pub some_points : 1 ≤ w
  pub few_points : w ≤ most_pings
  pub room : nb ≡ room_of packed
  pub target : nt ≡ row_bytes (depth_if packed) w
  pub few_wide : wide ≤ most_cells
  pub origin_in : o < wide
