-- A row from windows at four places of a padded row: what the code leaves in the target is the row of points.
use Prim.Native.Nat.{ℕ, ◌+◌, ◌-◌, ◌*◌, ◌/◌, ◌%◌, ◌≤◌, ◌<◌}
use mathlib.Core.Path.{◌≡◌, sym, ap, ap₂, ◌∙◌, subst}
use mathlib.Core.Bool.{Bool, true, false}
use mathlib.Core.List.{List, [], ◌∷◌}
use native.Mathlib.Omega.{arith}
use lib.Bits.{or_lt, and_lt}
use lib.ListN.{length, get_or, set}
use Rattle.basics.specs.Bits.{bit}
use Rattle.basics.specs.Bytes.{Bytes}
use Rattle.basics.specs.Lists.{firsts}
use Rattle.basics.proofs.Lists.{get_d_firsts, length_firsts, firsts_same}
use Rattle.picture.specs.declared.Depth.TheVariants.{OneBit, EightBit}
use Rattle.picture.specs.Frame.{row_bytes}
use Rattle.picture.specs.Bytes.{row_byte, row_of}
use Rattle.morphology.specs.Operations.{fold}
use Rattle.rows.specs.Steps.Fold.{join_by, start_by}
use Rattle.blocks.specs.Steps.Points.{point_of}
use Rattle.blocks.proofs.Points.{point_lt}
use Rattle.windows.specs.Steps.Widened.{widened_by, windows_of}
use Rattle.windows.specs.Steps.Places.{gathered_at}
use Rattle.windows.proofs.Seen.{widened_point}
use Rattle.windows.proofs.Row.{byte_point}
use Rattle.packedline.specs.Steps.Padded.{spare_of, blotted_by}
use Rattle.packedline.proofs.Bytes.{bytes_set, bytes_windows, spare_lt}
use Rattle.packedline.proofs.Margins.{neutral_bit}
use Rattle.bitrow.proofs.Made.{row_made}
use Rattle.bytewindows.specs.Steps.Four.{joined_four, byte_windows}
use Rattle.boxrow.specs.Steps.Along.{four_at, blotted_row, bits_along, bytes_along, bits_left, bytes_left}

-- ---- rows of bytes
pub bytes_row : (grows : Bool) (w m p q r s n : ℕ) (b v u : List ℕ) → n ≡ w
    → v ≡ byte_windows grows ((w + 187) / 64) m b
    → u ≡ firsts (λ i. joined_four grows v (p + i) (q + i) (r + i) (s + i)) n
    → u ≡ row_of EightBit (bytes_along grows w m p q r s b) w
unfolding row_of row_byte bytes_along four_at joined_four
bytes_row grows w m p q r s n b v u en ev eu =
    eu ∙ ap₂ (λ v n. firsts (λ i. joined_four grows v (p + i) (q + i) (r + i) (s + i)) n) ev en

pub bytes_left_lem : (grows : Bool) (w m p q r s : ℕ) (b v : List ℕ) → v
    ≡ byte_windows grows ((w + 187) / 64) m b
    → v ≡ bytes_left grows w m p q r s b
unfolding bytes_left
bytes_left_lem grows w m p q r s b v ev = ev

-- ---- packed rows
starts_neutral : (grows : Bool) (v : ℕ) → v < 2 → join_by grows (start_by grows 1) v ≡ v
starts_neutral true v h = omega arith
starts_neutral false v h = omega arith

turn : (x p : ℕ) → x + p ≡ p + x
turn x p = omega arith

-- four places, after what a fold starts from
four_folded : (grows : Bool) (b : List ℕ) (p q r s x : ℕ)
    → fold (join_by grows) (start_by grows 1) (λ j. point_of b (x + get_or (p ∷ q ∷ r ∷ s ∷ []) j 0)) 4
    ≡ four_at grows (point_of b) p q r s x
unfolding fold four_at
four_folded grows b p q r s x =
    ap₂ (join_by grows)
    (ap₂ (join_by grows)
    (ap₂ (join_by grows) (starts_neutral grows (point_of b (x + p)) (point_lt b (x + p)) ∙ ap (point_of b)
    (turn x p))
    (ap (point_of b) (turn x q)))
    (ap (point_of b) (turn x r)))
    (ap (point_of b) (turn x s))

blotted_lt : (grows : Bool) (v m : ℕ) → v < 256 → m < 256 → blotted_by grows v m < 256
blotted_lt true v m h k = and_lt 8 v (255 - m) h (omega arith)
blotted_lt false v m h k = or_lt 8 v m h k

pub blotted_bytes : (grows : Bool) (w : ℕ) (b : List ℕ) → Bytes b → Bytes (blotted_row grows w b)
unfolding blotted_row
blotted_bytes grows w b bytes =
    bytes_set b _ _ bytes (blotted_lt grows _ (spare_of (w % 8)) (bytes _) (spare_lt (w % 8)))

module _ (grows : Bool) (w m p q r s n : ℕ) (some : 1 ≤ w) (b c d g t₂ t₃ : List ℕ) (bytes : Bytes b)
    (en : n ≡ (w + 7) / 8)
    (ec : c ≡ set b (8 + n - 1) (blotted_by grows (get_or b (8 + n - 1) 0) (spare_of (w % 8))))
    (ed : d ≡ windows_of grows ((n + 81) / 64) m c)
    (fits : 64 * ((n + 63) / 64) ≤ length d)
    (eg : g ≡ widened_by (gathered_at grows (p ∷ q ∷ r ∷ s ∷ [])) ((n + 63) / 64) d)
    (e₂ : t₂ ≡ firsts (λ i. get_or g (0 + i) 0) n)
    (e₃ : t₃ ≡ set t₂ (n - 1) (blotted_by true (get_or t₂ (n - 1) 0) (spare_of (w % 8)))) where
  abbrev D : List ℕ
  D = windows_of grows (((w + 7) / 8 + 81) / 64) m (blotted_row grows w b)

  d_is : d ≡ D
  unfolding blotted_row
  d_is =
      ed ∙ ap₂ (λ k c. windows_of grows ((k + 81) / 64) m c) en
      (ec ∙ ap (λ k. set b (8 + k - 1) (blotted_by grows (get_or b (8 + k - 1) 0) (spare_of (w % 8)))) en)

  d_bytes : Bytes d
  d_bytes = subst Bytes (sym d_is) (bytes_windows grows _ m _ (blotted_bytes grows w b bytes))

  long : length t₂ ≡ (w + 7) / 8
  long = ap length e₂ ∙ length_firsts _ n ∙ en

  copied : (x : ℕ) → x < w → point_of t₂ x ≡ point_of g x
  unfolding point_of
  copied x h =
      ap (λ v. bit v (7 - x % 8)) (ap (λ l. get_or l (x / 8) 0) e₂
      ∙ get_d_firsts (λ i. get_or g (0 + i) 0) n (x / 8) (omega (arith, en))
      ∙ ap (λ i. get_or g i 0) (none (x / 8)))
    where
      none : (i : ℕ) → 0 + i ≡ i
      none i = omega arith

  gathered : (x : ℕ) → x < w → point_of g x ≡ four_at grows (point_of d) p q r s x
  unfolding gathered_at
  gathered x h =
      ap (λ l. point_of l x) eg
      ∙ widened_point (gathered_at grows (p ∷ q ∷ r ∷ s ∷ [])) ((n + 63) / 64) d x fits (omega (arith, en))
      ∙ byte_point grows (start_by grows 255) d d_bytes (x / 8) (p ∷ q ∷ r ∷ s ∷ []) (x % 8) (omega arith) 4
      ∙ ap₂ (λ v y. fold (join_by grows) v (λ j. point_of d (y + get_or (p ∷ q ∷ r ∷ s ∷ []) j 0)) 4)
      (neutral_bit grows (7 - x % 8) (omega arith)) (whole x)
      ∙ four_folded grows d p q r s x
    where
      whole : (x : ℕ) → x / 8 * 8 + x % 8 ≡ x
      whole x = omega arith

  value : (x : ℕ) → x < w → point_of t₂ x ≡ bits_along grows w m p q r s b x
  unfolding bits_along
  value x h = copied x h ∙ gathered x h ∙ ap (λ l. four_at grows (point_of l) p q r s x) d_is

  pub bits_left_lem : g ≡ bits_left grows w m p q r s b
  unfolding bits_left
  bits_left_lem =
      eg ∙ ap₂ (λ k l. widened_by (gathered_at grows (p ∷ q ∷ r ∷ s ∷ [])) ((k + 63) / 64) l) en d_is

  pub bits_row : Bytes t₃ → t₃ ≡ row_of OneBit (bits_along grows w m p q r s b) w
  bits_row last =
      row_made (bits_along grows w m p q r s b) w t₂ t₃ some long value
      (e₃ ∙ ap (λ k. set t₂ (k - 1) (blotted_by true (get_or t₂ (k - 1) 0) (spare_of (w % 8)))) (en ∙ sym
      long)) last
