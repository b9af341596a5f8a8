-- Bytes whose padding is 0 are those of the picture that is read from them, as it is;
-- and a picture turned over twice is as it was.
use Prim.Native.Nat.{ℕ, ◌+◌, ◌-◌, ◌*◌, ◌/◌, ◌%◌, ◌^◌, ◌≤◌, ◌<◌}
use mathlib.Core.Path.{◌≡◌, refl, sym, ap, ◌∙◌, subst}
use mathlib.Core.Bool.{Bool, true, false, cond}
use mathlib.Core.List.{List, [], append-nil}
use native.Mathlib.Omega.{arith}
use native.Mathlib.Nat.{mod-lt, div-lt_iff_lt-mul, div-add-mod'}
use borrow.Author.Tests.{eqb-true}
use lib.Dec.{eqb}
use lib.Pow.{split}
use lib.ListN.{length, get_or}
use lib.Seq.{ext_get_or}
use Rattle.basics.proofs.Lists.{get_d_firsts}
use Rattle.basics.proofs.Joined.{length_joined, get_d_joined}
use Rattle.basics.proofs.Tests.{all_at}
use Rattle.picture.specs.declared.Depth.{Depth}
use Rattle.picture.specs.declared.Face.TheVariants.{AsIs}
use Rattle.picture.specs.Frame.{row_bytes, picture_bytes, spare_bits}
use Rattle.picture.specs.Points.{value_at}
use Rattle.picture.specs.Bytes.{row_byte, row_of, bytes_of, faced, last_clear, lasts_clear}
use Rattle.picture.specs.Bytes.{padding_clear}
use Rattle.copies.specs.Steps.Copy.{cleared_byte, cleared_at}
use Rattle.picture.proofs.Sizes.{row_some}
use Rattle.picture.proofs.Rows.{row_length}
use Rattle.copies.proofs.Copies.{cleared_is}

module _ (depth : Depth) (s : List ℕ) (bytes : (i : ℕ) → get_or s i 0 < 256)
    (w h : ℕ) (some : 1 ≤ w) (clear : padding_clear depth s w h ≡ true) where
  n : ℕ
  n = row_bytes depth w

  -- a byte is kept whole: only the last of a row has spare bits, and they are 0
  cleared_whole : (y i : ℕ) → y < h → i < row_bytes depth w
      → cleared_at false s (y * row_bytes depth w) (row_bytes depth w) (spare_bits depth w) i
      ≡ get_or s (y * row_bytes depth w + i) 0
  unfolding cleared_at cleared_byte padding_clear lasts_clear
  cleared_whole y i hy hi = by (eqb (i + 1) (row_bytes depth w)) refl
    where
      at : ℕ → ℕ
      at j = get_or s (y * row_bytes depth w + j) 0

      none : (b : ℕ) → b / 2 ^ 0 * 2 ^ 0 ≡ b
      none b = omega arith

      last : (b u : ℕ) → b % 2 ^ u ≡ 0 → b / 2 ^ u * 2 ^ u ≡ b
      last b u e = omega (arith, split b u)

      end : (i n : ℕ) → i + 1 ≡ n → n - 1 ≡ i
      end i n e = omega arith

      by : (t : Bool) → eqb (i + 1) (row_bytes depth w) ≡ t
          → at i / 2 ^ cond t (spare_bits depth w) 0 * 2 ^ cond t (spare_bits depth w) 0 ≡ at i
      by true e =
          last (at i) (spare_bits depth w)
          (ap (λ j. at j % 2 ^ spare_bits depth w)
          (sym (end i (row_bytes depth w) (eqb-true (i + 1) (row_bytes depth w) e)))
          ∙ eqb-true _ 0 (all_at (last_clear s (row_bytes depth w) (2 ^ spare_bits depth w)) h clear y hy))
      by false e = none (at i)

  pub bytes_back : length s ≡ picture_bytes depth w h → bytes_of depth (λ x y. value_at depth s w x y) w h ≡ s
  unfolding bytes_of row_of faced n
  bytes_back whole =
      ext_get_or 0 (bytes_of depth (λ x y. value_at depth s w x y) w h) s (long ∙ sym whole)
      (λ j l. each j (subst (λ k. j < k) long l))
    where
      R : ℕ → List ℕ
      R y = row_of depth (λ x. value_at depth s w x y) w

      long : length (bytes_of depth (λ x y. value_at depth s w x y) w h) ≡ h * n
      long = length_joined R n (λ y. row_length depth (λ x. value_at depth s w x y) w) h

      there : (y i : ℕ) → y < h → i < n
          → get_or (bytes_of depth (λ x y. value_at depth s w x y) w h) (y * n + i) 0 ≡ get_or s (y * n + i) 0
      there y i hy hi =
          ap (λ q. get_or q (y * n + i) 0)
          (sym (append-nil (bytes_of depth (λ x y. value_at depth s w x y) w h)))
          ∙ get_d_joined R n (λ y. row_length depth (λ x. value_at depth s w x y) w) h y i [] hy hi
          ∙ get_d_firsts (row_byte depth (λ x. value_at depth s w x y) w) n i hi
          ∙ sym (cleared_is AsIs s bytes w depth y i hi) ∙ cleared_whole y i hy hi

      each : (j : ℕ) → j < h * n → get_or (bytes_of depth (λ x y. value_at depth s w x y) w h) j 0
          ≡ get_or s j 0
      each j l =
          let p = row_some depth w some in
          let e = div-add-mod' j n in
          ap (λ k. get_or (bytes_of depth (λ x y. value_at depth s w x y) w h) k 0) (sym e)
          ∙ there (j / n) (j % n) ((div-lt_iff_lt-mul p).1 l) (mod-lt j {m = n} p) ∙ ap (λ k. get_or s k 0) e
