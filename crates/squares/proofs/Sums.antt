-- Sums of bits: over the bytes of a picture they are its set points.
use Prim.Native.Nat.{ℕ, zero, suc, ◌+◌, ◌-◌, ◌*◌, ◌/◌, ◌%◌, ◌^◌, ◌≤◌, ◌<◌}
use mathlib.Core.Path.{◌≡◌, refl, sym, ap, ap₂, ◌∙◌}
use mathlib.Core.List.{List}
use native.Mathlib.Nat.{div-one}
use native.Mathlib.Numerals.{add-one}
use native.Mathlib.Omega.{arith}
use lib.Count.{ones, ones_in, ones_step}
use lib.Pow.{shr-shr}
use lib.ListN.{length, get_or}
use Rattle.basics.specs.Bits.{bit}
use Rattle.basics.specs.Bytes.{Bytes}
use Rattle.picture.specs.declared.Depth.TheVariants.{OneBit}
use Rattle.picture.specs.Frame.{frame, row_bytes, picture_bytes}
use Rattle.picture.specs.Points.{value_at, value_in}
use Rattle.picture.specs.Bytes.{Picture, written}
use Rattle.picture.proofs.Points.{written_value, written_padding}
use Rattle.morphology.specs.Operations.{fold}
use Rattle.morphology.specs.Order.{Bounded}
use Rattle.morphology.proofs.Cells.{fold_same}
use Rattle.sizes.specs.Spectrum.{points}

-- ---- as a loop sums
module _ (f : ℕ → ℕ) where
  pub sum_none : 0 ≡ fold ◌+◌ 0 f 0
  unfolding fold
  sum_none = refl

  pub sum_more : (n v k : ℕ) → v ≡ fold ◌+◌ 0 f n → k ≡ f n → v + k ≡ fold ◌+◌ 0 f (n + 1)
  unfolding fold
  sum_more n v k e q = ap₂ (λ a b. a + b) e q ∙ ap (fold ◌+◌ 0 f) (sym (add-one n))

  -- m at a time
  pub sum_parts : (m n : ℕ) → fold ◌+◌ 0 f (n * m) ≡ fold ◌+◌ 0 (λ i. fold ◌+◌ 0 (λ j. f (i * m + j)) m) n
  unfolding fold
  sum_parts m zero = ap (fold ◌+◌ 0 f) (none m)
    where
      none : (m : ℕ) → 0 * m ≡ 0
      none m = omega arith
  sum_parts m (suc n) =
      ap (fold ◌+◌ 0 f) (next m n) ∙ split (n * m) m
      ∙ ap (λ k. k + fold ◌+◌ 0 (λ j. f (n * m + j)) m) (sum_parts m n)
    where
      next : (m n : ℕ) → suc n * m ≡ n * m + m
      next m n = omega arith

      split : (a k : ℕ) → fold ◌+◌ 0 f (a + k) ≡ fold ◌+◌ 0 f a + fold ◌+◌ 0 (λ j. f (a + j)) k
      split a zero = ap (fold ◌+◌ 0 f) (zero_more a) ∙ zero_less (fold ◌+◌ 0 f a)
        where
          zero_more : (a : ℕ) → a + 0 ≡ a
          zero_more a = omega arith

          zero_less : (a : ℕ) → a ≡ a + 0
          zero_less a = omega arith
      split a (suc k) =
          ap (fold ◌+◌ 0 f) (one_more a k) ∙ ap (λ n. n + f (a + k)) (split a k)
          ∙ grouped (fold ◌+◌ 0 f a) (fold ◌+◌ 0 (λ j. f (a + j)) k) (f (a + k))
        where
          one_more : (a k : ℕ) → a + suc k ≡ suc (a + k)
          one_more a k = omega arith

          grouped : (a b c : ℕ) → a + b + c ≡ a + (b + c)
          grouped a b c = omega arith

  -- what is 0 from w on adds nothing
  pub sum_cut : (w d : ℕ) → ((i : ℕ) → w ≤ i → i < w + d → f i ≡ 0) → fold ◌+◌ 0 f (w + d) ≡ fold ◌+◌ 0 f w
  unfolding fold
  sum_cut w zero off = ap (fold ◌+◌ 0 f) (none w)
    where
      none : (w : ℕ) → w + 0 ≡ w
      none w = omega arith
  sum_cut w (suc d) off =
      ap (fold ◌+◌ 0 f) (one_more w d)
      ∙ ap₂ (λ a b. a + b) (sum_cut w d (λ i l k. off i l (omega arith))) (off (w + d) (omega arith)
      (omega arith))
      ∙ nothing (fold ◌+◌ 0 f w)
    where
      one_more : (w d : ℕ) → w + suc d ≡ suc (w + d)
      one_more w d = omega arith

      nothing : (n : ℕ) → n + 0 ≡ n
      nothing n = omega arith

no_ones : ones 0 ≡ 0
unfolding ones ones_in
no_ones = refl

-- ---- the bits of a byte, the highest first
ones_from : (b k : ℕ) → ones (b / 2 ^ k) ≡ bit b k + ones (b / 2 ^ (k + 1))
ones_from b k = ones_step (b / 2 ^ k) ∙ ap (λ n. bit b k + ones n) (shr-shr b k 1)

pub byte_ones : (b : ℕ) → b < 256 → ones b ≡ fold ◌+◌ 0 (λ k. bit b (7 - k)) 8
unfolding fold
byte_ones b h =
    ap ones (sym (div-one b))
    ∙ all _ _ _ _ _ _ _ _ _ _ _ _ _ _ _ _ _ (ones_from b 0) (ones_from b 1) (ones_from b 2) (ones_from b 3)
    (ones_from b 4) (ones_from b 5) (ones_from b 6) (ones_from b 7) (ap ones (none b h) ∙ no_ones)
  where
    none : (b : ℕ) → b < 256 → b / 2 ^ 8 ≡ 0
    none b h = omega arith

    all : (o p q r s t u v w b0 b1 b2 b3 b4 b5 b6 b7 : ℕ) → o ≡ b0 + p → p ≡ b1 + q → q ≡ b2 + r
        → r ≡ b3 + s → s ≡ b4 + t → t ≡ b5 + u → u ≡ b6 + v → v ≡ b7 + w → w ≡ 0
        → o ≡ 0 + b7 + b6 + b5 + b4 + b3 + b2 + b1 + b0
    all o p q r s t u v w b0 b1 b2 b3 b4 b5 b6 b7 e0 e1 e2 e3 e4 e5 e6 e7 e = omega arith

-- ---- the bytes of a picture that was written, and nothing else, have as many set bits as it has points
module _ (R : Picture) (w h : ℕ) (small : Bounded 1 (frame w h) R) (t t₀ : List ℕ) (bytes : Bytes t)
    (len : length t ≡ picture_bytes OneBit w h) (e : t ≡ written OneBit R w h t₀) where
  abbrev n : ℕ
  n = row_bytes OneBit w

  few : (x y : ℕ) → x < w → y < h → R x y ≤ 1
  few x y hx hy = small (record { x = x; y = y }) (record { ping = hx; bin = hy })

  -- what stands in column x of row y, padding included
  abbrev here : ℕ → ℕ → ℕ
  here y x = bit (get_or t (y * n + x / 8) 0) (7 - x % 8)

  as_value : (x y : ℕ) → here y x ≡ value_at OneBit t w x y
  unfolding value_at value_in
  as_value x y = refl

  shown : (x y : ℕ) → x < w → y < h → here y x ≡ R x y
  shown x y hx hy =
      as_value x y ∙ ap (λ l. value_at OneBit l w x y) e ∙ written_value OneBit R w h t₀ few x y hx hy

  spare : (x y : ℕ) → w ≤ x → x < w + (n * 8 - w) → y < h → here y x ≡ 0
  spare x y hx l hy =
      as_value x y ∙ ap (λ l. value_at OneBit l w x y) e
      ∙ written_padding R w h t₀ few x y hx (omega arith) hy

  byte : (y j : ℕ) → ones (get_or t (y * n + j) 0) ≡ fold ◌+◌ 0 (λ k. here y (j * 8 + k)) 8
  byte y j =
      byte_ones (get_or t (y * n + j) 0) (bytes (y * n + j))
      ∙ fold_same ◌+◌ 0 _ _ 8 (λ k l. ap₂ (λ i d. bit (get_or t (y * n + i) 0) d) (place j k l) (digit j k l))
    where
      place : (j k : ℕ) → k < 8 → j ≡ (j * 8 + k) / 8
      place j k l = omega arith

      digit : (j k : ℕ) → k < 8 → 7 - k ≡ 7 - (j * 8 + k) % 8
      digit j k l = omega arith

  row : (y : ℕ) → y < h → fold ◌+◌ 0 (λ j. ones (get_or t (y * n + j) 0)) n ≡ fold ◌+◌ 0 (λ x. R x y) w
  row y hy =
      fold_same ◌+◌ 0 _ _ n (λ j l. byte y j) ∙ sym (sum_parts (here y) 8 n)
      ∙ ap (fold ◌+◌ 0 (here y)) (wide w)
      ∙ sum_cut (here y) w (n * 8 - w) (λ x l k. spare x y l k hy)
      ∙ fold_same ◌+◌ 0 _ _ w (λ x l. shown x y l hy)
    where
      wide : (w : ℕ) → (w + 7) / 8 * 8 ≡ w + ((w + 7) / 8 * 8 - w)
      wide w = omega arith

  pub count_points : fold ◌+◌ 0 (λ i. ones (get_or t i 0)) (length t) ≡ points (frame w h) R
  unfolding points
  count_points =
      ap (fold ◌+◌ 0 (λ i. ones (get_or t i 0))) len ∙ sum_parts (λ i. ones (get_or t i 0)) n h
      ∙ fold_same ◌+◌ 0 _ _ h (λ y l. row y l)
