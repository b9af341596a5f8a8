-- The counts of the spectrum: each is what one side keeps less what the next one keeps, and they sum to the
-- picture's set points.
use Prim.Native.Nat.{ℕ, zero, suc, ◌+◌, ◌-◌, ◌*◌, ◌≤◌, ◌<◌}
use mathlib.Core.Path.{◌≡◌, refl, ap, ap₂, ◌∙◌}
use mathlib.Core.Bool.{cond}
use mathlib.Core.Logic.{⊎_elim}
use native.Mathlib.Nat.{not-suc-le-zero, le_of_suc-le-suc, eq-or-lt_of_le}
use native.Mathlib.Omega.{arith}
use borrow.Author.Tests.{ne_eqb}
use lib.Dec.{eqb}
use Rattle.basics.proofs.Lists.{firsts_same}
use Rattle.picture.specs.Frame.{Frame}
use Rattle.picture.specs.Bytes.{Picture}
use Rattle.morphology.specs.Operations.{fold, flat}
use Rattle.morphology.specs.Order.{LiesWithin, Alike, Bounded}
use Rattle.morphology.specs.TopHats.{less}
use Rattle.morphology.proofs.Cells.{fold_same}
use Rattle.morphology.proofs.Order.{erode_alike, dilate_alike}
use Rattle.sizes.specs.Spectrum.{square, sides, points, survived, survivors, count_at, spectrum}
use Rattle.sizes.proofs.Squares.{side_one, next_side}

-- ---- sums
sum_less : (f g : ℕ → ℕ) (n : ℕ) → ((i : ℕ) → i < n → g i ≤ f i)
    → fold ◌+◌ 0 (λ i. f i - g i) n + fold ◌+◌ 0 g n ≡ fold ◌+◌ 0 f n
unfolding fold
sum_less f g zero each = refl
sum_less f g (suc n) each =
    let e = sum_less f g n (λ i l. each i (omega arith)) in
    let k = each n (omega arith) in
    omega arith

sum_below : (f g : ℕ → ℕ) (n : ℕ) → ((i : ℕ) → i < n → g i ≤ f i) → fold ◌+◌ 0 g n ≤ fold ◌+◌ 0 f n
sum_below f g n each = let e = sum_less f g n each in omega arith

pub sum_most : (f : ℕ → ℕ) (m n : ℕ) → ((i : ℕ) → i < n → f i ≤ m) → fold ◌+◌ 0 f n ≤ n * m
unfolding fold
sum_most f m zero each = omega arith
sum_most f m (suc n) each =
    let e = sum_most f m n (λ i l. each i (omega arith)) in
    let k = each n (omega arith) in
    omega arith

sum_part : (f : ℕ → ℕ) (n i : ℕ) → i < n → f i ≤ fold ◌+◌ 0 f n
unfolding fold
sum_part f zero i l = absurd (not-suc-le-zero l)
sum_part f (suc n) i l =
    ⊎_elim (λ e. let q = ap f e in omega arith) (λ k. let m = sum_part f n i k in omega arith)
    (eq-or-lt_of_le (le_of_suc-le-suc l))

-- ---- set points
pub points_same : (F : Frame) (A C : Picture) → Alike F A C → points F A ≡ points F C
unfolding points
points_same F A C same =
    fold_same ◌+◌ 0 _ _ F.bins (λ y ly. fold_same ◌+◌ 0 _ _ F.pings
    (λ x lx. same (record { x = x; y = y }) (record { ping = lx; bin = ly })))

-- where C lies within A, what A has more is the points of A less those of C
pub points_less : (F : Frame) (A C : Picture) → LiesWithin F C A
    → points F (less A C) + points F C ≡ points F A
unfolding points
points_less F A C within =
    ap (λ n. n + fold ◌+◌ 0 (λ y. fold ◌+◌ 0 (λ x. C x y) F.pings) F.bins)
    (fold_same ◌+◌ 0 _ _ F.bins (λ y ly. rest _ _ _ (row y ly)))
    ∙ sum_less (λ y. fold ◌+◌ 0 (λ x. A x y) F.pings) (λ y. fold ◌+◌ 0 (λ x. C x y) F.pings) F.bins
    (λ y ly. sum_below (λ x. A x y) (λ x. C x y) F.pings (below y ly))
  where
    below : (y : ℕ) → y < F.bins → (x : ℕ) → x < F.pings → C x y ≤ A x y
    below y ly x lx = within (record { x = x; y = y }) (record { ping = lx; bin = ly })

    row : (y : ℕ) → y < F.bins
        → fold ◌+◌ 0 (λ x. A x y - C x y) F.pings + fold ◌+◌ 0 (λ x. C x y) F.pings
        ≡ fold ◌+◌ 0 (λ x. A x y) F.pings
    row y ly = sum_less (λ x. A x y) (λ x. C x y) F.pings (below y ly)

    rest : (a b c : ℕ) → a + b ≡ c → a ≡ c - b
    rest a b c e = omega arith

-- a frame has as many points
pub points_most : (F : Frame) (A : Picture) → Bounded 1 F A → points F A ≤ F.bins * (F.pings * 1)
unfolding points
points_most F A b =
    sum_most (λ y. fold ◌+◌ 0 (λ x. A x y) F.pings) (F.pings * 1) F.bins
    (λ y ly. sum_most (λ x. A x y) 1 F.pings
    (λ x lx. b (record { x = x; y = y }) (record { ping = lx; bin = ly })))

-- ---- the counts
module _ (F : Frame) (A : Picture) (b : Bounded 1 F A) where
  pub count_last : count_at F A sides ≡ survivors F A sides
  unfolding count_at
  count_last = refl

  other : (k : ℕ) → k < sides → count_at F A k ≡ points F (less (survived F A k) (survived F A (k + 1)))
  unfolding count_at
  other k l =
      ap (λ t. cond t (survivors F A k) (points F (less (survived F A k) (survived F A (k + 1)))))
      (ne_eqb k sides (λ e. absurd (omega arith)))

  pub count_rest : (k : ℕ) → 1 ≤ k → k < sides → count_at F A k + survivors F A (k + 1) ≡ survivors F A k
  count_rest k some l =
      ap (λ n. n + survivors F A (k + 1)) (other k l)
      ∙ points_less F (survived F A k) (survived F A (k + 1)) (next_side F A b k some)

  -- the counts of the first n sides, and what the next side keeps
  so_far : (n : ℕ) → n < sides → fold ◌+◌ 0 (λ i. count_at F A (i + 1)) n + survivors F A (n + 1) ≡ points
      F A
  unfolding fold
  so_far zero l = none (survivors F A 1) ∙ points_same F (survived F A 1) A (side_one F A b)
    where
      none : (n : ℕ) → 0 + n ≡ n
      none n = omega arith
  so_far (suc n) l =
      let e = so_far n (omega arith) in
      let k = count_rest (n + 1) (omega arith) (omega arith) in
      let m : suc n + 1 ≡ n + 1 + 1 = omega arith in
      let q = ap (survivors F A) m in
      omega arith

  one_more : (n : ℕ) → fold ◌+◌ 0 (λ i. count_at F A (i + 1)) (suc n)
      ≡ fold ◌+◌ 0 (λ i. count_at F A (i + 1)) n + count_at F A (n + 1)
  unfolding fold
  one_more n = refl

  -- the 32 counts sum to the picture's set points
  pub counts_sum : fold ◌+◌ 0 (λ i. count_at F A (i + 1)) sides ≡ points F A
  counts_sum =
      one_more 31 ∙ ap (λ n. fold ◌+◌ 0 (λ i. count_at F A (i + 1)) 31 + n) count_last ∙ so_far 31 (omega
      arith)

  -- so that none is more
  pub count_most : (i : ℕ) → i < sides → count_at F A (i + 1) ≤ points F A
  count_most i l = let m = sum_part (λ i. count_at F A (i + 1)) sides i l in omega (arith, counts_sum)

-- ---- pictures that are the same at each point of the frame have the same spectrum
module _ (F : Frame) (A C : Picture) (same : Alike F A C) where
  survived_alike : (k : ℕ) → Alike F (survived F A k) (survived F C k)
  survived_alike k p i =
      dilate_alike flat F (square k) _ _ (λ q j. erode_alike flat F (square k) A C same q 1) p

  count_alike : (k : ℕ) → count_at F A k ≡ count_at F C k
  unfolding count_at
  count_alike k =
      ap₂ (cond (eqb k sides)) (points_same F _ _ (survived_alike k))
      (points_same F _ _ (λ p i. ap₂ (λ a b. a - b) (survived_alike k p i) (survived_alike (k + 1) p i)))

  pub spectrum_alike : spectrum F A ≡ spectrum F C
  unfolding spectrum
  spectrum_alike = firsts_same _ _ sides (λ i l. count_alike (i + 1))
