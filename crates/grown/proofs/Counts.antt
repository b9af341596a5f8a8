-- How many points of the frame are set: more where a picture gains a point,
-- and never more than there are points.
use Prim.Native.Nat.{ℕ, zero, suc, ◌+◌, ◌*◌, ◌≤◌, ◌<◌}
use mathlib.Core.Path.{◌≡◌, subst}
use mathlib.Core.Logic.{◌⊎◌, ⊎_elim}
use native.Mathlib.Nat.{not-suc-le-zero, le_of_suc-le-suc, eq-or-lt_of_le, le_refl, le_antisymm}
use native.Mathlib.Omega.{arith}
use native.Mathlib.Decide.{dec_lt}
use Rattle.picture.specs.Frame.{Frame}
use Rattle.picture.specs.Bytes.{Picture}
use Rattle.morphology.specs.Step.{Place, In}
use Rattle.morphology.specs.Order.{LiesWithin, Alike, Bounded}

-- f 0 + f 1 + .. + f (n - 1)
unfoldable pub total : (ℕ → ℕ) → ℕ → ℕ
total f zero = 0
total f (suc n) = total f n + f n

pub total_most : (f : ℕ → ℕ) (m n : ℕ) → ((i : ℕ) → i < n → f i ≤ m) → total f n ≤ n * m
unfolding total
total_most f m zero each = omega arith
total_most f m (suc n) each =
    omega (arith, total_most f m n (λ i l. each i (omega arith)), each n (omega arith))

module _ (f g : ℕ → ℕ) where
  pub total_le : (n : ℕ) → ((i : ℕ) → i < n → f i ≤ g i) → total f n ≤ total g n
  unfolding total
  total_le zero each = le_refl 0
  total_le (suc n) each = omega (arith, total_le n (λ i l. each i (omega arith)), each n (omega arith))

  pub total_lt : (n : ℕ) → ((i : ℕ) → i < n → f i ≤ g i) → (k : ℕ) → k < n → f k < g k
      → total f n < total g n
  unfolding total
  total_lt zero each k l h = absurd (not-suc-le-zero l)
  total_lt (suc n) each k l h =
      ⊎_elim
      (λ e. let here : f n < g n = subst (λ i. f i < g i) e h in
      omega (arith, total_le n (λ i l. each i (omega arith)), here))
      (λ k<n. omega (arith, total_lt n (λ i l. each i (omega arith)) k k<n h, each n (omega arith)))
      (eq-or-lt_of_le (le_of_suc-le-suc l))

-- the set points of a one-bit picture, row after row
unfoldable pub count : Frame → Picture → ℕ
count F A = total (λ y. total (λ x. A x y) F.pings) F.bins

pub count_most : (F : Frame) (A : Picture) → Bounded 1 F A → count F A ≤ F.bins * F.pings
unfolding count
count_most F A b =
    total_most (λ y. total (λ x. A x y) F.pings) F.pings F.bins
    (λ y ly. let row = total_most (λ x. A x y) 1 F.pings
    (λ x lx. b (record { x = x; y = y }) (record { ping = lx; bin = ly })) in omega arith)

module _ (F : Frame) (A C : Picture) (h : LiesWithin F A C) where
  rows_le : (y : ℕ) → y < F.bins → total (λ x. A x y) F.pings ≤ total (λ x. C x y) F.pings
  rows_le y ly =
      total_le _ _ F.pings (λ x lx. h (record { x = x; y = y }) (record { ping = lx; bin = ly }))

  pub count_le : count F A ≤ count F C
  unfolding count
  count_le = total_le _ _ F.bins rows_le

  pub count_lt : (p : Place) → In F p → A p.x p.y < C p.x p.y → count F A < count F C
  unfolding count
  count_lt p i l =
      total_lt _ _ F.bins rows_le p.y i.bin
      (total_lt _ _ F.pings
      (λ x lx. h (record { x = x; y = p.y }) (record { ping = lx; bin = i.bin })) p.x i.ping l)

  -- what gains no point is the same
  pub count_alike : count F C ≤ count F A → Alike F A C
  count_alike few p i = by (dec_lt (A p.x p.y) (C p.x p.y))
    where
      by : Dec (A p.x p.y < C p.x p.y) → A p.x p.y ≡ C p.x p.y
      by (yes l) = absurd (let k = count_lt p i l in omega arith)
      by (no n) = le_antisymm (h p i) (omega arith)
