-- THE THEOREMS of request (xiv), for a frame of W pings and H bins, its points A, and any R that gives each
-- node the first of its region.
use Prim.Native.Nat.{ℕ, zero, suc, ◌+◌, ◌-◌, ◌*◌, ◌≤◌, ◌<◌}
use mathlib.Core.Path.{◌≡◌, refl, ap, ◌∙◌}
use mathlib.Core.Bool.{Bool, true, false, cond}
use mathlib.Core.List.{List, [], ◌∷◌, ◌++◌}
use native.Mathlib.Omega.{arith}
use lib.Dec.{eqb}
use lib.ListN.{length, length-append}
use Rattle.basics.specs.Lists.{joined}
use Rattle.regions.specs.Regions.{Firsts}
use Rattle.regions.specs.Listing.{parent_of, count_of, walk, itself, line, order, listing, regions_of}
use Rattle.regions.specs.Once.{times, After, seconds_sum, EachOnce}
use Rattle.regions.proofs.Sums.{total}
use Rattle.regions.proofs.Walks.{length_lines, parent_less}
use Rattle.regions.proofs.Once.{once, never, order_length, counts_sum}
use Rattle.regions.proofs.Parents.{after_parent}
use Rattle.regions.proofs.Firsts.{first_low, first_twice}

-- sums of lines
seconds_append : (k : ℕ) (l m : List ℕ) → length l ≡ 2 * k → seconds_sum (l ++ m) ≡ seconds_sum l
    + seconds_sum m
unfolding seconds_sum
seconds_append zero [] m e = omega arith
seconds_append zero (a ∷ l) m e = absurd (omega arith)
seconds_append (suc k) [] m e = absurd (omega arith)
seconds_append (suc k) (a ∷ []) m e = absurd (omega arith)
seconds_append (suc k) (a ∷ b ∷ l) m e = omega (arith, seconds_append k l m (omega arith))

total_append : (g : ℕ → ℕ) (l m : List ℕ) → total g (l ++ m) ≡ total g l + total g m
unfolding total
total_append g [] m = omega arith
total_append g (x ∷ l) m = omega (arith, total_append g l m)

-- lists of lines beside lists of regions
record Beside (g : ℕ → ℕ) (l m : List ℕ) : Type 0 where
  long : length l ≡ 2 * length m
  sums : seconds_sum l ≡ total g m

beside_none : (g : ℕ → ℕ) → Beside g [] []
unfolding seconds_sum total
beside_none g = record { long = refl; sums = refl }

one_line : (R : ℕ → ℕ) (n r d : ℕ) → Beside (λ r. count_of R r n) (line R n r d) (r ∷ [])
unfolding seconds_sum total
one_line R n r d = record { long = refl; sums = refl }

beside_append : (g : ℕ → ℕ) (l m l' m' : List ℕ) → Beside g l m → Beside g l' m'
    → Beside g (l ++ l') (m ++ m')
beside_append g l m l' m' b b' =
    record {
      long = omega (arith, length-append l l', length-append m m', b.long, b'.long);
      sums = omega (arith, seconds_append (length m) l l' b.long, total_append g m m', b.sums, b'.sums);
    }

beside_joined : (g : ℕ → ℕ) (F G : ℕ → List ℕ) (n : ℕ) → ((i : ℕ) → i < n → Beside g (F i) (G i))
    → Beside g (joined F n) (joined G n)
unfolding joined
beside_joined g F G zero e = beside_none g
beside_joined g F G (suc n) e =
    beside_append g (joined F n) (joined G n) (F n) (G n) (beside_joined g F G n (λ i h. e i (omega arith)))
    (e n (omega arith))

beside_walk : (R : ℕ → ℕ) (w n f r d : ℕ) → Beside (λ r. count_of R r n) (walk (line R n) R w n f r d)
    (walk itself R w n f r d)
unfolding walk
beside_walk R w n zero r d = beside_none (λ r. count_of R r n)
beside_walk R w n (suc f) r d =
    beside_append (λ r. count_of R r n) (line R n r d) (r ∷ []) _ _ (one_line R n r d)
    (beside_joined (λ r. count_of R r n) _ _ n (λ i _. by (eqb (R (i + 1)) (i + 1))
    (eqb (parent_of R w (i + 1)) r) _ _ (beside_walk R w n f (i + 1) (d + 1))))
  where
    by : (s t : Bool) (X Y : List ℕ) → Beside (λ r. count_of R r n) X Y
        → Beside (λ r. count_of R r n) (cond s (cond t X []) []) (cond s (cond t Y []) [])
    by true true X Y b = b
    by true false X Y b = beside_none (λ r. count_of R r n)
    by false t X Y b = beside_none (λ r. count_of R r n)

module _ (w h : ℕ) (A R : ℕ → ℕ) (first : Firsts w h A R) where
  abbrev n : ℕ
  n = h * w

  low : (a : ℕ) → a ≤ n → R a ≤ a
  low = first_low w h A R first

  twice : (a : ℕ) → a ≤ n → R (R a) ≡ R a
  twice = first_twice w h A R first

  -- each region comes once, named by its first node, and nothing else comes
  pub region_once : (c : ℕ) → c ≤ n → R c ≡ c → times c (order R w n) ≡ 1
  region_once = once R w n low twice

  pub region_only : (c : ℕ) → (c ≤ n → R c ≡ c → ⊥) → (c ≡ 0 → ⊥) → times c (order R w n) ≡ 0
  region_only = never R w n low twice

  pub regions_all : length (order R w n) ≡ regions_of R n
  regions_all = order_length R w n low twice

  -- it comes after its parent, which is a region and has an earlier first node
  pub region_after : (c : ℕ) → 1 ≤ c → c ≤ n → R c ≡ c → After (parent_of R w c) c (order R w n)
  region_after c h k e = after_parent R w n c low twice h k e

  pub region_below : (c : ℕ) → 1 ≤ c → c ≤ n → parent_of R w c < c
  region_below = parent_less R w n low

  -- two numbers to a region, and the counts sum to W x H
  pub list_length : length (listing R w n) ≡ 2 * regions_of R n
  unfolding listing order
  list_length = length_lines R w n (n + 1) 0 0 ∙ ap (λ k. 2 * k) regions_all

  pub counts_all : seconds_sum (listing R w n) ≡ h * w
  unfolding listing order
  counts_all = (beside_walk R w n (n + 1) 0 0).sums ∙ counts_sum R w n low twice

  pub each_once : EachOnce w n R (order R w n)
  each_once = record { once = region_once; only = region_only; after = region_after }
