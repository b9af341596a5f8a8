-- The loops: nothing done, one more, all done.
use Prim.Native.Nat.{ℕ, ◌+◌, ◌*◌, ◌<◌}
use mathlib.Core.Path.{◌≡◌, refl, ap, ap₂, ◌∙◌}
use mathlib.Core.List.{List}
use native.Mathlib.Numerals.{add-one}
use lib.ListN.{length, set}
use Rattle.basics.proofs.Lists.{over_none, over_more}
use Rattle.regions.specs.Steps.Union.{root_of, united, mate_of, mates_united, point_united}
use Rattle.regions.specs.Steps.Union.{united_to}
use Rattle.regions.specs.Steps.Union.{flat_to}
use Rattle.regions.specs.Steps.Union.{alone, labelled}
use Rattle.regions.specs.Regions.{point_of}

pub alone_none : (l : List ℕ) → l ≡ alone l 0
unfolding alone
alone_none l = over_none (λ i. i) l

pub alone_more : (l u : List ℕ) (n : ℕ) → n < length l → u ≡ alone l n → set u n n ≡ alone l (n + 1)
unfolding alone
alone_more l u n h e = over_more (λ i. i) l u n n h e refl

pub flat_none : (l : List ℕ) → l ≡ flat_to l 0
unfolding flat_to
flat_none l = refl

pub flat_more : (l u : List ℕ) (n r : ℕ) → u ≡ flat_to l n → r ≡ root_of u n → set u n r ≡ flat_to l (n + 1)
unfolding flat_to
flat_more l u n r e k = rw (add-one n) (ap (λ r. set u n r) k ∙ ap (λ u. set u n (root_of u n)) e)

module _ (A : ℕ → ℕ) (w h : ℕ) (l : List ℕ) where
  pub points_none : l ≡ united_to A w h l 0
  unfolding united_to
  points_none = refl

  pub points_more : (u v : List ℕ) (n : ℕ) → u ≡ united_to A w h l n → v ≡ point_united A w h u n
      → v ≡ united_to A w h l (n + 1)
  unfolding united_to
  points_more u v n e k = rw (add-one n) (k ∙ ap (λ u. point_united A w h u n) e)

-- one point: its mates one after another
module _ (A : ℕ → ℕ) (w h i : ℕ) (l : List ℕ) where
  pub mates_none : l ≡ mates_united A w h i l 0
  unfolding mates_united
  mates_none = refl

  pub mates_more : (u v : List ℕ) (k m : ℕ) → u ≡ mates_united A w h i l k → m ≡ mate_of A w h i k
      → v ≡ united u (i + 1) m → v ≡ mates_united A w h i l (k + 1)
  unfolding mates_united
  mates_more u v k m e q t = rw (add-one k) (t ∙ ap₂ (λ u m. united u (i + 1) m) e q)

  pub mates_all : (u : List ℕ) (k : ℕ) → k ≡ 5 → u ≡ mates_united A w h i l k → u ≡ point_united A w h l i
  unfolding point_united
  mates_all u k e q = q ∙ ap (mates_united A w h i l) e

-- the whole
pub label_steps : (s : List ℕ) (w h : ℕ) (l l1 l2 l3 : List ℕ) → l1 ≡ alone l (h * w + 1)
    → l2 ≡ united_to (point_of s w) w h l1 (h * w) → l3 ≡ flat_to l2 (h * w + 1) → l3 ≡ labelled s w h l
unfolding labelled
label_steps s w h l l1 l2 l3 e1 e2 e3 = e3 ∙ ap (λ l. flat_to l (h * w + 1)) (e2
    ∙ ap (λ l. united_to (point_of s w) w h l (h * w)) e1)
