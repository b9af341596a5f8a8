-- The cells of one row of an element, folded one after another into a row; and folds that agree.
use Prim.Native.Nat.{ℕ, zero, suc, ◌+◌, ◌<◌}
use mathlib.Core.Path.{◌≡◌, refl, ap, ap₂, ◌∙◌}
use mathlib.Core.Bool.{Bool, true, false, cond, ◌&&◌}
use mathlib.Core.List.{List}
use native.Mathlib.Omega.{arith}
use native.Mathlib.Numerals.{add-one}
use lib.Dec.{T}
use lib.ListN.{length, get_or}
use Rattle.basics.proofs.Lists.{get_d_firsts, list_is, firsts_same}
use Rattle.morphology.specs.Operations.{Change, moved, within}
use Rattle.basics.proofs.Truth.{and_parts}
use Rattle.rows.proofs.Places.{within_inside}
use Rattle.rows.specs.Steps.Fold.{join_by, plus_by, minus_by, fold_if, folded_at}
use Rattle.rows.specs.Steps.Row.{cell_row, folded_row, columns_of}

-- ---- cell after cell
module _ (grows : Bool) (change : Change) (height : ℕ → ℕ)
    (t s : List ℕ) (w : ℕ) (has : ℕ → Bool) (o : ℕ) where
  -- the row after the first n cells
  unfoldable pub so_far : ℕ → List ℕ
  so_far n = folded_row grows change height t (columns_of s) w has n o

  pub cells_none : length t ≡ w → t ≡ so_far 0
  unfolding so_far folded_row folded_at fold_if
  cells_none e = list_is _ w t e (λ x h. refl)

  pub cells_more : (n : ℕ) (u v : List ℕ) → u ≡ so_far n
      → v ≡ cell_row grows change (height n) (has n) u s w (plus_by grows o n) (minus_by grows o n)
      → v ≡ so_far (n + 1)
  unfolding so_far folded_row folded_at cell_row fold_if
  cells_more n u v eu ev =
      ev ∙ rw (add-one n)
      (firsts_same _ _ w (λ x h.
      ap (λ q. cond (has n && within w x (plus_by grows o n) (minus_by grows o n))
      (join_by grows q (change (height n) (get_or s (moved x (plus_by grows o n) (minus_by grows o n)) 0))) q)
      (ap (λ l. get_or l x 0) eu
      ∙ get_d_firsts (λ x. folded_at grows change height (columns_of s) w has n o (get_or t x 0) x) w x h)))

  pub cells_all : (n wide : ℕ) (u : List ℕ) → u ≡ so_far n → n ≡ wide
      → u ≡ folded_row grows change height t (columns_of s) w has wide o
  unfolding so_far
  cells_all n wide u e q = e ∙ simp q

-- ---- sources that agree in the row, and heights that agree in the element's, give the same
cond_held : (b : Bool) (x y z : ℕ) → (T b → x ≡ y) → cond b x z ≡ cond b y z
cond_held true x y z h = h tt
cond_held false x y z h = refl

fold_if_same : (join : ℕ → ℕ → ℕ) (a : ℕ) (p : ℕ → Bool) (f g : ℕ → ℕ) (n : ℕ)
    → ((i : ℕ) → i < n → T (p i) → f i ≡ g i) → fold_if join a p f n ≡ fold_if join a p g n
unfolding fold_if
fold_if_same join a p f g zero all = refl
fold_if_same join a p f g (suc n) all =
    let e = fold_if_same join a p f g n (λ i l. all i (omega arith)) in
    ap (λ k. cond (p n) (join k (f n)) k) e
    ∙ cond_held (p n) _ _ _ (λ h. ap (join (fold_if join a p g n)) (all n (omega arith) h))

module _ (grows : Bool) (change : Change) (w : ℕ) (has : ℕ → Bool) (wide o : ℕ) (heights others f g : ℕ → ℕ)
    (each : (c : ℕ) → c < wide → heights c ≡ others c) (all : (u : ℕ) → u < w → f u ≡ g u) where
  pub folded_same : (v x : ℕ)
      → folded_at grows change heights f w has wide o v x ≡ folded_at grows change others g w has wide o v x
  unfolding folded_at
  folded_same v x =
      fold_if_same (join_by grows) v _ _ _ wide (λ c l h. ap₂ change (each c l) (all _ (inside c h)))
    where
      inside : (c : ℕ) → T (has c && within w x (plus_by grows o c) (minus_by grows o c))
          → moved x (plus_by grows o c) (minus_by grows o c) < w
      inside c h =
          within_inside w x (plus_by grows o c) (minus_by grows o c)
          (and_parts (has c) (within w x (plus_by grows o c) (minus_by grows o c)) h).1

  pub folded_row_same : (t : List ℕ)
      → folded_row grows change heights t f w has wide o ≡ folded_row grows change others t g w has wide o
  unfolding folded_row
  folded_row_same t = firsts_same _ _ w (λ x h. folded_same (get_or t x 0) x)
