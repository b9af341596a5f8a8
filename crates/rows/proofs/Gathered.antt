-- Two nested folds over a joining function and its start,
-- as the code runs them and as the definitions have them: stated once, both operations have what is asked.
use Prim.Native.Nat.{ℕ, zero, suc, min, max}
use mathlib.Core.Path.{◌≡◌, refl, sym, ap, ◌∙◌}
use mathlib.Core.Bool.{Bool, true, false, cond, ◌&&◌}
use native.Mathlib.Omega.{arith}
use Rattle.picture.specs.Frame.{Frame}
use Rattle.picture.specs.Bytes.{Picture}
use Rattle.element.specs.Shape.{Shape}
use Rattle.morphology.specs.Operations.{fold, gather, moved, within, Change, erode_by, dilate_by}
use Rattle.morphology.proofs.Cells.{fold_same}
use Rattle.rows.specs.Steps.Ways.{swept_by}
use Rattle.rows.specs.Steps.Fold.{join_by, plus_by, minus_by, start_by, fold_if, folded_at}

-- what is asked of a joining function and its start
record Joins (op : ℕ → ℕ → ℕ) (u : ℕ) : Type 0 where
  assoc : (a b c : ℕ) → op (op a b) c ≡ op a (op b c)
  swap : (a b c : ℕ) → op (op a b) c ≡ op (op a c) b
  unit : op u u ≡ u

least_joins : (top : ℕ) → Joins min top
least_joins top = record { assoc = λ a b c. omega arith; swap = λ a b c. omega arith; unit = omega arith }

most_joins : Joins max 0
most_joins = record { assoc = λ a b c. omega arith; swap = λ a b c. omega arith; unit = omega arith }

-- the rows of an element, one after another; those that lead out of the frame are passed over
unfoldable pub rows_if : (ℕ → ℕ → ℕ) → ℕ → (ℕ → ℕ → Bool) → (ℕ → Bool) → (ℕ → Bool) → (ℕ → ℕ → ℕ) → ℕ → ℕ → ℕ
rows_if op u has across down value wide zero = u
rows_if op u has across down value wide (suc r) =
    cond (down r)
    (fold_if op (rows_if op u has across down value wide r) (λ c. has c r && across c) (λ c. value c r) wide)
    (rows_if op u has across down value wide r)

and_true : (a b : Bool) → a && (b && true) ≡ a && b
and_true true true = refl
and_true true false = refl
and_true false b = refl

and_false : (a b : Bool) → a && (b && false) ≡ false
and_false true true = refl
and_false true false = refl
and_false false b = refl

module _ (op : ℕ → ℕ → ℕ) (u : ℕ) (J : Joins op u) where
  -- a fold that begins with the start takes it in once more
  fold_start : (f : ℕ → ℕ) (n : ℕ) → op (fold op u f n) u ≡ fold op u f n
  unfolding fold
  fold_start f zero = J.unit
  fold_start f (suc n) = J.swap (fold op u f n) (f n) u ∙ ap (λ k. op k (f n)) (fold_start f n)

  fold_starts : (n : ℕ) → fold op u (λ i. u) n ≡ u
  unfolding fold
  fold_starts zero = refl
  fold_starts (suc n) = ap (λ k. op k u) (fold_starts n) ∙ J.unit

  -- what is skipped may as well be the start
  if_all : (a : ℕ) (p : ℕ → Bool) (f : ℕ → ℕ) (n : ℕ) → op a u ≡ a
      → fold_if op a p f n ≡ op a (fold op u (λ i. cond (p i) (f i) u) n)
  unfolding fold_if fold
  if_all a p f zero h = sym h
  if_all a p f (suc n) h = go (p n) (if_all a p f n h)
    where
      Y : ℕ
      Y = fold op u (λ i. cond (p i) (f i) u) n

      go : (b : Bool) → fold_if op a p f n ≡ op a Y
          → cond b (op (fold_if op a p f n) (f n)) (fold_if op a p f n) ≡ op a (op Y (cond b (f n) u))
      go true e = ap (λ k. op k (f n)) e ∙ J.assoc a Y (f n)
      go false e = e ∙ ap (op a) (sym (fold_start (λ i. cond (p i) (f i) u) n))

  module _ (has : ℕ → ℕ → Bool) (across : ℕ → Bool) (down : ℕ → Bool) (value : ℕ → ℕ → ℕ) (wide : ℕ) where
    abbrev row_all : ℕ → ℕ
    row_all r = fold op u (λ c. cond (has c r && (across c && down r)) (value c r) u) wide

    one_row : (r k : ℕ) → k ≡ fold op u row_all r → (b : Bool)
        → cond b (fold_if op k (λ c. has c r && across c) (λ c. value c r) wide) k
        ≡ op (fold op u row_all r) (fold op u (λ c. cond (has c r && (across c && b)) (value c r) u) wide)
    one_row r k e true =
        ap (λ k. fold_if op k (λ c. has c r && across c) (λ c. value c r) wide) e
        ∙ if_all (fold op u row_all r) (λ c. has c r && across c) (λ c. value c r) wide (fold_start row_all r)
        ∙ ap (op (fold op u row_all r)) (fold_same op u _ _ wide
        (λ c l. ap (λ b. cond b (value c r) u) (sym (and_true (has c r) (across c)))))
    one_row r k e false =
        e ∙ sym (fold_start row_all r)
        ∙ ap (op (fold op u row_all r)) (sym (fold_starts wide) ∙ fold_same op u _ _ wide
        (λ c l. ap (λ b. cond b (value c r) u) (sym (and_false (has c r) (across c)))))

    rows_nest : (n : ℕ) → rows_if op u has across down value wide n ≡ fold op u row_all n
    unfolding rows_if fold
    rows_nest zero = refl
    rows_nest (suc r) = one_row r (rows_if op u has across down value wide r) (rows_nest r) (down r)

-- ---- the value at a point after n rows of the element
module _ (grows : Bool) (change : Change) (top : ℕ) (F : Frame) (B : Shape) (A : Picture) (x y : ℕ) where
  unfoldable pub rows_at : ℕ → ℕ
  rows_at n =
      rows_if (join_by grows) (start_by grows top) B.has
      (λ c. within F.pings x (plus_by grows B.origin_column c) (minus_by grows B.origin_column c))
      (λ r. within F.bins y (plus_by grows B.origin_row r) (minus_by grows B.origin_row r))
      (λ c r. change (B.height c r)
      (A (moved x (plus_by grows B.origin_column c) (minus_by grows B.origin_column c))
      (moved y (plus_by grows B.origin_row r) (minus_by grows B.origin_row r))))
      B.wide n

  pub rows_at_none : rows_at 0 ≡ start_by grows top
  unfolding rows_at rows_if
  rows_at_none = refl

  -- one row more, where its source row is in the frame
  pub rows_at_more : (r : ℕ) → rows_at (suc r)
      ≡ cond (within F.bins y (plus_by grows B.origin_row r) (minus_by grows B.origin_row r))
      (folded_at grows change (λ c. B.height c r)
      (λ u. A u (moved y (plus_by grows B.origin_row r) (minus_by grows B.origin_row r)))
      F.pings (λ c. B.has c r) B.wide B.origin_column (rows_at r) x)
      (rows_at r)
  unfolding rows_at rows_if folded_at
  rows_at_more r = refl

-- after all of them it is the definition's
pub rows_at_all : (grows : Bool) (change : Change) (top : ℕ) (F : Frame) (B : Shape) (A : Picture) (x y : ℕ)
    → rows_at grows change top F B A x y B.high ≡ swept_by grows change top F B A x y
unfolding rows_at erode_by dilate_by gather
rows_at_all true change top F B A x y = rows_nest max 0 most_joins _ _ _ _ B.wide B.high
rows_at_all false change top F B A x y = rows_nest min top (least_joins top) _ _ _ _ B.wide B.high
