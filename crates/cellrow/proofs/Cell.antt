-- The columns of a row that one cell was folded into.
use Prim.Native.Nat.{ℕ, ◌+◌, ◌-◌, ◌≤◌, ◌<◌, min}
use mathlib.Core.Path.{◌≡◌, sym, ap, ap₂, ◌∙◌, subst, subst₂}
use mathlib.Core.Bool.{Bool, true, false, cond, ◌&&◌}
use mathlib.Core.List.{List}
use mathlib.Core.Logic.{⊎_elim}
use native.Mathlib.Omega.{arith}
use borrow.Rule.Slice.PartMut.{mid_of, put_mid}
use lib.ListN.{length, get_or}
use Rattle.basics.specs.Lists.{firsts}
use Rattle.basics.proofs.Lists.{list_is}
use Rattle.basics.proofs.SliceParts.{below_or_not, put_before, put_within}
use Rattle.basics.proofs.SliceParts.{put_after, put_length, get_mid, length_mid}
use Rattle.morphology.specs.Operations.{Change, moved, within}
use Rattle.basics.specs.Zip.{zip_in}
use Rattle.rows.specs.Steps.Fold.{join_by}
use Rattle.rows.specs.Steps.Row.{cell_row}
use Rattle.rows.proofs.Places.{within_yes, within_low, within_high}
use Rattle.basics.proofs.Zip.{zip_get, length_zip}

-- the source column beside column x, where the joined part begins at a in the target and at b in the source
beside : (w p m a b x : ℕ) → a ≡ min (m - p) w → b ≡ min (p - m) w → a ≤ x → x < w - b
    → b + (x - a) ≡ x + p - m
beside w p m a b x ea eb h k =
    ap₂ (λ n l. n + (x - l)) (start_b b (p - m) x w k eb) at_a ∙ sum x p m (subst (λ n. n ≤ x) at_a h)
  where
    start_a : (a d x w : ℕ) → a ≤ x → x < w → a ≡ min d w → a ≡ d
    start_a a d x w h k e = omega arith

    start_b : (b d x w : ℕ) → x < w - b → b ≡ min d w → b ≡ d
    start_b b d x w k e = omega arith

    below : (x w b : ℕ) → x < w - b → x < w
    below x w b k = omega arith

    at_a : a ≡ m - p
    at_a = start_a a (m - p) x w h (below x w b k) ea

    sum : (x p m : ℕ) → m - p ≤ x → p - m + (x - (m - p)) ≡ x + p - m
    sum x p m h = omega arith

room_t : (w a b x : ℕ) → a ≤ x → x < w - b → x - a < w - b - a
room_t w a b x h k = omega arith

room_s : (w a b x : ℕ) → a ≤ x → x < w - b → x - a < w - a - b
room_s w a b x h k = omega arith

reach_low : (w p m a b x : ℕ) → a ≡ min (m - p) w → a ≤ x → x < w - b → m ≤ x + p
reach_low w p m a b x e h k = omega arith

reach_high : (w p m b x : ℕ) → b ≡ min (p - m) w → x < w - b → x + p - m < w
reach_high w p m b x e h = omega arith

-- ---- one cell
-- the columns from a on and before w - b are those whose place lies in the row
module _ (op : ℕ → ℕ → ℕ) (t s ys : List ℕ) (w p m a b : ℕ) (lt : length t ≡ w)
    (ls : length s ≡ w) (ea : a ≡ min (m - p) w) (eb : b ≡ min (p - m) w)
    (ey : ys ≡ zip_in op (mid_of a (w - b - a) t) (mid_of b (w - a - b) s)) where
  abbrev cell_at : ℕ → ℕ
  cell_at x = cond (within w x p m) (op (get_or t x 0) (get_or s (moved x p m) 0)) (get_or t x 0)

  fits_t : a + (w - b - a) ≤ length t
  fits_t = omega arith

  fits_s : b + (w - a - b) ≤ length s
  fits_s = omega arith

  len_ys : length ys ≡ w - b - a
  len_ys = ap length ey ∙ length_zip op (mid_of a (w - b - a) t) _ ∙ length_mid a (w - b - a) t fits_t

  stays : (x : ℕ) → within w x p m ≡ false → get_or t x 0 ≡ cell_at x
  stays x e = ap (λ q. cond q (op (get_or t x 0) (get_or s (x + p - m) 0)) (get_or t x 0)) (sym e)

  inside : (x : ℕ) → a ≤ x → x < w - b → get_or (put_mid a (w - b - a) t ys) x 0 ≡ cell_at x
  inside x h k =
      let j = x - a in
      let here : x ≡ a + j = omega arith in
      let there : b + j ≡ x + p - m = beside w p m a b x ea eb h k in
      let k1 : j < w - b - a = room_t w a b x h k in
      let k2 : j < w - a - b = room_s w a b x h k in
      ap (λ n. get_or (put_mid a (w - b - a) t ys) n 0) here
      ∙ put_within a (w - b - a) t ys fits_t len_ys j k1
      ∙ ap (λ l. get_or l j 0) ey
      ∙ zip_get op (mid_of a (w - b - a) t) (mid_of b (w - a - b) s) j
      (subst (λ n. j < n) (sym (length_mid a (w - b - a) t fits_t)) k1)
      (subst (λ n. j < n) (sym (length_mid b (w - a - b) s fits_s)) k2)
      ∙ ap₂ op (get_mid a (w - b - a) t j k1 ∙ ap (λ n. get_or t n 0) (sym here))
      (get_mid b (w - a - b) s j k2 ∙ ap (λ n. get_or s n 0) there)
      ∙ ap (λ q. cond q (op (get_or t x 0) (get_or s (x + p - m) 0)) (get_or t x 0))
      (sym (within_yes w x p m (reach_low w p m a b x ea h k) (reach_high w p m b x eb k)))

  at : (x : ℕ) → x < w → get_or (put_mid a (w - b - a) t ys) x 0 ≡ cell_at x
  at x h =
      ⊎_elim
      (λ k. put_before a (w - b - a) t ys fits_t len_ys x k ∙ stays x (within_low w x p m (omega arith)))
      (λ k. ⊎_elim (λ q. inside x k q) (λ q. put_after a (w - b - a) t ys fits_t len_ys x (omega arith)
      ∙ stays x (within_high w x p m (omega arith) (omega arith))) (below_or_not x (w - b)))
      (below_or_not x a)

  -- over any operation on the row's value and the source's
  pub cell_folded : put_mid a (w - b - a) t ys ≡ firsts (λ x. cell_at x) w
  cell_folded = list_is cell_at w _ (put_length a (w - b - a) t ys fits_t len_ys ∙ lt) at

-- of a cell that is set and changes what it finds by its height, and of one that is not
pub cell_set : (grows : Bool) (change : Change) (g : ℕ) (set : Bool) (t s ys : List ℕ) (w p m a b : ℕ)
    → length t ≡ w → length s ≡ w
    → a ≡ min (m - p) w → b ≡ min (p - m) w
    → ys ≡ zip_in (λ u v. join_by grows u (change g v)) (mid_of a (w - b - a) t) (mid_of b (w - a - b) s)
    → set ≡ true → put_mid a (w - b - a) t ys ≡ cell_row grows change g set t s w p m
unfolding cell_row
cell_set grows change g set t s ys w p m a b lt ls ea eb ey e =
    cell_folded (λ u v. join_by grows u (change g v)) t s ys w p m a b lt ls ea eb ey ∙ simp e

pub cell_unset : (grows : Bool) (change : Change) (g : ℕ) (set : Bool) (t s : List ℕ) (w p m : ℕ)
    → length t ≡ w → set ≡ false → t ≡ cell_row grows change g set t s w p m
unfolding cell_row
cell_unset grows change g set t s w p m e q =
    list_is _ w t e (λ x h. ap (λ b. cond (b && within w x p m)
    (join_by grows (get_or t x 0) (change g (get_or s (moved x p m) 0))) (get_or t x 0)) (sym q))

-- ---- the parts lie in their rows
pub part_order : (w p m a b : ℕ) → a ≡ min (m - p) w → b ≡ min (p - m) w → b ≤ w - a
part_order w p m a b ea eb = omega arith

pub part_end : (w a n : ℕ) → n ≡ w → w - a ≤ n
part_end w a n e = omega arith

pub parts_alike : (t s : List ℕ) (w p m a b : ℕ) → length t ≡ w → length s ≡ w → a ≡ min (m - p) w
    → b ≡ min (p - m) w → length (mid_of b (w - a - b) s) ≤ length (mid_of a (w - b - a) t)
parts_alike t s w p m a b lt ls ea eb =
    subst₂ (λ u v. u ≤ v)
    (sym (length_mid b (w - a - b) s (subst (λ n. b + (w - a - b) ≤ n) (sym ls) (in_s w p m a b ea eb))))
    (sym (length_mid a (w - b - a) t (subst (λ n. a + (w - b - a) ≤ n) (sym lt) (in_t w p m a b ea eb))))
    (same w a b)
  where
    same : (w a b : ℕ) → w - a - b ≤ w - b - a
    same w a b = omega arith

    in_s : (w p m a b : ℕ) → a ≡ min (m - p) w → b ≡ min (p - m) w → b + (w - a - b) ≤ w
    in_s w p m a b ea eb = omega arith

    in_t : (w p m a b : ℕ) → a ≡ min (m - p) w → b ≡ min (p - m) w → a + (w - b - a) ≤ w
    in_t w p m a b ea eb = omega arith
