-- Rows of one length, one after another: written over what was there, and read back.
use Prim.Native.Nat.{ℕ, zero, suc, ◌+◌, ◌-◌, ◌*◌, ◌<◌}
use mathlib.Core.Path.{◌≡◌, refl, sym, ap, ap₂, ◌∙◌, subst}
use mathlib.Core.List.{List, ◌++◌, append_assoc}
use mathlib.Core.Logic.{⊎_elim}
use native.Mathlib.Omega.{arith}
use native.Mathlib.Numerals.{add-one}
use native.Mathlib.Nat.{add-sub_cancel_left, not-suc-le-zero, le_of_suc-le-suc, eq-or-lt_of_le}
use borrow.Rule.Slice.PartMut.{put_mid}
use lib.ListN.{length, get_or, drop, length-append, get_or-append}
use lib.Seq.{take_at, drop_at, drop-drop, get_or-append-add}
use Rattle.basics.specs.Lists.{joined}

module _ (R : ℕ → List ℕ) (k : ℕ) (each : (y : ℕ) → length (R y) ≡ k) where
  pub length_joined : (n : ℕ) → length (joined R n) ≡ n * k
  unfolding joined
  length_joined zero = sum k
    where
      sum : (k : ℕ) → 0 ≡ 0 * k
      sum k = omega arith
  length_joined (suc n) =
      length-append (joined R n) (R n) ∙ ap₂ (λ a b. a + b) (length_joined n) (each n) ∙ sum n k
    where
      sum : (n k : ℕ) → n * k + k ≡ suc n * k
      sum n k = omega arith

  -- a loop that writes row after row: none, one more, all
  pub rows_none : (t : List ℕ) → t ≡ joined R 0 ++ drop (0 * k) t
  unfolding joined
  rows_none t = ap (λ n. drop n t) (zero_times k)
    where
      zero_times : (k : ℕ) → 0 ≡ 0 * k
      zero_times k = omega arith

  pub rows_more : (n y : ℕ) (t₀ t ys : List ℕ) → n ≡ k → t ≡ joined R y ++ drop (y * k) t₀ → ys ≡ R y
      → put_mid (y * n) (y * n + n - y * n) t ys ≡ joined R (y + 1) ++ drop ((y + 1) * k) t₀
  unfolding joined
  rows_more n y t₀ t ys en et ey =
      ap (λ i. put_mid (y * n) i t ys) (add-sub_cancel_left (y * n) n)
      ∙ ap (λ i. put_mid (y * i) i t ys) en
      ∙ ap (λ l. put_mid (y * k) k l ys) et
      ∙ ap₂ (λ a b. a ++ (ys ++ drop k b)) (take_at (joined R y) (drop (y * k) t₀) (y * k) (length_joined y))
      (drop_at (joined R y) (drop (y * k) t₀) (y * k) (length_joined y))
      ∙ ap₂ (λ a b. joined R y ++ (a ++ b)) ey (drop-drop k (y * k) t₀ ∙ ap (λ i. drop i t₀) (next y k))
      ∙ sym (append_assoc (joined R y) (R y) (drop ((y + 1) * k) t₀))
      ∙ ap (λ i. joined R i ++ drop ((y + 1) * k) t₀) (sym (add-one y))
    where
      next : (y k : ℕ) → y * k + k ≡ (y + 1) * k
      next y k = omega arith

  pub rows_all : (y h : ℕ) (t₀ t : List ℕ) → t ≡ joined R y ++ drop (y * k) t₀ → y ≡ h
      → t ≡ joined R h ++ drop (h * k) t₀
  rows_all y h t₀ t e q = e ∙ ap (λ i. joined R i ++ drop (i * k) t₀) q

  -- element i of row y, with anything after the rows
  pub get_d_joined : (h y i : ℕ) (rest : List ℕ) → y < h → i < k
      → get_or (joined R h ++ rest) (y * k + i) 0 ≡ get_or (R y) i 0
  unfolding joined
  get_d_joined zero y i rest l li = absurd (not-suc-le-zero l)
  get_d_joined (suc n) y i rest l li =
      ap (λ q. get_or q (y * k + i) 0) (append_assoc (joined R n) (R n) rest)
      ∙ ⊎_elim
      (λ q. ap (λ j. get_or (joined R n ++ (R n ++ rest)) j 0)
      (ap (λ j. j * k + i) q ∙ ap (λ j. j + i) (sym (length_joined n)))
      ∙ get_or-append-add (joined R n) (R n ++ rest) i 0
      ∙ get_or-append (R n) rest 0 i (subst (λ j. i < j) (sym (each n)) li)
      ∙ ap (λ j. get_or (R j) i 0) (sym q))
      (λ q. get_d_joined n y i (R n ++ rest) q li)
      (eq-or-lt_of_le (le_of_suc-le-suc l))

pub joined_same : (R Q : ℕ → List ℕ) (n : ℕ) → ((y : ℕ) → y < n → R y ≡ Q y) → joined R n ≡ joined Q n
unfolding joined
joined_same R Q zero all = refl
joined_same R Q (suc n) all =
    ap₂ (λ a b. a ++ b) (joined_same R Q n (λ y l. all y (omega arith))) (all n (omega arith))
