-- Windows of 1, 4 or 16 values, and of any run that four of them make up.
use Prim.Native.Nat.{ℕ, ◌+◌, ◌-◌, ◌*◌, ◌≤◌, ◌<◌, min}
use mathlib.Core.Path.{◌≡◌, refl, sym, subst}
use mathlib.Core.Bool.{Bool}
use mathlib.Core.List.{List}
use mathlib.Core.Logic.{◌⊎◌, ⊎_elim}
use native.Mathlib.Omega.{arith}
use lib.ListN.{length, get_or}
use Rattle.basics.proofs.SliceParts.{below_or_not}
use Rattle.rows.specs.Steps.Fold.{join_by}
use Rattle.blocks.proofs.Laid.{get_first, length_laid}
use Rattle.windows.specs.Steps.Bounds.{Bound}
use Rattle.windows.specs.Steps.Widened.{widened_by}
use Rattle.windows.proofs.Bounds.{join_to, join_from}
use Rattle.windows.proofs.Seen.{Window, four_of, window_one, window_four}
use Rattle.bytewindows.specs.Steps.Four.{joined_four, widen_at, byte_windows}
use Rattle.bytewindows.proofs.Blocks.{windows_1, windows_4, windows_16}

-- the values of a row of bytes, by place
abbrev pub byte_of : List ℕ → ℕ → ℕ
byte_of l x = get_or l x 0

module _ (grows : Bool) (k : ℕ) (l : List ℕ) (fits : 64 * k ≤ length l) where
  widened : (n y : ℕ) → y < 64 * k
      → byte_of (widened_by (widen_at grows n) k l) y ≡ four_of grows (byte_of l) n y
  unfolding widened_by widen_at joined_four four_of
  widened n y h = get_first (64 * k) (widen_at grows n l) l y fits h

  widened_long : (n : ℕ) → length (widened_by (widen_at grows n) k l) ≡ length l
  unfolding widened_by
  widened_long n = length_laid 0 (64 * k) (widen_at grows n l) l

  one : (y : ℕ) → Window grows 1 (byte_of l y) (byte_of l) y
  one y = window_one grows (byte_of l) y

  four : (y : ℕ) → y < 64 * k → Window grows 4 (byte_of (widened_by (widen_at grows 1) k l) y) (byte_of l) y
  four y h =
      subst (λ v. Window grows 4 v (byte_of l) y) (sym (widened 1 y h))
      (window_four grows 1 (byte_of l) (byte_of l) y (one y) (one (y + 1)) (one (y + 2)) (one (y + 3)))

module _ (grows : Bool) (k : ℕ) (l : List ℕ) (fits : 64 * k ≤ length l) where
  sixteen : (y : ℕ) → y + 12 < 64 * k
      → Window grows 16 (byte_of (widened_by (widen_at grows 4) k (widened_by (widen_at grows 1) k l)) y)
      (byte_of l) y
  sixteen y h =
      let m = widened_by (widen_at grows 1) k l in
      subst (λ v. Window grows 16 v (byte_of l) y)
      (sym (widened grows k m (subst (λ n. 64 * k ≤ n) (sym (widened_long grows k l fits 1)) fits)
      4 y (omega arith)))
      (window_four grows 4 (byte_of l) (byte_of m) y
      (four grows k l fits y (omega arith)) (four grows k l fits (y + 4) (omega arith))
      (four grows k l fits (y + 8) (omega arith)) (four grows k l fits (y + 12) (omega arith)))

  -- what stands at place y is the window of m values from there on
  pub sees_to : (m y : ℕ) → (m ≡ 1) ⊎ ((m ≡ 4) ⊎ (m ≡ 16)) → y + m ≤ 64 * k + 3
      → Window grows m (byte_of (byte_windows grows k m l) y) (byte_of l) y
  sees_to m y which h =
      ⊎_elim
      (λ e. at 1 l e (windows_1 grows k m l (omega arith)) (one grows k l fits y))
      (⊎_elim
      (λ e. at 4 _ e
      (windows_4 grows k m l _ (omega arith) (omega arith) refl) (four grows k l fits y (omega arith)))
      (λ e. at 16 _ e
      (windows_16 grows k m l _ _ (omega arith) (omega arith) refl refl) (sixteen y (omega arith))))
      which
    where
      at : (j : ℕ) (u : List ℕ) → m ≡ j → u ≡ byte_windows grows k m l
          → Window grows j (byte_of u y) (byte_of l) y
          → Window grows m (byte_of (byte_windows grows k m l) y) (byte_of l) y
      at j u e q win =
          subst (λ n. Window grows n (byte_of (byte_windows grows k m l) y) (byte_of l) y) (sym e)
          (subst (λ z. Window grows j (byte_of z y) (byte_of l) y) q win)

  pub sees : (m y : ℕ) → (m ≡ 1) ⊎ ((m ≡ 4) ⊎ (m ≡ 16)) → y + 12 < 64 * k
      → Window grows m (byte_of (byte_windows grows k m l) y) (byte_of l) y
  sees m y which h =
      sees_to m y which (⊎_elim (λ e. omega arith) (⊎_elim (λ e. omega arith) (λ e. omega arith)) which)

-- ---- four windows of n make up a run of `wide`, the last at its end, whether they overlap or not
unfoldable pub run_of : Bool → (ℕ → ℕ) → ℕ → ℕ → ℕ → ℕ
run_of grows Q n far x =
    join_by grows (join_by grows (join_by grows (Q x) (Q (x + min n far))) (Q (x + min (n + n) far))) (Q (x +
    far))

pub window_run : (grows : Bool) (n wide : ℕ) (P Q : ℕ → ℕ) (x : ℕ) → n ≤ wide → wide ≤ 4 * n
    → ((d : ℕ) → d ≤ wide - n → Window grows n (Q (x + d)) P (x + d))
    → Window grows wide (run_of grows Q n (wide - n) x) P x
unfolding run_of
window_run grows n wide P Q x low high win v = (to, from)
  where
    far : ℕ
    far = wide - n

    a : ℕ
    a = join_by grows (join_by grows (Q x) (Q (x + min n (wide - n)))) (Q (x + min (n + n) (wide - n)))

    none : (x : ℕ) → x ≡ x + 0
    none x = omega arith

    first : Window grows n (Q x) P x
    first = subst (λ y. Window grows n (Q y) P y) (sym (none x)) (win 0 (omega arith))

    in_one : (d k : ℕ) → d ≤ wide - n → d ≤ k → k < d + n → Bound grows (Q (x + d)) v → Bound grows (P (x +
        k)) v
    in_one d k hd h l b = subst (λ j. Bound grows (P j) v) (place x d k h) ((win d hd v).0 b (k - d) (omega
        arith))
      where
        place : (x d k : ℕ) → d ≤ k → x + d + (k - d) ≡ x + k
        place x d k h = omega arith

    to : Bound grows (join_by grows (join_by grows (join_by grows (Q x) (Q (x + min n (wide - n))))
        (Q (x + min (n + n) (wide - n)))) (Q (x + (wide - n)))) v
        → (k : ℕ) → k < wide → Bound grows (P (x + k)) v
    to h k l =
        let p = join_to grows (join_by grows (join_by grows (Q x) (Q (x + min n (wide - n))))
        (Q (x + min (n + n) (wide - n)))) (Q (x + (wide - n))) v h in
        let q = join_to grows (join_by grows (Q x) (Q (x + min n (wide - n))))
        (Q (x + min (n + n) (wide - n)))
        v p.0 in
        let r = join_to grows (Q x) (Q (x + min n (wide - n))) v q.0 in
        ⊎_elim
        (λ z. (first v).0 r.0 k z)
        (λ z. ⊎_elim
        (λ y. in_one (min n (wide - n)) k (omega arith) (omega arith) (omega arith) r.1)
        (λ y. ⊎_elim
        (λ u. in_one (min (n + n) (wide - n)) k (omega arith) (omega arith) (omega arith) q.1)
        (λ u. in_one (wide - n) k (omega arith) (omega arith) (omega arith) p.1)
        (below_or_not k (min (n + n) (wide - n) + n)))
        (below_or_not k (min n (wide - n) + n)))
        (below_or_not k n)

    of_one : (d : ℕ) → d ≤ wide - n → ((k : ℕ) → k < wide → Bound grows (P (x + k)) v) → Bound grows (Q (x
        + d)) v
    of_one d hd each =
        (win d hd v).1 (λ k l. subst (λ j. Bound grows (P j) v) (group x d k) (each (d + k) (omega arith)))
      where
        group : (x d k : ℕ) → x + (d + k) ≡ x + d + k
        group x d k = omega arith

    from : ((k : ℕ) → k < wide → Bound grows (P (x + k)) v)
        → Bound grows (join_by grows (join_by grows (join_by grows (Q x) (Q (x + min n (wide - n))))
        (Q (x + min (n + n) (wide - n)))) (Q (x + (wide - n)))) v
    from each =
        join_from grows (join_by grows (join_by grows (Q x) (Q (x + min n (wide - n))))
        (Q (x + min (n + n) (wide - n)))) (Q (x + (wide - n))) v
        (join_from grows (join_by grows (Q x) (Q (x + min n (wide - n)))) (Q (x + min (n + n) (wide - n))) v
        (join_from grows (Q x) (Q (x + min n (wide - n))) v
        ((first v).1 (λ k l. each k (omega arith)))
        (of_one (min n (wide - n)) (omega arith) each))
        (of_one (min (n + n) (wide - n)) (omega arith) each))
        (of_one (wide - n) (omega arith) each)
