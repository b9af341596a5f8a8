-- A settled cell: what it may do, what it gains where its word changes, and what is still where it does not.
use Prim.Native.Nat.{ℕ, ◌+◌, ◌-◌, ◌*◌, ◌/◌, ◌%◌, ◌^◌, ◌≤◌, ◌<◌, min}
use mathlib.Core.Path.{◌≡◌, sym, ap, ◌∙◌, subst}
use mathlib.Core.Bool.{Bool, true, false, cond}
use mathlib.Core.List.{List}
use mathlib.Core.Logic.{◌⊎◌, inl, inr, ⊎_elim}
use native.Mathlib.Nat.{le_refl}
use native.Mathlib.Omega.{arith}
use lib.Dec.{eqb}
use lib.ListN.{length}
use lib.Pow.{split}
use Rattle.basics.specs.Bits.{bit}
use Rattle.basics.specs.Bytes.{Bytes}
use Rattle.basics.proofs.Bits.{bit_lt}
use Rattle.basics.proofs.SliceParts.{below_or_not}
use Rattle.picture.proofs.Sizes.{row_room}
use Rattle.settle.specs.declared.Cell.{Cell}
use Rattle.settle.specs.Steps.Cells.{cell_word, around_of, mask_of, grown_word, settled, Fits}
use Rattle.settle.specs.Steps.Grew.{point_in, Touch, mask_point, Under, Shut, Grew, Gained, StillAt}
use Rattle.settle.proofs.Words.{word_lt, word_bit}
use Rattle.settle.proofs.Floods.{flooded_more, flooded_took, flooded_lt, flooded_under, one_more_digit}
use Rattle.settle.proofs.Cells.{along_touch, around_least, around_holds, mask_bit, settled_length}
use Rattle.settle.proofs.Cells.{settled_bytes, settled_other, settled_point, settled_else}

module _ (c : Cell) (mask l : List ℕ) (bm : Bytes mask) (bl : Bytes l)
    (fm : Fits c (length mask)) (fits : Fits c (length l)) where
  -- the column of bit p
  abbrev at : ℕ → ℕ
  at p = 8 * (c.j + c.k) - 1 - p

  abbrev InCell : ℕ → ℕ → Type 0
  InCell x y = (y ≡ c.y) × (8 * c.j ≤ x) × (x < 8 * (c.j + c.k))

  in_or_out : (x y : ℕ) → InCell x y ⊎ (y ≡ c.y → (x < 8 * c.j) ⊎ (8 * (c.j + c.k) ≤ x))
  in_or_out x y =
      ⊎_elim (λ g. inr (λ e. inl g))
      (λ g. ⊎_elim
      (λ k. ⊎_elim (λ q. inr (λ e. absurd (omega arith)))
      (λ q. ⊎_elim (λ r. inr (λ e. absurd (omega arith))) (λ r. inl (omega arith, g, k)) (below_or_not c.y y))
      (below_or_not y c.y))
      (λ k. inr (λ e. inr k)) (below_or_not x (8 * (c.j + c.k))))
      (below_or_not x (8 * c.j))

  word_small : cell_word c l < 2 ^ (8 * c.k)
  unfolding cell_word
  word_small = word_lt l bl (c.y * c.n + c.j) c.k

  mask_small : mask_of c mask < 2 ^ (8 * c.k)
  unfolding mask_of cell_word
  mask_small = by (eqb (c.j + c.k) c.n)
    where
      by : (t : Bool) → cond t (cell_word c mask / 2 ^ c.u * 2 ^ c.u) (cell_word c mask) < 2 ^ (8 * c.k)
      by true =
          omega (arith, split (cell_word c mask) c.u, word_lt mask bm (c.y * c.n + c.j) c.k)
      by false = word_lt mask bm (c.y * c.n + c.j) c.k

  old : (p : ℕ) → p < 8 * c.k → bit (cell_word c l) p ≡ point_in l (c.y * c.n) (at p)
  unfolding cell_word
  old p h = word_bit l bl (c.y * c.n) c.j c.k p h

  twice : (x : ℕ) → x < 8 * (c.j + c.k) → at (at x) ≡ x
  twice x h = omega arith

  old_at : (x : ℕ) → 8 * c.j ≤ x → x < 8 * (c.j + c.k)
      → bit (cell_word c l) (at x) ≡ point_in l (c.y * c.n) x
  old_at x lo hi = old (at x) (omega arith) ∙ ap (point_in l (c.y * c.n)) (twice x hi)

  -- ---- points are gained
  word_more : (p : ℕ) → bit (cell_word c l) p ≤ bit (grown_word c mask l) p
  unfolding grown_word
  word_more p = flooded_more (mask_of c mask) (around_of c l) (cell_word c l) 64 p

  cell_more : (x y : ℕ) → x < 8 * c.n → y < c.h
      → point_in l (y * c.n) x ≤ point_in (settled c mask l) (y * c.n) x
  cell_more x y hx hy =
      ⊎_elim
      (λ i. subst (λ r. point_in l (r * c.n) x ≤ point_in (settled c mask l) (r * c.n) x) (sym i.0)
      (subst (λ v. v ≤ point_in (settled c mask l) (c.y * c.n) x) (old_at x i.1 i.2)
      (subst (λ v. bit (cell_word c l) (at x) ≤ v) (sym (settled_point c mask l bl fits x i.1 i.2))
      (word_more (at x)))))
      (λ o. subst (λ v. point_in l (y * c.n) x ≤ v) (sym (settled_else c mask l bl fits x y hx o)) (le_refl
      _))
      (in_or_out x y)

  -- ---- inside whatever no step leads out of
  module _ (G : ℕ → ℕ → ℕ) (shut : Shut c.square c.n c.u c.h mask G)
      (under : Under c.n c.h l G) where
    beyond : (p : ℕ) → p < 8 * c.k → min (bit (mask_of c mask) p) (bit (around_of c l) p) ≤ G (at p) c.y
    beyond p h =
        ⊎_elim (λ z. omega arith)
        (λ o. omega (
          arith,
          around_least c l bl fits p h (G (at p) c.y)
              (λ x y hx hy t. let s = shut x y (at p) c.y hx hy (omega arith) fits.in_bins t in
              step _ _ _ _ (under x y hx hy) (bit_lt _ (7 - x % 8)) (sym (mask_bit c mask bm fm p h) ∙ o) s),
        ))
        (none_or_one _ (bit_lt (mask_of c mask) p))
      where
        none_or_one : (b : ℕ) → b < 2 → (b ≡ 0) ⊎ (b ≡ 1)
        none_or_one b h = ⊎_elim (λ g. inl (omega arith)) (λ g. inr (omega arith)) (below_or_not b 1)

        step : (q m g b : ℕ) → q ≤ g → q < 2 → m ≡ 1 → min m g ≤ b → q ≤ b
        step q m g b k l e s = omega arith

    masked : (p v : ℕ) → p < 8 * c.k → min (mask_point c.n c.u mask (at p) c.y) v ≤ G (at p) c.y
        → min (bit (mask_of c mask) p) v ≤ G (at p) c.y
    masked p v h s = subst (λ m. min m v ≤ G (at p) c.y) (sym (mask_bit c mask bm fm p h)) s

    word_under : (p : ℕ) → p < 8 * c.k → bit (grown_word c mask l) p ≤ G (at p) c.y
    unfolding grown_word
    word_under p h =
        flooded_under (mask_of c mask) (around_of c l) (cell_word c l) (8 * c.k) mask_small word_small (omega
        arith)
        (λ q. G (at q) c.y)
        (λ q k. subst (λ v. v ≤ G (at q) c.y) (sym (old q k)) (under (at q) c.y (omega arith) fits.in_bins))
        beyond
        (λ q k. masked q (G (at (1 + q)) c.y) (omega arith)
        (shut (at (1 + q)) c.y (at q) c.y (omega arith) fits.in_bins (omega arith) fits.in_bins
        (along_touch c.square (at (1 + q)) (at q) c.y (omega arith, omega arith))))
        (λ q k. masked (1 + q) (G (at q) c.y) k
        (shut (at q) c.y (at (1 + q)) c.y (omega arith) fits.in_bins (omega arith) fits.in_bins
        (along_touch c.square (at q) (at (1 + q)) c.y (omega arith, omega arith))))
        64 p h

    cell_under : Under c.n c.h (settled c mask l) G
    cell_under x y hx hy =
        ⊎_elim
        (λ i. subst (λ r. point_in (settled c mask l) (r * c.n) x ≤ G x r) (sym i.0)
        (subst (λ v. v ≤ G x c.y) (sym (settled_point c mask l bl fits x i.1 i.2))
        (subst (λ z. bit (grown_word c mask l) (at x) ≤ G z c.y) (twice x i.2)
        (word_under (at x) (inside x i.1 i.2)))))
        (λ o. subst (λ v. v ≤ G x y) (sym (settled_else c mask l bl fits x y hx o)) (under x y hx hy))
        (in_or_out x y)
      where
        inside : (x : ℕ) → 8 * c.j ≤ x → x < 8 * (c.j + c.k) → at x < 8 * c.k
        inside x lo hi = omega arith

  -- THE law of a visit
  pub cell_grew : Grew c.square c.n c.u c.h mask l (settled c mask l)
  cell_grew =
      record {
        same_length = settled_length c mask l bl fits;
        bytes = λ b. settled_bytes c mask l bl fits;
        rest = λ i h. settled_other c mask l bl fits i (inr (omega (arith, row_room c.n fits.in_bins)));
        more = cell_more;
        under = cell_under;
      }

  grown_small : grown_word c mask l < 2 ^ (8 * c.k)
  unfolding grown_word
  grown_small = flooded_lt (mask_of c mask) (around_of c l) (cell_word c l) (8 * c.k) mask_small word_small 64

  -- where the word changes a point is gained
  pub cell_gained : (grown_word c mask l ≡ cell_word c l → ⊥) → Gained c.n c.h l (settled c mask l)
  cell_gained ne =
      let d = one_more_digit (8 * c.k) (cell_word c l) (grown_word c mask l) word_small grown_small
      (λ p h. word_more p) (λ e. ne (sym e)) in (
        at d.0,
        c.y,
        omega (arith, fits.in_row, d.1),
        fits.in_bins,
        less _ _ _ _ d.2 (old d.0 d.1)
            (settled_point c mask l bl fits (at d.0) (low d.0 d.1) (omega (arith, d.1))
            ∙ ap (bit (grown_word c mask l)) (again d.0 d.1)),
      )
    where
      less : (a b x y : ℕ) → a < b → a ≡ x → y ≡ b → x < y
      less a b x y h e q = omega arith

      low : (p : ℕ) → p < 8 * c.k → 8 * c.j ≤ at p
      low p h = omega arith

      again : (p : ℕ) → p < 8 * c.k → at (at p) ≡ p
      again p h = omega arith

  -- where it does not, no step inside the mask leads to a column of the cell
  pub cell_still : grown_word c mask l ≡ cell_word c l → (v : ℕ) → 8 * c.j ≤ v → v < 8 * (c.j + c.k)
      → StillAt c.square c.n c.u c.h mask l v c.y
  unfolding grown_word
  cell_still e v lo hi x y hx hy t =
      still _ _ _ _ _
      (flooded_took (mask_of c mask) (around_of c l) (cell_word c l) 63 (at v))
      (ap (λ w. bit w (at v)) e ∙ old_at v lo hi)
      (mask_bit c mask bm fm (at v) (omega arith)
      ∙ ap (λ z. mask_point c.n c.u mask z c.y) (twice v hi))
      _ (around_holds c l bl fits (at v) (omega arith) x y hx hy
      (subst (λ z. Touch c.square x y z c.y) (sym (twice v hi)) t))
    where
      still : (m o b n p : ℕ) → min m o ≤ b → b ≡ p → m ≡ n → (q : ℕ) → q ≤ o → min n q ≤ p
      still m o b n p s e f q k = omega arith
