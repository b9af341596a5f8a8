-- One cell in points: what is around it, the mask's points in it, the target once it is settled.
use Prim.Native.Nat.{ℕ, ◌+◌, ◌-◌, ◌*◌, ◌/◌, ◌%◌, ◌^◌, ◌≤◌, ◌<◌, max}
use mathlib.Core.Path.{◌≡◌, refl, sym, ap, ◌∙◌, subst}
use mathlib.Core.Bool.{Bool, true, false, cond}
use mathlib.Core.List.{List}
use mathlib.Core.Logic.{◌⊎◌, inl, inr, ⊎_elim}
use native.Mathlib.Omega.{arith}
use borrow.Author.Tests.{lt-ltb, le-ltb, ltb-true, ltb-false, eq-eqb, eqb-true, eqb-false}
use borrow.Rule.Slice.PartMut.{put_mid}
use lib.Dec.{eqb, ltb}
use lib.ListN.{length, get_or}
use Rattle.basics.specs.Bits.{bit}
use Rattle.basics.specs.Bytes.{Bytes}
use Rattle.basics.specs.Lists.{firsts}
use Rattle.basics.proofs.Bits.{bit_up, bit_mod, bit_or_lem}
use Rattle.basics.proofs.Lists.{length_firsts, get_d_firsts}
use Rattle.basics.proofs.SliceParts.{below_or_not, put_before, put_within, put_after, put_length}
use Rattle.picture.proofs.Sizes.{row_room}
use Rattle.copies.proofs.Copies.{cleared_bit}
use Rattle.settle.specs.declared.Cell.{Cell}
use Rattle.settle.specs.Steps.Words.{word_of, across_of, spread_of, byte_of}
use Rattle.settle.specs.Steps.Cells.{cell_word, above_of, below_of, around_of, mask_of, grown_word, settled}
use Rattle.settle.specs.Steps.Cells.{Fits}
use Rattle.settle.specs.Steps.Grew.{point_in, Near, NearBy, Touch, mask_point}
use Rattle.settle.proofs.Words.{bit_past, word_bit, across_least, across_holds, spread_least}
use Rattle.settle.proofs.Words.{spread_holds}

-- ---- steps
beside_touch : (square : Bool) (x v y z : ℕ) → NearBy square x v → Near y z → Touch square x y v z
beside_touch true x v y z n k = (n, k)
beside_touch false x v y z n k = inl (n, k)

pub along_touch : (square : Bool) (x v y : ℕ) → Near x v → Touch square x y v y
along_touch true x v y n = (n, (omega arith, omega arith))
along_touch false x v y n = inr (n, refl)

touch_near : (square : Bool) (x v y z : ℕ) → Touch square x y v z → Near x v × Near y z
touch_near true x v y z t = t
touch_near false x v y z t =
    ⊎_elim (λ a. ((omega arith, omega arith), a.1)) (λ a. (a.0, (omega arith, omega arith))) t

touch_by : (square : Bool) (x v y z : ℕ) → (y ≡ z → ⊥) → Touch square x y v z → NearBy square x v
touch_by true x v y z ne t = t.0
touch_by false x v y z ne t = ⊎_elim (λ a. a.0) (λ a. absurd (ne a.1)) t

module _ (c : Cell) (l : List ℕ) (bytes : Bytes l) (fits : Fits c (length l)) (p : ℕ) (h : p < 8 * c.k) where
  abbrev at : ℕ
  at = 8 * (c.j + c.k) - 1 - p

  parts : bit (around_of c l) p
      ≡ max (max (bit (across_of l (c.y * c.n) c.n c.j c.k) p) (bit (above_of c l) p))
      (bit (below_of c l) p)
  unfolding around_of
  parts = bit_or_lem _ (below_of c l) p
      ∙ ap (λ x. max x (bit (below_of c l) p)) (bit_or_lem _ (above_of c l) p)

  above_least : (b : ℕ)
      → ((x y : ℕ) → x < 8 * c.n → y < c.h → Touch c.square x y at c.y → point_in l (y * c.n) x ≤ b)
      → bit (above_of c l) p ≤ b
  unfolding above_of
  above_least b each = by (ltb 0 c.y) refl
    where
      by : (t : Bool) → ltb 0 c.y ≡ t
          → bit (cond t (spread_of c.square l ((c.y - 1) * c.n) c.n c.j c.k) 0) p ≤ b
      by true e =
          let g = ltb-true 0 c.y e in
          spread_least l bytes ((c.y - 1) * c.n) c.n c.j c.k fits.some fits.few fits.in_row
          p h c.square b
          (λ z hz near. each z (c.y - 1) hz (omega arith)
          (beside_touch c.square z at (c.y - 1) c.y near (omega arith, omega arith)))
      by false e = omega (arith, bit_past 0 0 p (omega arith) (omega arith))

  below_least : (b : ℕ)
      → ((x y : ℕ) → x < 8 * c.n → y < c.h → Touch c.square x y at c.y → point_in l (y * c.n) x ≤ b)
      → bit (below_of c l) p ≤ b
  unfolding below_of
  below_least b each = by (ltb (c.y + 1) c.h) refl
    where
      by : (t : Bool) → ltb (c.y + 1) c.h ≡ t
          → bit (cond t (spread_of c.square l ((c.y + 1) * c.n) c.n c.j c.k) 0) p ≤ b
      by true e =
          let g = ltb-true (c.y + 1) c.h e in
          spread_least l bytes ((c.y + 1) * c.n) c.n c.j c.k fits.some fits.few fits.in_row
          p h c.square b
          (λ z hz near. each z (c.y + 1) hz g
          (beside_touch c.square z at (c.y + 1) c.y near (omega arith, omega arith)))
      by false e = omega (arith, bit_past 0 0 p (omega arith) (omega arith))

  -- nothing but the cell's neighbours is around it
  pub around_least : (b : ℕ)
      → ((x y : ℕ) → x < 8 * c.n → y < c.h → Touch c.square x y at c.y → point_in l (y * c.n) x ≤ b)
      → bit (around_of c l) p ≤ b
  around_least b each =
      subst (λ v. v ≤ b) (sym parts)
      (three _ _ _ b
      (across_least l bytes (c.y * c.n) c.n c.j c.k fits.some fits.few fits.in_row p h b
      (λ z hz near. each z c.y hz fits.in_bins (along_touch c.square z at c.y near)))
      (above_least b each) (below_least b each))
    where
      three : (x y z b : ℕ) → x ≤ b → y ≤ b → z ≤ b → max (max x y) z ≤ b
      three x y z b hx hy hz = omega arith

  above_holds : (x y : ℕ) → x < 8 * c.n → y < c.y → Touch c.square x y at c.y
      → point_in l (y * c.n) x ≤ bit (above_of c l) p
  unfolding above_of
  above_holds x y hx ly t =
      let near = (touch_near c.square x at y c.y t).1 in
      let e : y ≡ c.y - 1 = omega arith in
      subst (λ v. point_in l (y * c.n) x ≤ bit v p)
      (sym (ap (λ b. cond b (spread_of c.square l ((c.y - 1) * c.n) c.n c.j c.k) 0)
      (lt-ltb 0 c.y (omega arith))))
      (subst (λ r. point_in l (y * c.n) x ≤ bit (spread_of c.square l (r * c.n) c.n c.j c.k) p) e
      (spread_holds l bytes (y * c.n) c.n c.j c.k fits.some fits.few fits.in_row
      p h c.square x hx (touch_by c.square x at y c.y (λ q. omega arith) t)))

  below_holds : (x y : ℕ) → x < 8 * c.n → y < c.h → c.y < y → Touch c.square x y at c.y
      → point_in l (y * c.n) x ≤ bit (below_of c l) p
  unfolding below_of
  below_holds x y hx hy ly t =
      let near = (touch_near c.square x at y c.y t).1 in
      let e : y ≡ c.y + 1 = omega arith in
      subst (λ v. point_in l (y * c.n) x ≤ bit v p)
      (sym (ap (λ b. cond b (spread_of c.square l ((c.y + 1) * c.n) c.n c.j c.k) 0)
      (lt-ltb (c.y + 1) c.h (omega arith))))
      (subst (λ r. point_in l (y * c.n) x ≤ bit (spread_of c.square l (r * c.n) c.n c.j c.k) p) e
      (spread_holds l bytes (y * c.n) c.n c.j c.k fits.some fits.few fits.in_row
      p h c.square x hx (touch_by c.square x at y c.y (λ q. omega arith) t)))

  -- and all of them are
  pub around_holds : (x y : ℕ) → x < 8 * c.n → y < c.h → Touch c.square x y at c.y
      → point_in l (y * c.n) x ≤ bit (around_of c l) p
  around_holds x y hx hy t =
      subst (λ v. point_in l (y * c.n) x ≤ v) (sym parts)
      (⊎_elim (λ g. second _ _ _ _ (above_holds x y hx g t))
      (λ g. ⊎_elim (λ k. third _ _ _ _ (below_holds x y hx hy k t))
      (λ k. let e : y ≡ c.y = omega arith in
      first _ _ _ _ (subst (λ r. point_in l (y * c.n) x ≤ bit (across_of l (r * c.n) c.n c.j c.k)
      p) e
      (across_holds l bytes (y * c.n) c.n c.j c.k fits.some fits.few fits.in_row p h x hx
      (touch_near c.square x at y c.y t).0)))
      (below_or_not c.y y)) (below_or_not y c.y))
    where
      first : (v x y z : ℕ) → v ≤ x → v ≤ max (max x y) z
      first v x y z k = omega arith

      second : (v x y z : ℕ) → v ≤ y → v ≤ max (max x y) z
      second v x y z k = omega arith

      third : (v x y z : ℕ) → v ≤ z → v ≤ max (max x y) z
      third v x y z k = omega arith

  -- the mask's points in the cell
  pub mask_bit : bit (mask_of c l) p ≡ mask_point c.n c.u l at c.y
  unfolding mask_of mask_point cell_word
  mask_bit = by (eqb (c.j + c.k) c.n) refl
    where
      point : bit (word_of l (c.y * c.n + c.j) c.k) p ≡ point_in l (c.y * c.n) at
      point = word_bit l bytes (c.y * c.n) c.j c.k p h

      less : (a b : ℕ) → a ≤ b → (a ≡ b → ⊥) → a < b
      less a b l never = ⊎_elim (λ g. g) (λ g. absurd (never (omega arith))) (below_or_not a b)

      cut : (t : Bool) → c.j + c.k ≡ c.n → ltb p c.u ≡ t
          → cond t 0 (bit (word_of l (c.y * c.n + c.j) c.k) p)
          ≡ cond (ltb at (8 * c.n - c.u)) (point_in l (c.y * c.n) at) 0
      cut true q e = let g = ltb-true p c.u e in rw (le-ltb at (8 * c.n - c.u) (omega arith)) refl
      cut false q e = let g = ltb-false p c.u e in rw (lt-ltb at (8 * c.n - c.u) (omega arith)) point

      by : (t : Bool) → eqb (c.j + c.k) c.n ≡ t
          → bit (cond t (word_of l (c.y * c.n + c.j) c.k / 2 ^ c.u * 2 ^ c.u)
          (word_of l (c.y * c.n + c.j) c.k)) p
          ≡ cond (ltb at (8 * c.n - c.u)) (point_in l (c.y * c.n) at) 0
      by true e =
          cleared_bit (word_of l (c.y * c.n + c.j) c.k) c.u p
          ∙ cut (ltb p c.u) (eqb-true _ _ e) refl
      by false e = let g = eqb-false (c.j + c.k) c.n e in
          let q : c.j + c.k < c.n = less _ _ fits.in_row g in
          rw (lt-ltb at (8 * c.n - c.u) (omega arith)) point

-- ---- the target once the cell is settled
byte_bit : (v k i b : ℕ) → b < 8 → bit (byte_of v k i) b ≡ bit v (8 * (k - 1 - i) + b)
unfolding byte_of
byte_bit v k i b h = bit_mod (v / 2 ^ (8 * (k - 1 - i))) 8 b h ∙ bit_up v (8 * (k - 1 - i)) b

module _ (c : Cell) (mask l : List ℕ) (bytes : Bytes l) (fits : Fits c (length l)) where
  abbrev start : ℕ
  start = c.y * c.n + c.j

  abbrev new : List ℕ
  new = firsts (byte_of (grown_word c mask l) c.k) c.k

  room : start + c.k ≤ length l
  room = omega (arith, row_room c.n fits.in_bins)

  pub settled_length : length (settled c mask l) ≡ length l
  unfolding settled
  settled_length = by (eqb (grown_word c mask l) (cell_word c l))
    where
      by : (t : Bool) → length (cond t l (put_mid start c.k l new)) ≡ length l
      by true = refl
      by false = put_length start c.k l new room (length_firsts _ c.k)

  pub settled_same : grown_word c mask l ≡ cell_word c l → l ≡ settled c mask l
  unfolding settled
  settled_same e = by (eqb (grown_word c mask l) (cell_word c l)) (eq-eqb _ _ e)
    where
      by : (t : Bool) → t ≡ true → l ≡ cond t l (put_mid start c.k l new)
      by t q = ap (λ b. cond b l (put_mid start c.k l new)) (sym q)

  pub settled_other : (i : ℕ) → (i < start) ⊎ (start + c.k ≤ i) → get_or (settled c mask l) i 0 ≡ get_or l i 0
  unfolding settled
  settled_other i out = by (eqb (grown_word c mask l) (cell_word c l))
    where
      by : (t : Bool) → get_or (cond t l (put_mid start c.k l new)) i 0 ≡ get_or l i 0
      by true = refl
      by false =
          ⊎_elim (λ h. put_before start c.k l new room (length_firsts _ c.k) i h)
          (λ h. put_after start c.k l new room (length_firsts _ c.k) i h) out

  byte_lt : (v k i : ℕ) → byte_of v k i < 2 ^ 8
  unfolding byte_of
  byte_lt v k i = omega arith

  new_lt : (i : ℕ) → start ≤ i → i < start + c.k → get_or (put_mid start c.k l new) i 0 < 2 ^ 8
  new_lt i lo hi =
      subst (λ b. b < 2 ^ 8)
      (sym (ap (λ m. get_or (put_mid start c.k l new) m 0) (back start i lo)
      ∙ put_within start c.k l new room (length_firsts _ c.k) (i - start) (omega arith)
      ∙ get_d_firsts (byte_of (grown_word c mask l) c.k) c.k (i - start) (omega arith)))
      (byte_lt (grown_word c mask l) c.k (i - start))
    where
      back : (a i : ℕ) → a ≤ i → i ≡ a + (i - a)
      back a i h = omega arith

  pub settled_bytes : Bytes (settled c mask l)
  unfolding settled
  settled_bytes i = by (eqb (grown_word c mask l) (cell_word c l))
    where
      same : length new ≡ c.k
      same = length_firsts _ c.k

      by : (t : Bool) → get_or (cond t l (put_mid start c.k l new)) i 0 < 2 ^ 8
      by true = bytes i
      by false =
          ⊎_elim
          (λ h. subst (λ b. b < 2 ^ 8) (sym (put_before start c.k l new room same i h)) (bytes i))
          (λ h. ⊎_elim (λ k. new_lt i h k)
          (λ k. subst (λ b. b < 2 ^ 8) (sym (put_after start c.k l new room same i k)) (bytes i))
          (below_or_not i (start + c.k))) (below_or_not i start)

  -- the points of the cell
  pub settled_point : (x : ℕ) → 8 * c.j ≤ x → x < 8 * (c.j + c.k)
      → point_in (settled c mask l) (c.y * c.n) x ≡ bit (grown_word c mask l) (8 * (c.j + c.k) - 1 - x)
  unfolding settled cell_word
  settled_point x lo hi = by (eqb (grown_word c mask l) (cell_word c l)) refl
    where
      back : (j k x : ℕ) → x < 8 * (j + k) → x ≡ 8 * (j + k) - 1 - (8 * (j + k) - 1 - x)
      back j k x h = omega arith

      byte : (a j x : ℕ) → 8 * j ≤ x → a + x / 8 ≡ a + j + (x / 8 - j)
      byte a j x h = omega arith

      digit : (j k x : ℕ) → 8 * j ≤ x → x < 8 * (j + k)
          → 8 * (k - 1 - (x / 8 - j)) + (7 - x % 8) ≡ 8 * (j + k) - 1 - x
      digit j k x h g = omega arith

      by : (t : Bool) → eqb (grown_word c mask l) (cell_word c l) ≡ t
          → point_in (cond t l (put_mid start c.k l new)) (c.y * c.n) x
          ≡ bit (grown_word c mask l) (8 * (c.j + c.k) - 1 - x)
      by true e =
          ap (point_in l (c.y * c.n)) (back c.j c.k x hi)
          ∙ sym (word_bit l bytes (c.y * c.n) c.j c.k (8 * (c.j + c.k) - 1 - x) (omega arith))
          ∙ ap (λ w. bit w (8 * (c.j + c.k) - 1 - x)) (sym (eqb-true (grown_word c mask l) (cell_word c l) e))
      by false e =
          ap (λ i. bit (get_or (put_mid start c.k l new) i 0) (7 - x % 8)) (byte (c.y * c.n) c.j x lo)
          ∙ ap (λ b. bit b (7 - x % 8))
          (put_within start c.k l new room (length_firsts _ c.k) (x / 8 - c.j) (omega arith)
          ∙ get_d_firsts (byte_of (grown_word c mask l) c.k) c.k (x / 8 - c.j) (omega arith))
          ∙ byte_bit (grown_word c mask l) c.k (x / 8 - c.j) (7 - x % 8) (omega arith)
          ∙ ap (bit (grown_word c mask l)) (digit c.j c.k x lo hi)

  -- and every other point stays
  pub settled_else : (x y : ℕ) → x < 8 * c.n → (y ≡ c.y → (x < 8 * c.j) ⊎ (8 * (c.j + c.k) ≤ x))
      → point_in (settled c mask l) (y * c.n) x ≡ point_in l (y * c.n) x
  settled_else x y hx out =
      ap (λ b. bit b (7 - x % 8)) (settled_other (y * c.n + x / 8)
      (⊎_elim (λ g. inl (omega (arith, row_room c.n {y = y} {n = c.y} g)))
      (λ g. ⊎_elim (λ k. inr (omega (arith, row_room c.n {y = c.y} {n = y} k)))
      (λ k. let e : y ≡ c.y = omega arith in
      let same = ap (λ r. r * c.n) e in
      ⊎_elim (λ q. inl (omega arith)) (λ q. inr (omega arith)) (out e)) (below_or_not c.y y))
      (below_or_not y c.y)))
