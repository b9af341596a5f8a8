-- Places found one after another: single cells and pairs of neighbours, and the windows of a run.
use Prim.Native.Nat.{ℕ, ◌+◌, ◌-◌, ◌*◌, ◌/◌, ◌^◌, ◌≤◌, ◌<◌}
use mathlib.Core.Path.{◌≡◌, refl, sym, ap, ap₂, ◌∙◌, subst}
use mathlib.Core.Bool.{Bool, true, false, cond}
use mathlib.Core.List.{List}
use mathlib.Core.Logic.{◌⊎◌, inl, inr, ⊎_elim}
use native.Mathlib.Omega.{arith}
use native.Mathlib.Nat.{eq-or-lt_of_le, not-suc-le-zero, lt_of_lt_of_le, not-le_of_lt, lt_of_le_of_lt}
use lib.Dec.{eqb, ltb}
use lib.Pow.{pow_mono, pow-add, pow_pos, shr_le}
use lib.ListN.{length, get_or, set, length-set}
use lib.Seq.{get_or-set_same, get_or-set_other}
use borrow.Author.Tests.{eq-eqb, ne_eqb, eqb-true, lt-ltb, le-ltb, ltb-false, le-leb, lt-leb}
use Rattle.basics.specs.Bits.{bit}
use Rattle.basics.proofs.SliceParts.{below_or_not}
use Rattle.packedline.specs.Steps.Cells.{cell_on64, place_of, end_cell, run_word, level_of, RunOf}
use Rattle.packedline.proofs.Words.{rest_lt, rest_below, top_on, rest_top, rest_above}
use Rattle.packedline.proofs.Covers.{in_run, of_run, level_values}
use Rattle.strokes.specs.Steps.Strokes.{room, kind_of, Shows, next_of, spot_of, base_of, Strokes}

-- ---- the first cell of a word taken off
module _ (m c : ℕ) (hc : c < 64) (lo : 2 ^ (63 - c) ≤ m) (hi : m < 2 ^ (64 - c)) where
  high : m < 2 ^ (63 - c + 1)
  high = subst (λ n. m < 2 ^ n) (one c hc) hi
    where
      one : (c : ℕ) → c < 64 → 64 - c ≡ 63 - c + 1
      one c h = omega arith

  pub off_lt : m - 2 ^ (63 - c) < 2 ^ (63 - c)
  off_lt = rest_lt m (63 - c) lo high

  pub first_on : cell_on64 m c ≡ true
  first_on = eq-eqb (bit m (63 - c)) 1 (top_on m (63 - c) lo high)

  same_bit : (d : ℕ) → d < 64 → (d < c) ⊎ (c < d) → bit (m - 2 ^ (63 - c)) (63 - d) ≡ bit m (63 - d)
  same_bit d hd s =
      ⊎_elim
      (λ h. rest_above m (63 - c) lo high (63 - d) (omega arith))
      (λ h. rest_below m (63 - c) lo high (63 - d) (omega arith))
      s

  apart : (d : ℕ) → (d ≡ c) ⊎ ((d < c) ⊎ (c < d))
  apart d =
      ⊎_elim (λ h. inr (inl h)) (λ h. ⊎_elim (λ e. inl (sym e)) (λ l. inr (inr l)) (eq-or-lt_of_le h))
      (below_or_not d c)

  -- the others stay
  pub off_to : (d : ℕ) → d < 64 → cell_on64 (m - 2 ^ (63 - c)) d ≡ true → cell_on64 m d ≡ true
  off_to d hd q =
      ⊎_elim (λ z. ap (cell_on64 m) z ∙ first_on)
      (λ z. sym (ap (λ n. eqb n 1) (same_bit d hd z)) ∙ q) (apart d)

  pub off_from : (d : ℕ) → d < 64 → cell_on64 m d ≡ true → (d ≡ c) ⊎ (cell_on64 (m - 2 ^ (63 - c)) d ≡ true)
  off_from d hd q =
      ⊎_elim (λ z. inl z) (λ z. inr (ap (λ n. eqb n 1) (same_bit d hd z) ∙ q)) (apart d)

-- a cell and the next one fall on the window of two that begins at a place of the second room
abbrev PairAt : Bool → ℕ → ℕ → ℕ → Type 0
PairAt grows o c v =
    (p : ℕ) × ((v ≡ 1232 + p) × ((p < 128)
    × (((place_of grows o c ≡ p) × (place_of grows o (c + 1) ≡ p + 1))
    ⊎ ((place_of grows o c ≡ p + 1) × (place_of grows o (c + 1) ≡ p)))))

pair_at : (grows : Bool) (o c p v : ℕ) → o < 64 → c + 1 < 64 → p ≡ place_of grows o c
    → v ≡ cond grows (room + p - 1) (room + p) → PairAt grows o c v
pair_at true o c p v ho hc ep ev = (p - 1, (omega arith, (omega arith, inr (omega arith, omega arith))))
pair_at false o c p v ho hc ep ev = (p, (omega arith, (omega arith, inl (omega arith, omega arith))))

-- ---- single cells and pairs: those that are not in the rest m have been found
abbrev pub Near : ℕ → Type 0
Near p = (p < 128) ⊎ ((room ≤ p) × (p < room + 128))

abbrev pub CellAt : Bool → ℕ → ℕ → ℕ → Type 0
CellAt grows word o q = (c : ℕ) × ((c < 64) × ((cell_on64 word c ≡ true) × (q ≡ place_of grows o c)))

pub record So (grows : Bool) (word o m count : ℕ) (at : List ℕ) : Type 0 where
  pub long : length at ≡ 64
  pub few : count ≤ 64
  pub rest : m < 2 ^ (64 - count)
  pub near : (j : ℕ) → j < count → Near (get_or at j 0)
  pub inside : (j q : ℕ) → j < count → Shows 0 (get_or at j 0) q → CellAt grows word o q
  pub covered : (c : ℕ) → c < 64 → cell_on64 word c ≡ true
      → (cell_on64 m c ≡ true) ⊎ ((j : ℕ) × ((j < count) × Shows 0 (get_or at j 0) (place_of grows o c)))
  pub left : (c : ℕ) → c < 64 → cell_on64 m c ≡ true → cell_on64 word c ≡ true

pub so_none : (grows : Bool) (word o : ℕ) (at : List ℕ) → word < 2 ^ 64 → length at ≡ 64
    → So grows word o word 0 at
so_none grows word o at h e =
    record {
      long = e;
      few = omega arith;
      rest = h;
      near = λ j l. absurd (not-suc-le-zero l);
      inside = λ j q l s. absurd (not-suc-le-zero l);
      covered = λ c l q. inl q;
      left = λ c l q. q;
    }

module _ (grows : Bool) (word o m count : ℕ) (at : List ℕ) (so : So grows word o m count at) where
  -- one place more, which takes some cells off the rest
  more : (n v : ℕ) → count < 64 → n < 2 ^ (64 - (count + 1)) → Near v
      → ((q : ℕ) → Shows 0 v q → CellAt grows word o q)
      → ((d : ℕ) → d < 64 → cell_on64 n d ≡ true → cell_on64 m d ≡ true)
      → ((d : ℕ) → d < 64 → cell_on64 m d ≡ true → (cell_on64 n d ≡ true) ⊎ Shows 0 v (place_of grows o d))
      → So grows word o n (count + 1) (set at count v)
  more n v small hn nv iv to from =
      record {
        long = length-set at count v ∙ so.long;
        few = omega arith;
        rest = hn;
        near = λ j h. at_or (λ p. Near p) j h nv (λ l. so.near j l);
        inside = λ j q h s. at_or (λ p. Shows 0 p q → CellAt grows word o q) j h (iv q) (λ l. so.inside j
            q l) s;
        covered = λ c hc q. ⊎_elim
            (λ on. ⊎_elim (λ on. inl on)
            (λ s. inr (count, (omega arith, subst (λ p. Shows 0 p (place_of grows o c)) (sym here) s)))
            (from c hc on))
            (λ r. inr (
              r.0,
              (
                omega (arith, r.1.0),
                subst (λ p. Shows 0 p (place_of grows o c)) (sym (kept r.0 r.1.0)) r.1.1,
              ),
            ))
            (so.covered c hc q);
        left = λ c hc q. so.left c hc (to c hc q);
      }
    where
      here : get_or (set at count v) count 0 ≡ v
      here = get_or-set_same at count v 0 (subst (λ m. count < m) (sym so.long) small)

      kept : (j : ℕ) → j < count → get_or (set at count v) j 0 ≡ get_or at j 0
      kept j h = get_or-set_other at count j v 0 (λ e. absurd (omega arith))

      below_one : (i n : ℕ) → i < n + 1 → i ≤ n
      below_one i n h = omega arith

      at_or : (P : ℕ → Type 0) (j : ℕ) → j < count + 1 → P v → (j < count → P (get_or at j 0))
          → P (get_or (set at count v) j 0)
      at_or P j h new old =
          ⊎_elim (λ e. subst P (sym (ap (λ i. get_or (set at count v) i 0) e ∙ here)) new)
          (λ l. subst P (sym (kept j l)) (old l)) (eq-or-lt_of_le (below_one j count h))

  module _ (c : ℕ) (hc : c < 64) (ho : o < 64) (lo : 2 ^ (63 - c) ≤ m) (hi : m < 2 ^ (64 - c)) where
    -- the digit lies below the digits that were taken
    lower : 63 - c < 64 - count
    lower =
        ⊎_elim (λ h. h)
        (λ h. absurd (not-le_of_lt (lt_of_lt_of_le so.rest (pow_mono {i = 64 - count} {j = 63 - c} h)) lo))
        (below_or_not (63 - c) (64 - count))

    pub some_room : count < 64
    some_room = omega (arith, lower)

    abbrev off : ℕ
    off = m - 2 ^ (63 - c)

    small : (n : ℕ) → n ≤ off → n < 2 ^ (64 - (count + 1))
    small n h =
        lt_of_lt_of_le (lt_of_le_of_lt h (off_lt m c hc lo hi))
        (pow_mono {i = 63 - c} {j = 64 - (count + 1)} (omega (arith, lower)))

    in_word : cell_on64 word c ≡ true
    in_word = so.left c hc (first_on m c hc lo hi)

    -- a cell alone
    alone : (v : ℕ) → v ≡ place_of grows o c → So grows word o off (count + 1) (set at count v)
    alone v e =
        more off v some_room (small off (omega arith)) (inl near)
        (λ q s. (c, (hc, (in_word, only q s ∙ e))))
        (off_to m c hc lo hi)
        (λ d hd q. ⊎_elim (λ z. inr (inl (omega (arith, near), here d z))) (λ on. inl on)
        (off_from m c hc lo hi d hd q))
      where
        place_lt : (grows : Bool) (o c : ℕ) → o < 64 → c < 64 → place_of grows o c < 128
        place_lt true o c h k = omega arith
        place_lt false o c h k = omega arith

        near : v < 128
        near = subst (λ n. n < 128) (sym e) (place_lt grows o c ho hc)

        only : (q : ℕ) → Shows 0 v q → q ≡ v
        only q s = ⊎_elim (λ h. exact v q h.1.0 h.1.1) (λ h. absurd (far v near h.0)) s
          where
            exact : (v q : ℕ) → v ≤ q → q < v + 1 → q ≡ v
            exact v q h k = omega arith

            far : (v : ℕ) → v < 128 → 1232 ≤ v → ⊥
            far v h k = omega arith

        here : (d : ℕ) → d ≡ c → (v ≤ place_of grows o d) × (place_of grows o d < v + 1)
        here d z =
            let q : place_of grows o d ≡ v = ap (place_of grows o) z ∙ sym e in
            (omega (arith, q), omega (arith, q))

    -- with its neighbour
    module _ (l63 : c + 1 < 64) (half : 2 ^ (63 - (c + 1)) ≤ off) where
      hi1 : off < 2 ^ (64 - (c + 1))
      hi1 = subst (λ n. off < 2 ^ n) (shift c) (off_lt m c hc lo hi)
        where
          shift : (c : ℕ) → 63 - c ≡ 64 - (c + 1)
          shift c = omega arith

      abbrev off2 : ℕ
      off2 = off - 2 ^ (63 - (c + 1))

      next_word : cell_on64 word (c + 1) ≡ true
      next_word = so.left (c + 1) l63 (off_to m c hc lo hi (c + 1) l63 (first_on off (c + 1) l63 half hi1))

      -- the two places of the window that begins at p in the second room
      pair_shows : (v p : ℕ) → v ≡ 1232 + p → (q : ℕ) → Shows 0 v q → (q ≡ p) ⊎ (q ≡ p + 1)
      pair_shows v p e q s =
          ⊎_elim (λ h. absurd (far v p e h.0))
          (λ h. two v p q e h.1.0 h.1.1) s
        where
          far : (v p : ℕ) → v ≡ 1232 + p → v < 1232 → ⊥
          far v p e h = omega arith

          two : (v p q : ℕ) → v ≡ 1232 + p → v - 1232 ≤ q → q < v - 1232 + 2 → (q ≡ p) ⊎ (q ≡ p + 1)
          two v p q e h k =
              ⊎_elim (λ z. inl (sym z)) (λ l. inr (omega arith)) (eq-or-lt_of_le (low v p q e h))
            where
              low : (v p q : ℕ) → v ≡ 1232 + p → v - 1232 ≤ q → p ≤ q
              low v p q e h = omega arith

      pair_has : (v p q : ℕ) → v ≡ 1232 + p → (q ≡ p) ⊎ (q ≡ p + 1) → Shows 0 v q
      pair_has v p q e h =
          ⊎_elim (λ z. inr (omega arith, (omega arith, omega arith)))
          (λ z. inr (omega arith, (omega arith, omega arith))) h

      pair : (v p : ℕ) → v ≡ 1232 + p → p < 128
          → ((place_of grows o c ≡ p) × (place_of grows o (c + 1) ≡ p + 1))
          ⊎ ((place_of grows o c ≡ p + 1) × (place_of grows o (c + 1) ≡ p))
          → So grows word o off2 (count + 1) (set at count v)
      pair v p e hp where_to =
          more off2 v some_room (small off2 (omega arith)) (inr (omega arith, omega arith))
          (λ q s. cell q (pair_shows v p e q s))
          (λ d hd q. off_to m c hc lo hi d hd (off_to off (c + 1) l63 half hi1 d hd q))
          (λ d hd q. ⊎_elim
          (λ z. inr (pair_has v p _ e (subst (λ d. (place_of grows o d ≡ p) ⊎ (place_of grows o d ≡ p + 1))
          (sym z) first)))
          (λ on. ⊎_elim
          (λ z. inr (pair_has v p _ e (subst (λ d. (place_of grows o d ≡ p) ⊎ (place_of grows o d ≡ p + 1))
          (sym z) second)))
          (λ on. inl on) (off_from off (c + 1) l63 half hi1 d hd on))
          (off_from m c hc lo hi d hd q))
        where
          first : (place_of grows o c ≡ p) ⊎ (place_of grows o c ≡ p + 1)
          first = ⊎_elim (λ h. inl h.0) (λ h. inr h.0) where_to

          second : (place_of grows o (c + 1) ≡ p) ⊎ (place_of grows o (c + 1) ≡ p + 1)
          second = ⊎_elim (λ h. inr h.1) (λ h. inl h.1) where_to

          cell : (q : ℕ) → (q ≡ p) ⊎ (q ≡ p + 1) → CellAt grows word o q
          cell q h =
              ⊎_elim
              (λ a. ⊎_elim
              (λ z. (c, (hc, (in_word, z ∙ sym a.0))))
              (λ z. (c + 1, (l63, (next_word, z ∙ sym a.1)))) h)
              (λ a. ⊎_elim
              (λ z. (c + 1, (l63, (next_word, z ∙ sym a.1))))
              (λ z. (c, (hc, (in_word, z ∙ sym a.0)))) h) where_to

    -- as the code finds it
    next_cases : (rest half next : ℕ) → next ≡ next_of rest half
        → (next ≡ 0) ⊎ ((0 < half) × ((half ≤ rest) × (next ≡ half)))
    next_cases rest half next e =
        ⊎_elim
        (λ z. inl (e ∙ ap (λ b. cond b 0 (cond (ltb rest half) 0 half)) (eq-eqb half 0 (tiny half z))))
        (λ z. ⊎_elim
        (λ l. inl (e ∙ ap₂ (λ b d. cond b 0 (cond d 0 half)) (ne_eqb half 0 (some half z))
        (lt-ltb rest half l)))
        (λ l. inr (
          z,
          (l, e ∙ ap₂ (λ b d. cond b 0 (cond d 0 half)) (ne_eqb half 0 (some half z)) (le-ltb rest half l)),
        ))
        (below_or_not rest half))
        (below_or_not half 1)
      where
        tiny : (n : ℕ) → n < 1 → n ≡ 0
        tiny n h = omega arith

        some : (n : ℕ) → 1 ≤ n → n ≡ 0 → ⊥
        some n h e = omega arith

    half_is : c + 1 < 64 → 2 ^ (63 - c) / 2 ≡ 2 ^ (63 - (c + 1))
    half_is h = ap (λ n. n / 2) (ap (λ n. 2 ^ n) (one c h) ∙ pow-add 2 (63 - (c + 1)) 1) ∙ halved (2 ^
        (63 - (c + 1)))
      where
        one : (c : ℕ) → c + 1 < 64 → 63 - c ≡ 63 - (c + 1) + 1
        one c h = omega arith

        halved : (n : ℕ) → n * 2 / 2 ≡ n
        halved n = omega arith

    half_none : 64 ≤ c + 1 → 2 ^ (63 - c) / 2 ≡ 0
    half_none h = ap (λ n. 2 ^ n / 2) (none c h)
      where
        none : (c : ℕ) → 64 ≤ c + 1 → 63 - c ≡ 0
        none c h = omega arith

    pub so_more : (b rest next p v : ℕ) → b ≡ 2 ^ (63 - c) → rest ≡ m - b → next ≡ next_of rest (b / 2)
        → p ≡ place_of grows o c → v ≡ spot_of grows p next
        → So grows word o (rest - next) (count + 1) (set at count v)
    so_more b rest next p v eb er en ep ev =
        ⊎_elim
        (λ z. subst (λ n. So grows word o n (count + 1) (set at count v)) (whole rest next off z rest_is)
        (alone v (ev ∙ ap (λ b. cond b p (cond grows (room + p - 1) (room + p))) (eq-eqb next 0 z) ∙ ep)))
        (λ h. ⊎_elim
        (λ l. both l h)
        (λ l. absurd (never (b / 2) h.0 (ap (λ n. n / 2) eb ∙ half_none l)))
        (below_or_not (c + 1) 64))
        (next_cases rest (b / 2) next en)
      where
        rest_is : rest ≡ off
        rest_is = er ∙ ap (λ n. m - n) eb

        whole : (rest next off : ℕ) → next ≡ 0 → rest ≡ off → off ≡ rest - next
        whole rest next off z e = omega arith

        never : (n : ℕ) → 0 < n → n ≡ 0 → ⊥
        never n h e = omega arith

        both : c + 1 < 64 → (0 < b / 2) × ((b / 2 ≤ rest) × (next ≡ b / 2))
            → So grows word o (rest - next) (count + 1) (set at count v)
        both l h =
            subst (λ n. So grows word o n (count + 1) (set at count v))
            (ap₂ (λ a b. a - b) (sym rest_is) (sym next_is))
            (pair l low v r.0 r.1.0 r.1.1.0 r.1.1.1)
          where
            next_is : next ≡ 2 ^ (63 - (c + 1))
            next_is = h.1.1 ∙ ap (λ n. n / 2) eb ∙ half_is l

            some : (n : ℕ) → 0 < n → n ≡ 0 → ⊥
            some n h e = omega arith

            low : 2 ^ (63 - (c + 1)) ≤ off
            low = omega (arith, next_is, h.1.0, h.1.1, rest_is)

            r : PairAt grows o c v
            r =
                pair_at grows o c p v ho l ep (ev ∙ ap (λ b. cond b p (cond grows (room + p - 1) (room + p)))
                (ne_eqb next 0 (some next (omega (arith, h.1.1, h.0)))))

pub so_done : (grows : Bool) (word o m count : ℕ) (at : List ℕ) → m ≡ 0 → So grows word o m count at
    → Strokes grows word o 0 count at
so_done grows word o m count at z so =
    record {
      few = so.few;
      long = so.long;
      near = so.near;
      inside = so.inside;
      covered = λ c h q. ⊎_elim (λ on. absurd (none c on)) (λ r. r) (so.covered c h q);
    }
  where
    none : (c : ℕ) → cell_on64 m c ≡ true → ⊥
    none c q =
        let a = eqb-true (bit m (63 - c)) 1 q in
        let b : bit m (63 - c) ≤ m = omega (arith, shr_le m (63 - c)) in
        low (bit m (63 - c)) m a b z
      where
        low : (n m : ℕ) → n ≡ 1 → n ≤ m → m ≡ 0 → ⊥
        low n m a b c = omega arith

-- ---- a run: its windows stand in one room
module _ (word c wide : ℕ) (is : run_word wide / 2 ^ c ≡ word) (fits : c + wide ≤ 64) (some : 0 < wide) where
  abbrev start : Bool → ℕ → ℕ
  start grows o = place_of grows o (end_cell grows c wide)

  run_in : (grows : Bool) (o q : ℕ) → o < 64 → start grows o ≤ q → q < start grows o + wide
      → CellAt grows word o q
  run_in true o q ho h k =
      let d = c + wide - 1 - (q - (64 + o - (c + wide - 1))) in
      (d, (omega arith, (in_run word c wide is fits d (omega arith) (omega arith), omega arith)))
  run_in false o q ho h k =
      let d = c + (q - (64 + c - o)) in
      (d, (omega arith, (in_run word c wide is fits d (omega arith) (omega arith), omega arith)))

  run_of : (grows : Bool) (o d : ℕ) → o < 64 → d < 64 → cell_on64 word d ≡ true
      → (start grows o ≤ place_of grows o d) × (place_of grows o d < start grows o + wide)
  run_of true o d ho hd on =
      let r = of_run word c wide is fits d hd on in (omega (arith, r.0, r.1), omega (arith, r.0, r.1))
  run_of false o d ho hd on =
      let r = of_run word c wide is fits d hd on in (omega (arith, r.0, r.1), omega (arith, r.0, r.1))

  run_end : (grows : Bool) (o : ℕ) → o < 64 → start grows o + wide ≤ 128
  run_end true o h = omega arith
  run_end false o h = omega arith

  pub run_strokes : (grows : Bool) (o n base from count : ℕ) (at : List ℕ) → o < 64
      → ((n ≡ 4) × (base ≡ 0)) ⊎ ((n ≡ 16) × (base ≡ room))
      → from ≡ base + start grows o → RunOf n wide from count at → Strokes grows word o 1 count at
  run_strokes grows o n base from count at ho which ef r =
      record {
        few = r.few;
        long = r.long;
        near = λ j h.
            let f = r.inside j h in
            ⊎_elim
            (λ e. inl (omega (arith, e.0, e.1, f.1, run_end grows o ho)))
            (λ e. inr (omega (arith, e.1, f.0), omega (arith, e.0, e.1, f.1, run_end grows o ho)))
            which;
        inside = λ j q h s.
            let f = r.inside j h in
            ⊎_elim
            (λ e. ⊎_elim
            (λ a. run_in grows o q ho (omega (arith, e.1, f.0, a.1.0)) (omega
            (arith, e.0, e.1, f.1, a.1.1)))
            (λ a. absurd (omega (arith, e.0, e.1, f.1, run_end grows o ho, a.0))) s)
            (λ e. ⊎_elim
            (λ a. absurd (omega (arith, e.1, f.0, a.0)))
            (λ a. run_in grows o q ho (omega (arith, e.1, f.0, a.1.0)) (omega
            (arith, e.0, e.1, f.1, a.1.1, a.0)))
            s)
            which;
        covered = λ d hd on.
            let b = run_of grows o d ho hd on in
            let f = r.covered (place_of grows o d - start grows o) (omega (arith, b.0, b.1)) in (
              f.0,
              (
                f.1.0,
                ⊎_elim
                    (λ e. inl (
                      omega (arith, e.1, f.1.1.0, b.1, run_end grows o ho),
                      (omega (arith, e.1, b.0, f.1.1.0), omega (arith, e.0, e.1, b.0, f.1.1.1)),
                    ))
                    (λ e. let g = r.inside f.0 f.1.0 in inr (
                      omega (arith, e.1, g.0),
                      (
                        omega (arith, e.1, b.0, f.1.1.0, g.0),
                        omega (
                          arith,
                          e.0,
                          e.1,
                          b.0,
                          f.1.1.1,
                          g.0,
                        ),
                      ),
                    ))
                    which,
              ),
            );
      }

-- ---- what the code asks of places and of the next cell
pub place_some : (grows : Bool) (o c p : ℕ) → o < 64 → c < 64 → p ≡ place_of grows o c → 0 < p
place_some true o c p h k e = omega arith
place_some false o c p h k e = omega arith

pub next_le : (rest half next : ℕ) → next ≡ next_of rest half → next ≤ rest
next_le rest half next e = by (eqb half 0) (ltb rest half) refl e
  where
    by : (a b : Bool) → ltb rest half ≡ b → next ≡ cond a 0 (cond b 0 half) → next ≤ rest
    by true b q e = omega arith
    by false true q e = omega arith
    by false false q e = omega (arith, ltb-false rest half q)

-- windows of 4 in the first room, of 16 in the second
pub base_which : (word n base : ℕ) → 1 < n → n ≡ level_of word → base ≡ base_of n
    → ((n ≡ 4) × (base ≡ 0)) ⊎ ((n ≡ 16) × (base ≡ room))
base_which word n base h e eb =
    ⊎_elim (λ z. absurd (omega arith))
    (⊎_elim (λ z. inl (z, eb ∙ ap base_of z)) (λ z. inr (z, eb ∙ ap base_of z)))
    (level_values word n (omega arith) e)

pub kind_cells : (n : ℕ) → n ≤ 1 → 0 ≡ kind_of n
kind_cells n h = ap (λ b. cond b 0 1) (sym (le-leb n 1 h))

pub kind_runs : (n : ℕ) → 1 < n → 1 ≡ kind_of n
kind_runs n h = ap (λ b. cond b 0 1) (sym (lt-leb n 1 h))
