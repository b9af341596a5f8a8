-- The gap closed, the new one opened, the bytes copied and the length set: the share holds the map with
-- that one entry changed.
use Prim.Native.Nat.{ℕ, zero, suc, ◌+◌, ◌-◌, ◌*◌, ◌/◌, ◌%◌, ◌≤◌, ◌<◌}
use mathlib.Core.Path.{◌≡◌, refl, sym, ap, ap₂, ◌∙◌, subst}
use mathlib.Core.Bool.{Bool, true, false, cond}
use mathlib.Core.List.{List, [], ◌++◌, append_assoc, append-nil}
use mathlib.Core.Logic.{⊎_elim}
use native.Mathlib.Omega.{arith}
use native.Mathlib.Nat.{not-suc-le-zero, le_of_suc-le-suc, eq-or-lt_of_le}
use borrow.Author.Tests.{eq-eqb, ne_eqb, eqb-true, eqb-false}
use borrow.Rule.Slice.PartMut.{mid_of, put_mid}
use lib.Dec.{eqb}
use lib.ListN.{length, get_or, set, take, drop, length-set}
use lib.Seq.{take-add, drop-drop, take-take, take-append-le, drop_at, take-length, length-take-le}
use lib.Seq.{set-append_left, get_or-set_same, get_or-set_other, get_or-take, paste}
use Rattle.std.specs.List.{copy_within}
use Rattle.basics.specs.Lists.{firsts, joined}
use Rattle.basics.proofs.Lists.{list_is}
use Rattle.share.specs.Share.{sum_to, length_at, place_of, held_at, length_byte, share_bytes, holding}
use Rattle.share.specs.Maps.{Map, with}
use Rattle.share.specs.Steps.Moves.{Fits}
use Rattle.share.proofs.Sums.{sum_same, sum_rises, sum_within, sum_others, joined_same}
use Rattle.share.proofs.Shares.{length_bytes, held_length, low_byte, high_byte}
use Rattle.share.proofs.Steps.{sum_with}

-- the entry that is changed, and the others
with_there : (m : Map) (n : ℕ) (d : List ℕ) → with m n d n ≡ d
with_there m n d = ap (λ (t : Bool). cond t d (m n)) (eq-eqb n n refl)

with_other : (m : Map) (n : ℕ) (d : List ℕ) (i : ℕ) → (i ≡ n → ⊥) → with m n d i ≡ m i
with_other m n d i h = ap (λ (t : Bool). cond t d (m i)) (ne_eqb i n h)

module _ (N : ℕ) (s : List ℕ) where
  -- ---- the descriptors
  joined_held : (j : ℕ) → joined (held_at N s) j ≡ take (sum_to (length_at s) j) (drop (2 * N) s)
  unfolding joined sum_to held_at place_of
  joined_held zero = refl
  joined_held (suc j) =
      ap₂ (λ a b. a ++ take (length_at s j) b) (joined_held j)
      (sym (drop-drop (sum_to (length_at s) j) (2 * N) s))
      ∙ sym (take-add (sum_to (length_at s) j) (length_at s j) (drop (2 * N) s))

  -- those from the place a on, up to number k
  rest_to : ℕ → ℕ → List ℕ
  rest_to a k = take (sum_to (length_at s) k - a) (drop (2 * N + a) s)

  rest_none : (a k : ℕ) → sum_to (length_at s) k ≡ a → rest_to a k ≡ []
  unfolding rest_to
  rest_none a k e = ap (λ n. take n (drop (2 * N + a) s)) (none (sum_to (length_at s) k) a e)
    where
      none : (x y : ℕ) → x ≡ y → x - y ≡ 0
      none x y e = omega arith

  rest_more : (a k : ℕ) → a ≤ sum_to (length_at s) k → rest_to a k ++ held_at N s k ≡ rest_to a (suc k)
  unfolding rest_to held_at place_of sum_to
  rest_more a k h =
      ap (λ l. rest_to a k ++ take (length_at s k) l) (ap (λ i. drop i s)
      (place N a (sum_to (length_at s) k) h) ∙ sym (drop-drop (sum_to (length_at s) k - a) (2 * N + a) s))
      ∙ sym (take-add (sum_to (length_at s) k - a) (length_at s k) (drop (2 * N + a) s))
      ∙ ap (λ i. take i (drop (2 * N + a) s)) (sum a (sum_to (length_at s) k) (length_at s k) h)
    where
      place : (N a x : ℕ) → a ≤ x → 2 * N + x ≡ 2 * N + a + (x - a)
      place N a x h = omega arith

      sum : (a x y : ℕ) → a ≤ x → x - a + y ≡ x + y - a
      sum a x y h = omega arith

  module _ (n : ℕ) (d : List ℕ) where
    joined_with : (k : ℕ) → n < k
        → joined (with (held_at N s) n d) k ≡ joined (held_at N s) n ++
        (d ++ rest_to (sum_to (length_at s) (suc n)) k)
    unfolding joined
    joined_with zero h = absurd (not-suc-le-zero h)
    joined_with (suc k) h =
        ⊎_elim
        (λ e.
        ap₂ (λ a b. a ++ b) (ap (joined (with (held_at N s) n d)) (sym e)
        ∙ joined_same (with (held_at N s) n d) (held_at N s) n
        (λ i l. with_other (held_at N s) n d i (λ q. omega arith)))
        (ap (with (held_at N s) n d) (sym e) ∙ with_there (held_at N s) n d)
        ∙ ap (λ l. joined (held_at N s) n ++ l)
        (sym (append-nil d) ∙ ap (λ l. d ++ l) (sym (rest_none (sum_to (length_at s) (suc n)) (suc k)
        (ap (λ i. sum_to (length_at s) (suc i)) (sym e))))))
        (λ l.
        ap₂ (λ a b. a ++ b) (joined_with k l) (with_other (held_at N s) n d k (λ q. omega arith))
        ∙ append_assoc (joined (held_at N s) n) (d ++ rest_to (sum_to (length_at s) (suc n)) k)
        (held_at N s k)
        ∙ ap (λ r. joined (held_at N s) n ++ r) (append_assoc d (rest_to (sum_to (length_at s) (suc n)) k)
        (held_at N s k)
        ∙ ap (λ r. d ++ r) (rest_more (sum_to (length_at s) (suc n)) k
        (sum_rises (length_at s) (suc n) k l))))
        (eq-or-lt_of_le (le_of_suc-le-suc h))

-- ---- the lengths
dec_eq : (a b : ℕ) → Dec (a ≡ b)
dec_eq a b = by (eqb a b) refl
  where
    by : (t : Bool) → eqb a b ≡ t → Dec (a ≡ b)
    by true e = yes (eqb-true a b e)
    by false e = no (eqb-false a b e)

halves : (i n : ℕ) → i / 2 ≡ n → (i ≡ 2 * n + 1 → ⊥) → (i ≡ 2 * n → ⊥) → ⊥
halves i n e o p = omega arith

module _ (N n : ℕ) (s d : List ℕ) (w : Fits N n s d) (bytes : (i : ℕ) → get_or s i 0 < 256) where
  lens : List ℕ
  lens = set (set (take (2 * N) s) (2 * n) (length d % 256)) (2 * n + 1) (length d / 256)

  long : length (take (2 * N) s) ≡ 2 * N
  long = length-take-le (2 * N) s (omega (arith, w.fits))

  -- a byte of another number's length
  old_byte : (i : ℕ) → i < 2 * N → (i / 2 ≡ n → ⊥) → get_or s i 0 ≡ length_byte (with (held_at N s) n d) i
  unfolding length_at
  old_byte i h o =
      by (i % 2) refl (omega arith)
      ∙ ap (λ (l : List ℕ). cond (eqb (i % 2) 0) (length l % 256) (length l / 256))
      (sym (with_other (held_at N s) n d (i / 2) o))
    where
      is : length (held_at N s (i / 2)) ≡ get_or s (2 * (i / 2)) 0 + 256 * get_or s (2 * (i / 2) + 1) 0
      is = held_length N 0 s w.fits (i / 2) (omega arith)

      low : (x y : ℕ) → x < 256 → x ≡ (x + 256 * y) % 256
      low x y h = omega arith

      high : (x y : ℕ) → x < 256 → y ≡ (x + 256 * y) / 256
      high x y h = omega arith

      by : (r : ℕ) → i % 2 ≡ r → r < 2
          → get_or s i 0 ≡ cond (eqb r 0) (length (held_at N s (i / 2)) % 256)
          (length (held_at N s (i / 2)) / 256)
      by zero e h =
          let q : i ≡ 2 * (i / 2) = omega arith in
          ap (λ k. get_or s k 0) q
          ∙ low (get_or s (2 * (i / 2)) 0) (get_or s (2 * (i / 2) + 1) 0) (bytes (2 * (i / 2)))
          ∙ ap (λ k. k % 256) (sym is)
      by (suc zero) e h =
          let q : i ≡ 2 * (i / 2) + 1 = omega arith in
          ap (λ k. get_or s k 0) q
          ∙ high (get_or s (2 * (i / 2)) 0) (get_or s (2 * (i / 2) + 1) 0) (bytes (2 * (i / 2)))
          ∙ ap (λ k. k / 256) (sym is)
      by (suc (suc r)) e h = absurd (omega arith)

  lens_are : lens ≡ firsts (length_byte (with (held_at N s) n d)) (2 * N)
  unfolding lens
  lens_are =
      list_is (length_byte (with (held_at N s) n d)) (2 * N) lens
      (length-set (set (take (2 * N) s) (2 * n) (length d % 256)) (2 * n + 1) (length d / 256)
      ∙ length-set (take (2 * N) s) (2 * n) (length d % 256) ∙ long) (λ i h. by i h)
    where
      first : List ℕ
      first = set (take (2 * N) s) (2 * n) (length d % 256)

      by : (i : ℕ) → i < 2 * N
          → get_or (set (set (take (2 * N) s) (2 * n) (length d % 256)) (2 * n + 1) (length d / 256)) i
          0 ≡ length_byte (with (held_at N s) n d) i
      by i h = go (dec_eq i (2 * n + 1)) (dec_eq i (2 * n))
        where
          go : Dec (i ≡ 2 * n + 1) → Dec (i ≡ 2 * n)
              → get_or (set (set (take (2 * N) s) (2 * n) (length d % 256)) (2 * n + 1) (length d / 256)) i
              0 ≡ length_byte (with (held_at N s) n d) i
          go (yes e) q =
              ap (λ k. get_or (set (set (take (2 * N) s) (2 * n) (length d % 256)) (2 * n + 1)
              (length d / 256)) k 0) e
              ∙ get_or-set_same (set (take (2 * N) s) (2 * n) (length d % 256)) (2 * n + 1) (length d / 256)
              0 (subst (λ k. 2 * n + 1 < k) (sym (length-set (take (2 * N) s) (2 * n) (length d % 256)
              ∙ long)) (omega arith))
              ∙ ap (λ (l : List ℕ). length l / 256) (sym (with_there (held_at N s) n d))
              ∙ sym (high_byte (with (held_at N s) n d) n)
              ∙ ap (length_byte (with (held_at N s) n d)) (sym e)
          go (no o) (yes e) =
              get_or-set_other (set (take (2 * N) s) (2 * n) (length d % 256)) (2 * n + 1) i
              (length d / 256) 0 o
              ∙ ap (λ k. get_or (set (take (2 * N) s) (2 * n) (length d % 256)) k 0) e
              ∙ get_or-set_same (take (2 * N) s) (2 * n) (length d % 256) 0
              (subst (λ k. 2 * n < k) (sym long) (omega arith))
              ∙ ap (λ (l : List ℕ). length l % 256) (sym (with_there (held_at N s) n d))
              ∙ sym (low_byte (with (held_at N s) n d) n)
              ∙ ap (length_byte (with (held_at N s) n d)) (sym e)
          go (no o) (no p) =
              get_or-set_other (set (take (2 * N) s) (2 * n) (length d % 256)) (2 * n + 1) i
              (length d / 256) 0 o
              ∙ get_or-set_other (take (2 * N) s) (2 * n) i (length d % 256) 0 p
              ∙ get_or-take (2 * N) s i 0 h
              ∙ old_byte i h (λ e. halves i n e o p)

-- ---- the moves
-- bytes written over others, as the part that they fill
moved : (from to n : ℕ) (s : List ℕ) → paste s to (drop from s) n ≡ put_mid to n s (mid_of from n s)
moved from to n s =
    append_assoc (take to s) (take n (drop from s)) (drop (to + n) s)
    ∙ ap (λ r. take to s ++ (take n (drop from s) ++ r)) (sym (drop-drop n to s))

module _ (at k : ℕ) (s d mid : List ℕ) (t : ℕ) (e : length d ≡ k) (fits : at + k ≤ length s) where
  -- what lies before the new place, the new bytes, and what was moved behind them
  pasted : paste (put_mid (at + k) t s mid) at d k ≡ (take at s ++ d) ++ (mid ++ drop (at + k + t) s)
  pasted =
      ap₂ (λ a b. a ++ b)
      (ap₂ (λ a b. a ++ b) (take-append-le at (take (at + k) s) _
      (subst (λ i. at ≤ i) (sym front) (omega arith)) ∙ take-take at (at + k) s (omega arith))
      (ap (λ i. take i d) (sym e) ∙ take-length d))
      (drop_at (take (at + k) s) _ (at + k) front ∙ ap (λ l. mid ++ l) (drop-drop t (at + k) s))
    where
      front : length (take (at + k) s) ≡ at + k
      front = length-take-le (at + k) s fits

set_front : (xs ys l : List ℕ) (i a j b : ℕ) → l ≡ xs ++ ys → i < length xs → j < length xs
    → set (set l i a) j b ≡ set (set xs i a) j b ++ ys
set_front xs ys l i a j b e h g =
    ap (λ l. set (set l i a) j b) e ∙ ap (λ l. set l j b) (set-append_left xs ys i a h)
    ∙ set-append_left (set xs i a) ys j b (subst (λ n. j < n) (sym (length-set xs i a)) g)

assemble : (A P d mid Z F J v x : List ℕ) (i a j b : ℕ) → v ≡ ((A ++ P) ++ d) ++ (mid ++ Z) → i < length A
    → j < length A → J ≡ P ++ (d ++ mid)
    → set (set A i a) j b ≡ F → x ≡ set (set v i a) j b → x ≡ (F ++ J) ++ Z
assemble A P d mid Z F J v x i a j b ev h g eJ eF ex =
    ex ∙ set_front A (J ++ Z) v i a j b (ev ∙ shape) h g ∙ ap (λ l. l ++ (J ++ Z)) eF
    ∙ sym (append_assoc F J Z)
  where
    shape : ((A ++ P) ++ d) ++ (mid ++ Z) ≡ A ++ (J ++ Z)
    shape =
        append_assoc (A ++ P) d (mid ++ Z) ∙ append_assoc A P (d ++ (mid ++ Z))
        ∙ ap (λ l. A ++ l) (ap (λ l. P ++ l) (sym (append_assoc d mid Z))
        ∙ sym (append_assoc P (d ++ mid) Z) ∙ ap (λ l. l ++ Z) (sym eJ))

module _ (N n : ℕ) (s d : List ℕ) (w : Fits N n s d) (bytes : (i : ℕ) → get_or s i 0 < 256) where
  -- the sums that the code has
  module _ (t o a : ℕ) (et : t ≡ sum_to (length_at s) n) (eo : o ≡ length_at s n)
      (ea : a ≡ sum_to (length_at s) N) where
    pub next_le : 2 * N + t + o ≤ 2 * N + a
    next_le = let h = sum_within (length_at s) n N w.below in omega arith

    pub moves_fit : (2 * N + t + o + (2 * N + a - (2 * N + t + o)) ≤ length s) ×
        (2 * N + t + length d + (2 * N + a - (2 * N + t + o)) ≤ length s)
    moves_fit =
        let h = sum_within (length_at s) n N w.below in
        (omega (arith, w.fits), omega (arith, w.grown))

    -- the moved bytes are the descriptors of the higher numbers
    mid_is : mid_of (2 * N + t + o) (2 * N + a - (2 * N + t + o)) s
        ≡ rest_to N s (sum_to (length_at s) (suc n)) N
    unfolding rest_to sum_to
    mid_is =
        ap₂ (λ i j. take i (drop j s)) (count N t o a) (place N t o)
        ∙ ap₂ (λ (i j : ℕ). take (j - i) (drop (2 * N + i) s)) (ap₂ (λ x y. x + y) et eo) ea
      where
        count : (N t o a : ℕ) → 2 * N + a - (2 * N + t + o) ≡ a - (t + o)
        count N t o a = omega arith

        place : (N t o : ℕ) → 2 * N + t + o ≡ 2 * N + (t + o)
        place N t o = omega arith

    -- where the spare bytes begin
    spare_is : 2 * N + t + length d + (2 * N + a - (2 * N + t + o)) ≡ length
        (share_bytes N (with (held_at N s) n d))
    spare_is =
        let h = sum_within (length_at s) n N w.below in
        let l = length_bytes N (with (held_at N s) n d) in
        let v = sum_with N (held_at N s) n d w.below in
        let u = sum_others (λ i. length (held_at N s i)) n N w.below in
        let each = held_length N 0 s w.fits in
        let q = each n w.below in
        let r = sum_same (λ i. length (held_at N s i)) (length_at s) N each in
        omega arith

    pub replaced : (u v x : List ℕ)
        → u ≡ copy_within s (2 * N + t + o) (2 * N + a) (2 * N + t + length d)
        → v ≡ paste u (2 * N + t) d (length d)
        → x ≡ set (set v (2 * n) (length d % 256)) (2 * n + 1) (length d / 256)
        → x ≡ holding N (with (held_at N s) n d) s
    unfolding holding share_bytes lens
    replaced u v x eu ev ex =
        assemble (take (2 * N) s) (take t (drop (2 * N) s)) d
        (mid_of (2 * N + t + o) (2 * N + a - (2 * N + t + o)) s)
        (drop (2 * N + t + length d + (2 * N + a - (2 * N + t + o))) s)
        (firsts (length_byte (with (held_at N s) n d)) (2 * N)) (joined (with (held_at N s) n d) N) v x
        (2 * n) (length d % 256) (2 * n + 1) (length d / 256)
        (ev ∙ ap (λ l. paste l (2 * N + t) d (length d)) (eu ∙ moved (2 * N + t + o) (2 * N + t + length d)
        (2 * N + a - (2 * N + t + o)) s)
        ∙ pasted (2 * N + t) (length d) s d (mid_of (2 * N + t + o) (2 * N + a - (2 * N + t + o)) s)
        (2 * N + a - (2 * N + t + o)) refl (omega (arith, moves_fit.1))
        ∙ ap (λ l. (l ++ d) ++ (mid_of (2 * N + t + o) (2 * N + a - (2 * N + t + o)) s ++ drop
        (2 * N + t + length d + (2 * N + a - (2 * N + t + o))) s)) (take-add (2 * N) t s))
        (subst (λ k. 2 * n < k) (sym front) (omega (arith, w.below)))
        (subst (λ k. 2 * n + 1 < k) (sym front) (omega (arith, w.below)))
        (joined_with N s n d N w.below ∙ ap₂ (λ p q. p ++ (d ++ q))
        (joined_held N s n ∙ ap (λ i. take i (drop (2 * N) s)) (sym et)) (sym mid_is))
        (lens_are N n s d w bytes)
        ex
        ∙ ap (λ i. (firsts (length_byte (with (held_at N s) n d)) (2 * N) ++ joined (with (held_at N s) n d)
        N) ++ drop i s) spare_is
      where
        front : length (take (2 * N) s) ≡ 2 * N
        front = length-take-le (2 * N) s (omega (arith, w.fits))
