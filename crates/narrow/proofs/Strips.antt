-- Padded rows in three words, place by place.
use Prim.Native.Nat.{ℕ, zero, suc, ◌+◌, ◌-◌, ◌*◌, ◌/◌, ◌%◌, ◌^◌, ◌≤◌, ◌<◌, min, max}
use mathlib.Core.Path.{◌≡◌, refl, sym, ap, ap₂, ◌∙◌, subst}
use mathlib.Core.Bool.{Bool, cond}
use mathlib.Core.List.{List}
use mathlib.Core.Logic.{⊎_elim}
use native.Mathlib.Omega.{arith}
use lib.Dec.{ltb}
use lib.Bits.{bit_or}
use lib.Pow.{pow_pos}
use lib.ListN.{length, get_or, get_or-eq_default}
use borrow.Author.Tests.{lt-ltb, le-ltb}
use Rattle.basics.specs.Bits.{bit}
use Rattle.basics.specs.Lists.{firsts}
use Rattle.basics.proofs.Lists.{length_firsts, get_d_firsts}
use Rattle.basics.proofs.Bits.{bit_lt, bit_or_lem}
use Rattle.basics.proofs.SliceParts.{below_or_not}
use Rattle.blocks.specs.Steps.Laid.{laid}
use Rattle.blocks.proofs.Laid.{laid_same, laid_next, laid_whole}
use Rattle.blocks.proofs.Points.{bit_above}
use Rattle.blocks.specs.Steps.Points.{point_of}
use Rattle.packedline.specs.Steps.Line.{faced_point, pack_of}
use Rattle.packedline.proofs.Folded.{pack_is}
use Rattle.words.specs.Steps.Words.{cut_of, byte_of, row_point}
use Rattle.words.proofs.Points.{cut_point, byte_point, byte_lt}
use Rattle.narrow.specs.declared.Strip.{Strip}
use Rattle.narrow.specs.Steps.Strip.{word_of, place_at, row_place, OffWhere, Clear}

pub place_lt : (x : Strip) (p : ℕ) → place_at x p < 2
unfolding place_at
place_lt x p = bit_lt (word_of x (p / 64)) (63 - p % 64)

no_bit : (k : ℕ) → bit 0 k ≡ 0
no_bit k = bit_above 0 k (pow_pos k)

-- what stands in word i, at its place k
pub in_word : (x : Strip) (i k : ℕ) → k < 64 → place_at x (64 * i + k) ≡ bit (word_of x i) (63 - k)
unfolding place_at
in_word x i k h = ap₂ (λ q r. bit (word_of x q) (63 - r)) (quotient i k h) (rest i k h)
  where
    quotient : (i k : ℕ) → k < 64 → (64 * i + k) / 64 ≡ i
    quotient i k h = omega arith

    rest : (i k : ℕ) → k < 64 → (64 * i + k) % 64 ≡ k
    rest i k h = omega arith

parts : (p : ℕ) → p ≡ 64 * (p / 64) + p % 64
parts p = omega arith

-- past the third word nothing stands
pub past_words : (x : Strip) (p : ℕ) → 192 ≤ p → place_at x p ≡ 0
unfolding place_at
past_words x p h =
    ap (λ q. bit (word_of x q) (63 - p % 64)) (far (p / 64) (omega arith)) ∙ no_bit (63 - p % 64)
  where
    far : (q : ℕ) → 3 ≤ q → q ≡ suc (suc (suc (q - 3)))
    far q h = omega arith

-- ---- a row with nothing, joined rows
pub none_there : (p : ℕ) → place_at (record { a = 0; b = 0; c = 0 }) p ≡ 0
unfolding place_at
none_there p = by (p / 64)
  where
    by : (q : ℕ) → bit (word_of (record { a = 0; b = 0; c = 0 }) q) (63 - p % 64) ≡ 0
    by zero = no_bit (63 - p % 64)
    by (suc zero) = no_bit (63 - p % 64)
    by (suc (suc zero)) = no_bit (63 - p % 64)
    by (suc (suc (suc q))) = no_bit (63 - p % 64)

pub join_at_lem : (x y : Strip) (p : ℕ)
    → place_at (record { a = bit_or x.a y.a; b = bit_or x.b y.b; c = bit_or x.c y.c }) p
    ≡ max (place_at x p) (place_at y p)
unfolding place_at
join_at_lem x y p = by (p / 64)
  where
    by : (q : ℕ)
        → bit (word_of (record { a = bit_or x.a y.a; b = bit_or x.b y.b; c = bit_or x.c y.c })
        q)
        (63 - p % 64) ≡ max (bit (word_of x q) (63 - p % 64)) (bit (word_of y q) (63 - p % 64))
    by zero = bit_or_lem x.a y.a (63 - p % 64)
    by (suc zero) = bit_or_lem x.b y.b (63 - p % 64)
    by (suc (suc zero)) = bit_or_lem x.c y.c (63 - p % 64)
    by (suc (suc (suc q))) = no_bit (63 - p % 64) ∙ sym (ap₂ max (no_bit (63 - p % 64)) (no_bit (63 - p %
        64)))

-- ---- moved: word by word, what stands d places further on
abbrev Slid : ℕ → ℕ → ℕ → ℕ → Type 0
Slid u v d r =
    (k : ℕ) → k < 64 → bit r (63 - k) ≡ cond (ltb (k + d) 64) (bit u (63 - (k + d))) (bit v (127 - (k + d)))

slid_in : (x r : Strip) (i d : ℕ) → d < 64 → Slid (word_of x i) (word_of x (i + 1)) d (word_of r i)
    → (k : ℕ) → k < 64 → place_at r (64 * i + k) ≡ place_at x (64 * i + k + d)
slid_in x r i d hd slid k hk =
    in_word r i k hk ∙ slid k hk
    ∙ ⊎_elim
    (λ l. ap (λ b. cond b (bit (word_of x i) (63 - (k + d))) (bit (word_of x (i + 1)) (127 - (k + d))))
    (lt-ltb (k + d) 64 l)
    ∙ sym (in_word x i (k + d) l) ∙ ap (place_at x) (here i k d))
    (λ l. ap (λ b. cond b (bit (word_of x i) (63 - (k + d))) (bit (word_of x (i + 1)) (127 - (k + d))))
    (le-ltb (k + d) 64 l)
    ∙ ap (bit (word_of x (i + 1))) (back k d l)
    ∙ sym (in_word x (i + 1) (k + d - 64) (omega arith)) ∙ ap (place_at x) (there i k d l))
    (below_or_not (k + d) 64)
  where
    here : (i k d : ℕ) → 64 * i + (k + d) ≡ 64 * i + k + d
    here i k d = omega arith

    back : (k d : ℕ) → 64 ≤ k + d → 127 - (k + d) ≡ 63 - (k + d - 64)
    back k d h = omega arith

    there : (i k d : ℕ) → 64 ≤ k + d → 64 * (i + 1) + (k + d - 64) ≡ 64 * i + k + d
    there i k d h = omega arith

pub moved_at : (x r : Strip) (d : ℕ) → d < 64 → Slid x.a x.b d r.a → Slid x.b x.c d r.b
    → Slid x.c 0 d r.c → (p : ℕ) → place_at r p ≡ place_at x (p + d)
moved_at x r d hd ha hb hc p =
    ap (place_at r) (parts p) ∙ by (p / 64) refl ∙ ap (λ n. place_at x (n + d)) (sym (parts p))
  where
    by : (q : ℕ) → p / 64 ≡ q → place_at r (64 * q + p % 64) ≡ place_at x (64 * q + p % 64 + d)
    by zero e = slid_in x r 0 d hd ha (p % 64) (omega arith)
    by (suc zero) e = slid_in x r 1 d hd hb (p % 64) (omega arith)
    by (suc (suc zero)) e = slid_in x r 2 d hd hc (p % 64) (omega arith)
    by (suc (suc (suc q))) e =
        past_words r (64 * suc (suc (suc q)) + p % 64) (omega arith)
        ∙ sym (past_words x (64 * suc (suc (suc q)) + p % 64 + d) (omega arith))

-- a word further on
pub word_on : (x : Strip) (p : ℕ) → place_at (record { a = x.b; b = x.c; c = 0 }) p ≡ place_at x (p + 64)
word_on x p = ap (place_at y) (parts p) ∙ by (p / 64) ∙ ap (λ n. place_at x (n + 64)) (sym (parts p))
  where
    y : Strip
    y = record { a = x.b; b = x.c; c = 0 }

    on : (q : ℕ) → word_of y q ≡ word_of x (suc q)
    on zero = refl
    on (suc zero) = refl
    on (suc (suc zero)) = refl
    on (suc (suc (suc q))) = refl

    next : (q k : ℕ) → 64 * suc q + k ≡ 64 * q + k + 64
    next q k = omega arith

    by : (q : ℕ) → place_at y (64 * q + p % 64) ≡ place_at x (64 * q + p % 64 + 64)
    by q =
        in_word y q (p % 64) (omega arith) ∙ ap (λ n. bit n (63 - p % 64)) (on q)
        ∙ sym (in_word x (suc q) (p % 64) (omega arith)) ∙ ap (place_at x) (next q (p % 64))

pub moved_on : (x r : Strip) (d : ℕ) → 64 ≤ d
    → ((p : ℕ) → place_at r p ≡ place_at (record { a = x.b; b = x.c; c = 0 }) (p + (d - 64)))
    → (p : ℕ) → place_at r p ≡ place_at x (p + d)
moved_on x r d h each p = each p ∙ word_on x (p + (d - 64)) ∙ ap (place_at x) (back p d h)
  where
    back : (p d : ℕ) → 64 ≤ d → p + (d - 64) + 64 ≡ p + d
    back p d h = omega arith

-- ---- a row of a picture, padded
module _ (over : Bool) (s : List ℕ) (at w : ℕ) (r : Strip) (front : r.a ≡ 0)
    (first : (k : ℕ) → k < 64 → bit r.b (63 - k) ≡ row_point over s at w k)
    (second : (k : ℕ) → k < 64 → bit r.c (63 - k) ≡ row_point over s at w (64 + k))
    (narrow : w ≤ 128) where
  past_row : (k : ℕ) → 128 ≤ k → row_point over s at w k ≡ 0
  unfolding row_point
  past_row k h =
      ap (λ b. cond b (faced_point over (bit (get_or s (at + k / 8) 0) (7 - k % 8))) 0)
      (le-ltb k w (omega arith))

  shown : (p k : ℕ) → 64 ≤ p → p - 64 ≡ k → row_point over s at w k ≡ row_place over s at w p
  unfolding row_place
  shown p k h e =
      ap (row_point over s at w) (sym e)
      ∙ ap (λ b. cond b 0 (row_point over s at w (p - 64))) (sym (le-ltb p 64 h))

  pub row_places : (p : ℕ) → place_at r p ≡ row_place over s at w p
  unfolding row_place
  row_places p = ap (place_at r) (parts p) ∙ by (p / 64) refl
    where
      by : (q : ℕ) → p / 64 ≡ q → place_at r (64 * q + p % 64) ≡ row_place over s at w p
      by zero e =
          in_word r 0 (p % 64) (omega arith) ∙ ap (λ n. bit n (63 - p % 64)) front ∙ no_bit (63 - p % 64)
          ∙ ap (λ b. cond b 0 (row_point over s at w (p - 64))) (sym (lt-ltb p 64 (omega arith)))
      by (suc zero) e =
          in_word r 1 (p % 64) (omega arith) ∙ first (p % 64) (omega arith)
          ∙ shown p (p % 64) (omega arith) (omega arith)
      by (suc (suc zero)) e =
          in_word r 2 (p % 64) (omega arith) ∙ second (p % 64) (omega arith)
          ∙ shown p (64 + p % 64) (omega arith) (omega arith)
      by (suc (suc (suc q))) e =
          past_words r (64 * suc (suc (suc q)) + p % 64) (omega arith)
          ∙ sym (past_row (p - 64) (omega arith)) ∙ shown p (p - 64) (omega arith) refl

pub no_second : (over : Bool) (s : List ℕ) (at w k : ℕ) → w ≤ 64 → bit 0 (63 - k)
    ≡ row_point over s at w (64 + k)
unfolding row_point
no_second over s at w k h =
    no_bit (63 - k)
    ∙ ap (λ b. cond b (faced_point over (bit (get_or s (at + (64 + k) / 8) 0) (7 - (64 + k) % 8))) 0)
    (sym (le-ltb (64 + k) w (omega arith)))

pub next_points : (over : Bool) (s : List ℕ) (at w k : ℕ) → 64 ≤ w
    → row_point over s (at + 8) (w - 64) k ≡ row_point over s at w (64 + k)
unfolding row_point
next_points over s at w k h =
    ap₂ (λ b v. cond b (faced_point over v) 0) (same k w h)
    (ap₂ (λ i j. bit (get_or s i 0) (7 - j)) (index at k) (rest k))
  where
    same : (k w : ℕ) → 64 ≤ w → ltb k (w - 64) ≡ ltb (64 + k) w
    same k w h =
        ⊎_elim (λ l. lt-ltb k (w - 64) l ∙ sym (lt-ltb (64 + k) w (omega arith)))
        (λ l. le-ltb k (w - 64) l ∙ sym (le-ltb (64 + k) w (omega arith))) (below_or_not k (w - 64))

    index : (at k : ℕ) → at + 8 + k / 8 ≡ at + (64 + k) / 8
    index at k = omega arith

    rest : (k : ℕ) → k % 8 ≡ (64 + k) % 8
    rest k = omega arith

-- ---- the first w points, turned over or not, and their bytes
module _ (over : Bool) (x : Strip) (w : ℕ) (few : w ≤ 128) (ha : x.a < 2 ^ 64) (hb : x.b < 2 ^ 64) where
  abbrev done : Strip
  done = record { a = cut_of over x.a w; b = cut_of over x.b (w - 64); c = 0 }

  abbrev pub finished : ℕ → ℕ
  finished p = cond (ltb p w) (faced_point over (place_at x p)) 0

  none_past : (q : ℕ) → w ≤ q → 0 ≡ finished q
  none_past q h = ap (λ b. cond b (faced_point over (place_at x q)) 0) (sym (le-ltb q w h))

  done_at : (p : ℕ) → place_at done p ≡ finished p
  done_at p = ap (place_at done) (parts p) ∙ by (p / 64) refl ∙ ap finished (sym (parts p))
    where
      first : (k : ℕ) → k ≡ 64 * 0 + k
      first k = omega arith

      same : (k : ℕ) → ltb k (w - 64) ≡ ltb (64 * 1 + k) w
      same k =
          ⊎_elim (λ l. lt-ltb k (w - 64) l ∙ sym (lt-ltb (64 * 1 + k) w (omega arith)))
          (λ l. le-ltb k (w - 64) l ∙ sym (le-ltb (64 * 1 + k) w (omega arith))) (below_or_not k (w - 64))

      by : (q : ℕ) → p / 64 ≡ q → place_at done (64 * q + p % 64) ≡ finished (64 * q + p % 64)
      by zero e =
          in_word done 0 (p % 64) (omega arith) ∙ cut_point over x.a w (p % 64) ha (omega arith)
          ∙ ap (λ b. cond (ltb (p % 64) w) (faced_point over b) 0) (sym (in_word x 0 (p % 64) (omega arith)))
          ∙ ap (λ q. cond (ltb q w) (faced_point over (place_at x (64 * 0 + p % 64))) 0) (first (p % 64))
      by (suc zero) e =
          in_word done 1 (p % 64) (omega arith) ∙ cut_point over x.b (w - 64) (p % 64) hb (omega arith)
          ∙ ap₂ (λ t b. cond t (faced_point over b) 0) (same (p % 64))
          (sym (in_word x 1 (p % 64) (omega arith)))
      by (suc (suc zero)) e =
          in_word done 2 (p % 64) (omega arith) ∙ no_bit (63 - p % 64) ∙ none_past (64 * 2 + p % 64) (omega
          arith)
      by (suc (suc (suc q))) e =
          past_words done (64 * suc (suc (suc q)) + p % 64) (omega arith)
          ∙ none_past (64 * suc (suc (suc q)) + p % 64) (omega arith)

  -- byte i of the words
  abbrev byte_in : ℕ → ℕ
  byte_in i = byte_of (word_of done (i / 8)) (i % 8)

  bytes_packed : (n : ℕ) (t : List ℕ) → t ≡ firsts byte_in n → t ≡ pack_of finished n
  unfolding point_of
  bytes_packed n t e =
      pack_is finished n t len
      (λ i. ⊎_elim (λ l. subst (λ v. v < 2 ^ 8) (sym (byte i l)) (byte_lt (word_of done (i / 8)) (i % 8)))
      (λ l. subst (λ v. v < 2 ^ 8) (sym (get_or-eq_default t 0 (subst (λ m. m ≤ i) (sym len) l)))
      (pow_pos 8)) (below_or_not i n))
      (λ p. subst (λ v. v < 2) (done_at p) (place_lt done p))
      (λ p h. ap (λ b. bit b (7 - p % 8)) (byte (p / 8) h)
      ∙ byte_point (word_of done (p / 8 / 8)) (p / 8 % 8) (p % 8) (omega arith) (omega arith)
      ∙ ap₂ (λ i k. bit (word_of done i) (63 - k)) (word p) (rest p)
      ∙ sym (in_word done (p / 64) (p % 64) (omega arith)) ∙ ap (place_at done) (sym (parts p)) ∙ done_at p)
    where
      len : length t ≡ n
      len = ap length e ∙ length_firsts byte_in n

      byte : (i : ℕ) → i < n → get_or t i 0 ≡ byte_in i
      byte i l = ap (λ m. get_or m i 0) e ∙ get_d_firsts byte_in n i l

      word : (p : ℕ) → p / 8 / 8 ≡ p / 64
      word p = omega arith

      rest : (p : ℕ) → 8 * (p / 8 % 8) + p % 8 ≡ p % 64
      rest p = omega arith

  -- one word after the other
  pub put_both : (m q : ℕ) (t u z : List ℕ) → length t ≤ 16 → m ≡ min (length t) 8 → q ≡ w - 64
      → u ≡ laid 0 (m - 0) (byte_of (cut_of over x.a w)) t
      → z ≡ laid m (length t - m) (byte_of (cut_of over x.b q)) u → z ≡ pack_of finished (length t)
  put_both m q t u z l em eq eu ez =
      bytes_packed (length t) z
      (laid_whole (length t) byte_in t z refl
      (laid_next 0 m (length t - m) byte_in (byte_of (cut_of over x.b (w - 64))) t u z (omega arith)
      (eu ∙ ap (λ n. laid 0 n (byte_of (cut_of over x.a w)) t) (whole m)
      ∙ laid_same 0 m _ byte_in t (omega arith) (λ i h. sym (low i (omega arith))))
      (ez ∙ ap₂ (λ n q. laid n (length t - m) (byte_of (cut_of over x.b q)) u) (sym (none m)) eq)
      (λ i h. sym (high i m (omega arith) (omega arith)))
      ∙ ap (λ n. laid 0 n byte_in t) (all m (length t) em)))
    where
      whole : (m : ℕ) → m - 0 ≡ m
      whole m = omega arith

      none : (m : ℕ) → 0 + m ≡ m
      none m = omega arith

      all : (m n : ℕ) → m ≡ min n 8 → m + (n - m) ≡ n
      all m n e = omega arith

      low : (i : ℕ) → i < 8 → byte_in i ≡ byte_of (cut_of over x.a w) i
      low i h = ap₂ (λ q r. byte_of (word_of done q) r) (quotient i h) (rest i h)
        where
          quotient : (i : ℕ) → i < 8 → i / 8 ≡ 0
          quotient i h = omega arith

          rest : (i : ℕ) → i < 8 → i % 8 ≡ i
          rest i h = omega arith

      high : (i m : ℕ) → m ≡ 8 → i < 8 → byte_in (m + i) ≡ byte_of (cut_of over x.b (w - 64)) i
      high i m e h = ap₂ (λ q r. byte_of (word_of done q) r) (quotient i m e h) (rest i m e h)
        where
          quotient : (i m : ℕ) → m ≡ 8 → i < 8 → (m + i) / 8 ≡ 1
          quotient i m e h = omega arith

          rest : (i m : ℕ) → m ≡ 8 → i < 8 → (m + i) % 8 ≡ i
          rest i m e h = omega arith

-- ---- 0 at a place, of joined rows and of windows
pub both_off : (a b c : ℕ) → c ≡ max a b → c ≡ 0 → (a ≡ 0) × (b ≡ 0)
both_off a b c e z = (omega arith, omega arith)

pub off_both : (a b c : ℕ) → c ≡ max a b → a ≡ 0 → b ≡ 0 → c ≡ 0
off_both a b c e p q = omega arith

pub window_one : (x : Strip) (n : ℕ) → n ≡ 1 → OffWhere x (Clear x n)
window_one x n e p = (
  λ z j h. ap (place_at x) (only p j (subst (λ m. j < m) e h)) ∙ z,
  λ f. ap (place_at x) (sym (only p 0 (omega arith))) ∙ f 0 (subst (λ m. 0 < m) (sym e) (omega arith)),
)
  where
    only : (p j : ℕ) → j < 1 → p + j ≡ p
    only p j h = omega arith

-- windows of m, joined with those d places further on, where d ≤ m, are windows of d + m
pub window_more : (x v u r : Strip) (m d n : ℕ) → d ≤ m → d + m ≡ n → OffWhere v (Clear x m)
    → ((p : ℕ) → place_at u p ≡ place_at v (p + d))
    → ((p : ℕ) → place_at r p ≡ max (place_at v p) (place_at u p)) → OffWhere r (Clear x n)
window_more x v u r m d n h e so moved joined p = (
  λ z j l.
      let q = both_off (place_at v p) (place_at u p) (place_at r p) (joined p) z in
      ⊎_elim (λ k. (so p).0 q.0 j k)
      (λ k. ap (place_at x) (split p d j (omega arith))
      ∙ (so (p + d)).0 (sym (moved p) ∙ q.1) (j - d) (omega arith))
      (below_or_not j m),
  λ f. off_both (place_at v p) (place_at u p) (place_at r p) (joined p)
      ((so p).1 (λ j l. f j (omega arith)))
      (moved p ∙ (so (p + d)).1 (λ j l. ap (place_at x) (assoc p d j) ∙ f (d + j) (omega arith))),
)
  where
    split : (p d j : ℕ) → d ≤ j → p + j ≡ p + d + (j - d)
    split p d j h = omega arith

    assoc : (p d j : ℕ) → p + d + j ≡ p + (d + j)
    assoc p d j = omega arith
