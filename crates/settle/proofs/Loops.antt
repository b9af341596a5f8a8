-- What the loops and shifts of a machine word give, as the definitions say it.
use Prim.Native.Nat.{ℕ, zero, suc, ◌+◌, ◌-◌, ◌*◌, ◌/◌, ◌%◌, ◌^◌, ◌≤◌, ◌<◌}
use mathlib.Core.Path.{◌≡◌, refl, sym, ap, ◌∙◌, subst}
use native.Mathlib.Omega.{arith}
use lib.Bits.{bit_and, bit_or, or_shifted, and_mask}
use lib.Arith.{digits_lt}
use lib.Pow.{shl_exact, shr_lt, pow-add}
use mathlib.Core.Bool.{Bool, true, false, not, cond}
use mathlib.Core.List.{List}
use borrow.Author.Tests.{eq-eqb, ne_eqb}
use borrow.Rule.Slice.PartMut.{put_mid}
use lib.Dec.{eqb}
use lib.ListN.{get_or}
use Rattle.basics.specs.Bits.{digits}
use Rattle.basics.specs.Lists.{firsts}
use Rattle.picture.proofs.Sizes.{row_room}
use Rattle.settle.specs.Steps.Words.{word_of, sides, once_in, flooded, byte_of}
use Rattle.settle.proofs.Floods.{full_once}
use Rattle.settle.specs.declared.Cell.{Cell}
use Rattle.settle.specs.Steps.Cells.{cell_word, around_of, mask_of, grown_word, settled}

-- two words of d bits as one
pub paired : (d a b : ℕ) → d ≤ 32 → a < 2 ^ d → b < 2 ^ d → bit_or (a * 2 ^ d % 2 ^ 64) b ≡ a * 2 ^ d + b
paired d a b hd ha hb = ap (λ n. bit_or n b) (shl_exact {a = a} d d 64 ha (omega arith)) ∙ or_shifted a d b hb

pub pair_lt : (d a b : ℕ) → a < 2 ^ d → b < 2 ^ d → a * 2 ^ d + b < 2 ^ (d + d)
pair_lt d a b ha hb = subst (λ n. a * 2 ^ d + b < n) (sym (pow-add 2 d d)) (digits_lt ha hb)

-- once nothing changes, nothing changes
pub still_flooded : (m o c v i d : ℕ) → v ≡ flooded m o c i → once_in m o v ≡ v → v ≡ flooded m o c (i + d)
unfolding flooded
still_flooded m o c v i zero e q = e ∙ ap (flooded m o c) (none i)
  where
    none : (i : ℕ) → i ≡ i + 0
    none i = omega arith
still_flooded m o c v i (suc d) e q =
    sym q ∙ ap (once_in m o) (still_flooded m o c v i d e q) ∙ ap (flooded m o c) (more i d)
  where
    more : (i d : ℕ) → suc (i + d) ≡ i + suc d
    more i d = omega arith

-- eight bytes in pairs are the word of eight
pub eight_is : (l : List ℕ) (at b0 b1 b2 b3 b4 b5 b6 b7 p q r s u v z : ℕ)
    → (b0 ≡ get_or l at 0) × (b1 ≡ get_or l (at + 1) 0) × (b2 ≡ get_or l (at + 2) 0)
    × (b3 ≡ get_or l (at + 3) 0)
    → (b4 ≡ get_or l (at + 4) 0) × (b5 ≡ get_or l (at + 5) 0) × (b6 ≡ get_or l (at + 6) 0)
    × (b7 ≡ get_or l (at + 7)
    0)
    → (p ≡ b0 * 2 ^ 8 + b1) × (q ≡ b2 * 2 ^ 8 + b3) × (r ≡ b4 * 2 ^ 8 + b5) × (s ≡ b6 * 2 ^ 8 + b7)
    → (u ≡ p * 2 ^ 16 + q) × (v ≡ r * 2 ^ 16 + s) × (z ≡ u * 2 ^ 32 + v)
    → z ≡ word_of l at 8
unfolding word_of digits
eight_is l at b0 b1 b2 b3 b4 b5 b6 b7 p q r s u v z f g e d =
    let none : get_or l at 0 ≡ get_or l (at + 0) 0 = ap (λ i. get_or l i 0) (omega arith) in
    omega (arith, none)

-- the one point before a word, at its top
pub sides_machine : (v b a k : ℕ) → 1 ≤ k → k ≤ 8
    → bit_or (bit_or (bit_or (bit_or v (v / 2)) (v * 2 % 2 ^ 64)) (bit_and b 1 * 2 ^ (8 * k - 1) % 2 ^ 64))
    (a /
    2 ^ 7)
    ≡ sides v (b % 2) (a / 2 ^ 7) k
unfolding sides
sides_machine v b a k some few =
    ap (λ n. bit_or (bit_or (bit_or (bit_or v (v / 2)) (v * 2 % 2 ^ 64)) n) (a / 2 ^ 7))
    (ap (λ n. n * 2 ^ (8 * k - 1) % 2 ^ 64) (and_mask b 1)
    ∙ shl_exact {a = b % 2} 1 (8 * k - 1) 64 (omega arith) (omega arith))

-- the low bits cleared
pub cleared_machine : (v u : ℕ) → v < 2 ^ 64 → u < 8 → v / 2 ^ u * 2 ^ u % 2 ^ 64 ≡ v / 2 ^ u * 2 ^ u
cleared_machine v u hv hu =
    shl_exact {a = v / 2 ^ u} (64 - u) u 64
    (shr_lt (64 - u) u (subst (λ n. v < 2 ^ n) (whole u hu) hv)) (omega arith)
  where
    whole : (u : ℕ) → u < 8 → 64 ≡ 64 - u + u
    whole u h = omega arith

-- a choice, by what it goes by
pub if_so : (b : Bool) (r x y : ℕ) → b ≡ true → r ≡ x → r ≡ cond b x y
if_so b r x y e q = q ∙ ap (λ t. cond t x y) (sym e)

pub if_not : (b : Bool) (r x y : ℕ) → b ≡ false → r ≡ y → r ≡ cond b x y
if_not b r x y e q = q ∙ ap (λ t. cond t x y) (sym e)

-- the row above lies before the row
pub above_room : (n : ℕ) {y h : ℕ} → y < h → 0 < y → (y - 1) * n + n ≤ h * n
above_room n {y} {h} l g = row_room n {y = y - 1} {n = h} (omega arith)

-- ---- what a cell becomes, by whether its word stays
module _ (c : Cell) (mask l : List ℕ) (m o was v : ℕ) (em : m ≡ mask_of c mask) (eo : o ≡ around_of c l)
    (ew : was ≡ cell_word c l) (ev : v ≡ flooded m o was 64) where
  grown_is : v ≡ grown_word c mask l
  unfolding grown_word
  grown_is = ev ∙ λ i. flooded (em i) (eo i) (ew i) 64

  pub stays : v ≡ was → (false ≡ not (eqb (grown_word c mask l) (cell_word c l))) × (l ≡ settled c mask l)
  unfolding settled
  stays q =
      let e = eq-eqb (grown_word c mask l) (cell_word c l) (sym grown_is ∙ q ∙ ew) in (
        ap not (sym e),
        ap (λ b. cond b l (put_mid (c.y * c.n + c.j) c.k l
            (firsts (byte_of (grown_word c mask l) c.k) c.k))) (sym e),
      )

  pub changes : (ys : List ℕ) → (v ≡ was → ⊥) → ys ≡ firsts (byte_of v c.k) c.k
      → (true ≡ not (eqb (grown_word c mask l) (cell_word c l)))
      × (put_mid (c.y * c.n + c.j) (c.y * c.n + c.j + c.k - (c.y * c.n + c.j)) l ys ≡ settled c
      mask l)
  unfolding settled
  changes ys ne ey =
      let e = ne_eqb (grown_word c mask l) (cell_word c l) (λ q. ne (grown_is ∙ q ∙ sym ew)) in (
        ap not (sym e),
        (λ i. put_mid (c.y * c.n + c.j) (part (c.y * c.n + c.j) c.k i) l (ey i))
            ∙ ap (λ w. put_mid (c.y * c.n + c.j) c.k l (firsts (byte_of w c.k) c.k)) grown_is
            ∙ ap (λ b. cond b l (put_mid (c.y * c.n + c.j) c.k l
            (firsts (byte_of (grown_word c mask l) c.k) c.k))) (sym e),
      )
    where
      part : (a k : ℕ) → a + k - a ≡ k
      part a k = omega arith

-- a cell that has all of the mask stays
pub full_stays : (c : Cell) (mask l : List ℕ) (m was : ℕ) → m ≡ mask_of c mask → was ≡ cell_word c l
    → m < 2 ^ 64 → was < 2 ^ 64 → bit_or m was ≡ was
    → (false ≡ not (eqb (grown_word c mask l) (cell_word c l))) × (l ≡ settled c mask l)
unfolding flooded
full_stays c mask l m was em ew hm hw q =
    stays c mask l m (around_of c l) was was em refl ew
    (still_flooded m (around_of c l) was was 0 64 refl (full_once m (around_of c l) was hm hw q)) refl
