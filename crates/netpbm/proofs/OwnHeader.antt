-- The header that we write says what it was written with.
use Prim.Native.Nat.{ℕ, ◌+◌, ◌-◌, ◌*◌, ◌/◌, ◌%◌, ◌<◌}
use mathlib.Core.Path.{◌≡◌, refl, ap, ◌∙◌}
use mathlib.Core.Bool.{Bool, true, false, cond}
use mathlib.Core.List.{List, [], ◌∷◌, ◌++◌, append_assoc}
use native.Mathlib.Omega.{arith}
use borrow.Author.Tests.{ne_eqb, le-leb, lt-leb, ltb-true}
use lib.Dec.{eqb, ltb}
use Rattle.digits.specs.Decimal.{digit, decimal}
use Rattle.picture.specs.declared.Depth.{Depth}
use Rattle.picture.specs.declared.Depth.TheVariants.{OneBit, EightBit}
use Rattle.pnmheader.specs.declared.Scan.{Scan}
use Rattle.pnmheader.specs.Header.{is_white, is_digit, after_digit, part_after, number_after, begun, step}
use Rattle.pnmheader.specs.Header.{ended, scan, single_part, header}
use Rattle.netpbm.specs.File.{space, line_feed, tail_of, head_of, maximum_right}

-- a header at the part, with no comment open
abbrev at : ℕ → ℕ → ℕ → ℕ → Scan
at part w h most = record { part = part; comment = false; w = w; h = h; most = most }

-- one byte more, which does not end the header
scan_on : (single : ℕ) (s x : Scan) (b : ℕ) (l : List ℕ) → step s b ≡ x → (x.part ≡ single → ⊥)
    → scan single s (b ∷ l) ≡ scan single x l
unfolding scan
scan_on single s x b l e n =
    ap (λ (y : Scan). cond (eqb y.part single) (ended y l) (scan single y l)) e
    ∙ ap (λ t. cond t (ended x l) (scan single x l)) (ne_eqb x.part single n)

-- ---- a digit
module _ (x : ℕ) (small : x < 10) where
  no_comment : eqb (48 + x) 35 ≡ false
  no_comment = ne_eqb (48 + x) 35 (λ e. absurd (omega arith))

  no_white : is_white (48 + x) ≡ false
  no_white = simp (
    ne_eqb (48 + x) 32 (λ e. absurd (omega arith)),
    le-leb 9 (48 + x) (omega arith),
    lt-leb (48 + x) 13 (omega arith),
  )

  a_digit : is_digit (48 + x) ≡ true
  a_digit = simp (le-leb 48 (48 + x) (omega arith), le-leb (48 + x) 57 (omega arith))

  value_is : 48 + x - 48 ≡ x
  value_is = omega arith

  pub digit_read : (part w h most : ℕ) → step (at part w h most) (48 + x)
      ≡ (let p = after_digit part in
      at p (cond (eqb p 3) (w * 10 + x) w) (cond (eqb p 5) (h * 10 + x) h)
      (cond (eqb p 7) (most * 10 + x) most))
  unfolding step part_after number_after
  digit_read part w h most = simp (no_comment, no_white, a_digit, value_is)

-- four digits are the number, the higher ones first
four : (n : ℕ) → n < 10000 → ((n / 1000 % 10 * 10 + n / 100 % 10) * 10 + n / 10 % 10) * 10 + n % 10 ≡ n
four n h =
    let hundreds : n / 1000 % 10 * 10 + n / 100 % 10 ≡ n / 100 = omega arith in
    let tens : n / 100 * 10 + n / 10 % 10 ≡ n / 10 = omega arith in
    let ones : n / 10 * 10 + n % 10 ≡ n = omega arith in
    ap (λ k. (k * 10 + n / 10 % 10) * 10 + n % 10) hundreds ∙ ap (λ k. k * 10 + n % 10) tens ∙ ones

-- ---- a number in decimal, of which the first digit is read from `before` on
-- and leaves the header at `with` the number so far
module _ (single : ℕ) (before : Scan) (with_number : ℕ → Scan)
    (first : (x : ℕ) → x < 10 → step before (48 + x) ≡ with_number x)
    (more : (n x : ℕ) → x < 10 → step (with_number n) (48 + x) ≡ with_number (n * 10 + x))
    (goes_on : (n : ℕ) → (with_number n).part ≡ single → ⊥) where
  one : (x : ℕ) (l : List ℕ) → scan single before (digit x ∷ l) ≡ scan single (with_number (x % 10)) l
  one x l = scan_on single before _ _ l (first (x % 10) (omega arith)) (goes_on (x % 10))

  another : (n x : ℕ) (l : List ℕ)
      → scan single (with_number n) (digit x ∷ l) ≡ scan single (with_number (n * 10 + x % 10)) l
  another n x l =
      scan_on single (with_number n) _ _ l (more n (x % 10) (omega arith)) (goes_on (n * 10 + x % 10))

  pub decimal_read : (n : ℕ) → n < 10000 → (l : List ℕ)
      → scan single before (decimal n ++ l) ≡ scan single (with_number n) l
  unfolding decimal
  decimal_read n few l = by (ltb n 10) (ltb n 100) (ltb n 1000) refl refl refl
    where
      said : (m : ℕ) → m ≡ n → scan single (with_number m) l ≡ scan single (with_number n) l
      said m e = ap (λ k. scan single (with_number k) l) e

      by : (a b c : Bool) → ltb n 10 ≡ a → ltb n 100 ≡ b → ltb n 1000 ≡ c
          → scan single before (cond a (digit n ∷ [])
          (cond b (digit (n / 10) ∷ digit n ∷ [])
          (cond c (digit (n / 100) ∷ digit (n / 10) ∷ digit n ∷ [])
          (digit (n / 1000) ∷ digit (n / 100) ∷ digit (n / 10) ∷ digit n ∷ []))) ++ l)
          ≡ scan single (with_number n) l
      by true b c ea eb ec = let h = ltb-true n 10 ea in one n l ∙ said (n % 10) (omega arith)
      by false true c ea eb ec =
          let h = ltb-true n 100 eb in
          one (n / 10) (digit n ∷ l) ∙ another (n / 10 % 10) n l
          ∙ said (n / 10 % 10 * 10 + n % 10) (omega arith)
      by false false true ea eb ec =
          let h = ltb-true n 1000 ec in
          one (n / 100) (digit (n / 10) ∷ digit n ∷ l)
          ∙ another (n / 100 % 10) (n / 10) (digit n ∷ l)
          ∙ another (n / 100 % 10 * 10 + n / 10 % 10) n l
          ∙ said ((n / 100 % 10 * 10 + n / 10 % 10) * 10 + n % 10) (omega arith)
      by false false false ea eb ec =
          one (n / 1000) (digit (n / 100) ∷ digit (n / 10) ∷ digit n ∷ l)
          ∙ another (n / 1000 % 10) (n / 100) (digit (n / 10) ∷ digit n ∷ l)
          ∙ another (n / 1000 % 10 * 10 + n / 100 % 10) (n / 10) (digit n ∷ l)
          ∙ another ((n / 1000 % 10 * 10 + n / 100 % 10) * 10 + n / 10 % 10) n l
          ∙ said (((n / 1000 % 10 * 10 + n / 100 % 10) * 10 + n / 10 % 10) * 10 + n % 10) (four n few)

alone : (x : ℕ) → 0 * 10 + x ≡ x
alone x = omega arith

-- ---- up to the height
module _ (w h : ℕ) (few-w : w < 10000) (few-h : h < 10000) (l : List ℕ) where
  pub numbers_read : (single : ℕ) → 5 < single
      → scan single begun (line_feed ∷ (decimal w ++ ((space ∷ []) ++ (decimal h ++ l))))
      ≡ scan single (at 5 w h 0) l
  unfolding step part_after number_after
  numbers_read single past =
      scan_on single begun (at 2 0 0 0) line_feed _ refl (λ e. absurd (omega arith))
      ∙ decimal_read single (at 2 0 0 0) (λ n. at 3 n 0 0)
      (λ x s. digit_read x s 2 0 0 0 ∙ ap (λ n. at 3 n 0 0) (alone x))
      (λ n x s. digit_read x s 3 n 0 0) (λ n e. absurd (omega arith)) w few-w _
      ∙ scan_on single (at 3 w 0 0) (at 4 w 0 0) space _ refl (λ e. absurd (omega arith))
      ∙ decimal_read single (at 4 w 0 0) (λ n. at 5 w n 0)
      (λ x s. digit_read x s 4 w 0 0 ∙ ap (λ n. at 5 w n 0) (alone x))
      (λ n x s. digit_read x s 5 w n 0) (λ n e. absurd (omega arith)) h few-h _

-- ---- the whole header
pub own_maximum : Depth → ℕ
own_maximum OneBit = 0
own_maximum EightBit = 255

tail_read : (depth : Depth) (w h : ℕ) (rest : List ℕ)
    → scan (single_part depth) (at 5 w h 0) (tail_of depth ++ rest)
    ≡ record { whole = true; w = w; h = h; most = own_maximum depth; raster = rest }
unfolding scan step part_after number_after own_maximum
tail_read OneBit w h rest = refl
tail_read EightBit w h rest = refl

past_height : (depth : Depth) → 5 < single_part depth
past_height OneBit = omega arith
past_height EightBit = omega arith

pub own_header : (depth : Depth) (w h : ℕ) → w < 10000 → h < 10000 → (rest : List ℕ)
    → header depth (head_of depth w h ++ rest)
    ≡ record { whole = true; w = w; h = h; most = own_maximum depth; raster = rest }
unfolding header head_of
own_header depth w h few-w few-h rest =
    magic depth
    ∙ ap (λ l. scan (single_part depth) begun (line_feed ∷ l)) shape
    ∙ numbers_read w h few-w few-h (tail_of depth ++ rest) (single_part depth) (past_height depth)
    ∙ tail_read depth w h rest
  where
    numbers : Depth → List ℕ
    numbers d = decimal w ++ ((space ∷ []) ++ (decimal h ++ tail_of d))

    magic : (d : Depth) → header d (head_of d w h ++ rest)
        ≡ scan (single_part d) begun (line_feed ∷ (numbers d ++ rest))
    magic OneBit = refl
    magic EightBit = refl

    shape : numbers depth ++ rest ≡ decimal w ++ ((space ∷ []) ++ (decimal h ++ (tail_of depth ++ rest)))
    shape =
        append_assoc (decimal w) ((space ∷ []) ++ (decimal h ++ tail_of depth)) rest
        ∙ ap (λ l. decimal w ++ (space ∷ l)) (append_assoc (decimal h) (tail_of depth) rest)

pub own_right : (depth : Depth) → maximum_right depth (own_maximum depth) ≡ true
unfolding own_maximum
own_right OneBit = refl
own_right EightBit = refl
