-- No text of a picture is longer than the longest of its size and kind.
use Prim.Native.Nat.{ℕ, zero, suc, ◌+◌, ◌*◌, ◌≤◌, ◌<◌}
use mathlib.Core.Path.{◌≡◌, ap}
use mathlib.Core.List.{List, [], ◌∷◌, ◌++◌}
use native.Mathlib.Omega.{arith}
use native.Mathlib.Nat.{mul-le-mul}
use mathlib.Core.Bool.{Bool, true, false, cond}
use lib.Dec.{eqb}
use lib.ListN.{length, length-append}
use Rattle.basics.specs.Lists.{joined}
use Rattle.picture.specs.declared.Depth.{Depth}
use Rattle.picture.specs.declared.Depth.TheVariants.{OneBit, EightBit}
use Rattle.picture.specs.Frame.{most_bins, top}
use Rattle.picture.specs.Bytes.{Picture}
use Rattle.text.specs.Text.{space, line_feed, head_line, item_of, row_line}
use Rattle.text.specs.Text.{row_lines, most_line, most_text, text_of, refused_line}
use Rattle.digits.specs.Decimal.{decimal}
use Rattle.digits.proofs.Decimals.{most_two, most_three, most_four}
use Rattle.digits.proofs.Pieces.{step_long}
use Rattle.text.proofs.Texts.{head_long, refused_long}

-- the line of a refusal
pub refused_most : (n : ℕ) → n < 100 → length (refused_line n) ≤ 11
refused_most n h = omega (arith, refused_long n, most_two n h)

-- lists of at most k numbers each
joined_most : (R : ℕ → List ℕ) (k n : ℕ) → ((i : ℕ) → i < n → length (R i) ≤ k) → length (joined R n) ≤ n * k
unfolding joined
joined_most R k zero h = omega arith
joined_most R k (suc n) h =
    omega (arith, joined_most R k n (λ i l. h i (omega arith)), h n (omega arith), step_long R n)

-- and the first of them shorter
joined_less : (R : ℕ → List ℕ) (k n : ℕ) → length (R 0) + 1 ≤ k → ((i : ℕ) → i < suc n → length (R i) ≤ k)
    → length (joined R (suc n)) + 1 ≤ suc n * k
unfolding joined
joined_less R k zero f h = omega (arith, step_long R 0)
joined_less R k (suc n) f h =
    omega
    (arith, joined_less R k n f (λ i l. h i (omega arith)), h (suc n) (omega arith), step_long R (suc n))

spaced : (b : Bool) (n : ℕ) → n < 1000 → length (cond b [] (space ∷ []) ++ decimal n) ≤ 4
spaced true n h = omega (arith, most_three n h)
spaced false n h = omega (arith, most_three n h, length-append (space ∷ []) (decimal n))

row_most : (depth : Depth) (f : ℕ → ℕ) (w : ℕ) → 1 ≤ w → ((x : ℕ) → x < w → f x ≤ top depth)
    → length (row_line depth f w) ≤ most_line depth w
unfolding row_line item_of
row_most OneBit f w some small =
    let R : ℕ → List ℕ = λ x. item_of OneBit (f x) x in
    omega (arith, length-append (joined R w) (line_feed ∷ []), joined_most R 1 w (λ i l. omega arith))
row_most EightBit f zero some small = elim some [ ]
row_most EightBit f (suc w) some small =
    let R : ℕ → List ℕ = λ x. item_of EightBit (f x) x in
    let first = most_three (f 0) (omega (arith, small 0 (omega arith))) in
    let each = joined_less R 4 w (omega (arith, first))
    (λ i l. spaced (eqb i 0) (f i) (omega (arith, small i l))) in
    omega (arith, length-append (joined R (suc w)) (line_feed ∷ []), each)

pub text_most : (depth : Depth) (A : Picture) (w h kind : ℕ) → 1 ≤ w
    → ((x y : ℕ) → x < w → y < h → A x y ≤ top depth)
    → length (text_of depth A w h kind) ≤ most_text depth w h kind
unfolding text_of row_lines most_text
text_most depth A w h kind some small =
    let most = joined_most (λ y. row_line depth (λ x. A x y) w) (most_line depth w) h
    (λ y l. row_most depth (λ x. A x y) w some (λ x k. small x y k l)) in
    omega (arith, length-append (head_line w h kind) (row_lines depth A w h), most)

-- all lines together fit a number
pub lines_fit : (n h : ℕ) → n ≤ 4096 → h ≤ most_bins → h * n ≤ most_bins * 4096
lines_fit n h p q = mul-le-mul q p

pub most_is : (depth : Depth) (w h kind a b k n : ℕ) → a ≡ length (decimal w) → b ≡ length (decimal h)
    → k ≡ length (decimal kind) → n ≡ most_line depth w
    → 12 + a + b + k + h * n ≡ most_text depth w h kind
unfolding most_text
most_is depth w h kind a b k n ea eb ek en = omega (arith, head_long w h kind, ap (λ m. h * m) en)

-- the longest text by its lines alone
pub most_few : (depth : Depth) (w h kind : ℕ) → most_text depth w h kind ≤ 24 + h * most_line depth w
unfolding most_text
most_few depth w h kind = omega (arith, head_long w h kind, most_four w, most_four h, most_four kind)
