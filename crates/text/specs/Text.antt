-- Document 01, "echtext": what is printed of a picture. Letters are their ASCII numbers.
use Rattle.std.specs.Prelude.{ℕ, ◌+◌, ◌*◌, cond, List, [], ◌∷◌, ◌++◌, eqb, length}
use Rattle.basics.specs.Lists.{joined}
use Rattle.digits.specs.Decimal.{decimal}
use Rattle.picture.specs.declared.Depth.{Depth}
use Rattle.picture.specs.declared.Depth.TheVariants.{OneBit, EightBit}
use Rattle.picture.specs.Bytes.{Picture}

-- the letters that stand alone
abbrev pub space : ℕ
space = 32

abbrev pub line_feed : ℕ
line_feed = 10

-- "ECH", the size and the kind: ECH 7x1 kind 1
unfoldable pub head_line : ℕ → ℕ → ℕ → List ℕ
head_line w h kind =
    (69 ∷ 67 ∷ 72 ∷ space ∷ []) ++ (decimal w ++ ((120 ∷ []) ++ (decimal h
    ++ ((space ∷ 107 ∷ 105 ∷ 110 ∷ 100 ∷ space ∷ []) ++ (decimal kind ++ (line_feed ∷ []))))))

-- # for an echo and . for none
abbrev pub mark : ℕ → ℕ
mark v = cond (eqb v 0) 46 35

-- the point of column x, with the value v: of one bit a mark;
-- else its decimal value, after a space where others stand before it
unfoldable pub item_of : Depth → ℕ → ℕ → List ℕ
item_of OneBit v x = mark v ∷ []
item_of EightBit v x = cond (eqb x 0) [] (space ∷ []) ++ decimal v

-- a line for each row; each line ends with one line feed
unfoldable pub row_line : Depth → (ℕ → ℕ) → ℕ → List ℕ
row_line depth f w = joined (λ x. item_of depth (f x) x) w ++ (line_feed ∷ [])

unfoldable pub row_lines : Depth → Picture → ℕ → ℕ → List ℕ
row_lines depth A w h = joined (λ y. row_line depth (λ x. A x y) w) h

unfoldable pub text_of : Depth → Picture → ℕ → ℕ → ℕ → List ℕ
text_of depth A w h kind = head_line w h kind ++ row_lines depth A w h

-- the longest that a line of w points and the text of a picture can be: a value has at most three digits
abbrev pub most_line : Depth → ℕ → ℕ
most_line OneBit w = w + 1
most_line EightBit w = 4 * w

unfoldable pub most_text : Depth → ℕ → ℕ → ℕ → ℕ
most_text depth w h kind = length (head_line w h kind) + h * most_line depth w

-- "refused", a space and the number
unfoldable pub refused_line : ℕ → List ℕ
refused_line n = (114 ∷ 101 ∷ 102 ∷ 117 ∷ 115 ∷ 101 ∷ 100 ∷ space ∷ []) ++ (decimal n ++ (line_feed ∷ []))
