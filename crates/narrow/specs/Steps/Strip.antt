-- A padded row in three words: the first place is the highest digit of the first word.
use Rattle.std.specs.Prelude.{ℕ, zero, suc, ◌+◌, ◌-◌, ◌/◌, ◌%◌, ◌<◌, ◌≡◌, Bool, true}
use Rattle.std.specs.Prelude.{cond, List, ltb}
use Rattle.basics.specs.Bits.{bit}
use Rattle.packedline.specs.Steps.Cells.{cell_on64, place_of}
use Rattle.words.specs.Steps.Words.{row_point}
use Rattle.narrow.specs.declared.Strip.{Strip}

-- word i, 0 past the third
abbrev pub word_of : Strip → ℕ → ℕ
word_of x zero = x.a
word_of x (suc zero) = x.b
word_of x (suc (suc zero)) = x.c
word_of x (suc (suc (suc i))) = 0

-- what stands at place p
unfoldable pub place_at : Strip → ℕ → ℕ
place_at x p = bit (word_of x (p / 64)) (63 - p % 64)

-- the points of a row of w in a padded row, from place 64 on
unfoldable pub row_place : Bool → List ℕ → ℕ → ℕ → ℕ → ℕ
row_place over s at w p = cond (ltb p 64) 0 (row_point over s at w (p - 64))

-- x has 0 at a place exactly where P holds of it
abbrev pub OffWhere : Strip → (ℕ → Type 0) → Type 0
OffWhere x P = (p : ℕ) → (place_at x p ≡ 0 → P p) × (P p → place_at x p ≡ 0)

-- no point of n from place p on
abbrev pub Clear : Strip → ℕ → ℕ → Type 0
Clear x n p = (j : ℕ) → j < n → place_at x (p + j) ≡ 0

-- none at the places of the set cells of a row word, those before column m
abbrev pub Unmet : Strip → Bool → ℕ → ℕ → ℕ → ℕ → Type 0
Unmet x grows word o m p =
    (d : ℕ) → d < m → cell_on64 word d ≡ true → place_at x (p + place_of grows o d) ≡ 0
