-- How row words are made of a descriptor's bytes; what they stand for is Record's `cell_on`.
use Rattle.std.specs.Prelude.{ℕ, ◌+◌, ◌-◌, ◌*◌, ◌/◌, cond, List, ◌++◌, ltb, get_or, replicate}
use Rattle.basics.specs.Lists.{firsts}
use Rattle.basics.specs.Bits.{digits}
use Rattle.element.specs.Descriptor.{most_cells}

-- the n bytes from the place `at` on are the first bytes of a row word, and the others are 0
unfoldable pub word_byte : List ℕ → ℕ → ℕ → ℕ → ℕ
word_byte d at n j = cond (ltb j n) (get_or d (at + j) 0) 0

unfoldable pub word_of : List ℕ → ℕ → ℕ → ℕ
word_of d at n = digits 8 (word_byte d at n) (most_cells / 8)

-- the word of row r, and the words of all rows, 0 past row h
unfoldable pub row_word : List ℕ → ℕ → ℕ → ℕ
row_word d n r = word_of d (4 + r * n) n

unfoldable pub row_words : List ℕ → ℕ → ℕ → List ℕ
row_words d n h = firsts (row_word d n) h ++ replicate (most_cells - h) 0
