-- The four quarters of a board, and of a link, about an origin; its column and its row lie in both.
use Rattle.std.specs.Prelude.{ℕ, ◌-◌, ◌*◌, ◌/◌, ◌%◌, ◌^◌, Bool, cond, List, [], ◌∷◌, leb, get_or}
use Rattle.std.specs.Int.Bits.{bit_and}
use Rattle.basics.specs.Lists.{firsts}

unfoldable pub beside : ℕ → ℕ → Bool → Bool
beside y of after = cond after (leb of y) (leb y of)

-- every cell of a row, or of a link
abbrev pub all_cells : ℕ
all_cells = 18446744073709551615

unfoldable pub side_of : ℕ → Bool → ℕ
side_of x after = cond after (all_cells / 2 ^ (x % 64)) (all_cells * 2 ^ (63 - x % 64) % 2 ^ 64)

unfoldable pub quarter_row : ℕ → ℕ → ℕ → ℕ → Bool → Bool → ℕ
quarter_row w y column row right lower = cond (beside y row lower) (bit_and w (side_of column right)) 0

unfoldable pub quarter : List ℕ → ℕ → ℕ → Bool → Bool → List ℕ
quarter rows column row right lower =
    firsts (λ y. quarter_row (get_or rows y 0) y column row right lower) 64

-- eight times the same row, from each column on, and up to each column
abbrev pub columns_from : List ℕ
columns_from =
    18446744073709551615 ∷
    9187201950435737471 ∷
    4557430888798830399 ∷
    2242545357980376863 ∷
    1085102592571150095 ∷
    506381209866536711 ∷
    217020518514230019 ∷
    72340172838076673 ∷ []

abbrev pub columns_to : List ℕ
columns_to =
    9259542123273814144 ∷
    13889313184910721216 ∷
    16204198715729174752 ∷
    17361641481138401520 ∷
    17940362863843014904 ∷
    18229723555195321596 ∷
    18374403900871474942 ∷
    18446744073709551615 ∷ []

unfoldable pub link_columns : ℕ → Bool → ℕ
link_columns x after = cond after (get_or columns_from (x % 8) 0) (get_or columns_to (x % 8) 0)

unfoldable pub link_rows : ℕ → Bool → ℕ
link_rows y after =
    cond after (all_cells / 2 ^ (8 * (y % 8))) (all_cells * 2 ^ (8 * (7 - y % 8)) % 2 ^ 64)

unfoldable pub link_quarter : ℕ → ℕ → Bool → Bool → ℕ
link_quarter link o right lower = bit_and (bit_and link (link_columns o right)) (link_rows (o / 8) lower)
