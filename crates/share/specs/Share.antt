-- Document 02, (vi): one share of the book, for N numbers and M bytes of descriptors, as its own 2N + M
-- bytes.
-- N lengths of two bytes, low byte first, 0 where nothing is held;
-- then the held descriptors in number order with no gap; the rest is spare.
use Rattle.std.specs.Prelude.{ℕ, zero, suc, ◌+◌, ◌-◌, ◌*◌, ◌/◌, ◌%◌, Bool, cond, ◌&&◌, ◌||◌, List, ◌++◌}
use Rattle.std.specs.Prelude.{leb, eqb, length, get_or, take, drop, replicate}
use Rattle.basics.specs.Lists.{firsts, joined}
use Rattle.basics.specs.Tests.{all}
use Rattle.element.specs.Descriptor.{well_made}

-- f 0 + .. + f (n - 1)
unfoldable pub sum_to : (ℕ → ℕ) → ℕ → ℕ
sum_to f zero = 0
sum_to f (suc n) = sum_to f n + f n

-- the length that stands for number n
unfoldable pub length_at : List ℕ → ℕ → ℕ
length_at s n = get_or s (2 * n) 0 + 256 * get_or s (2 * n + 1) 0

-- the place of number n: past the lengths and what lower numbers hold
unfoldable pub place_of : ℕ → List ℕ → ℕ → ℕ
place_of N s n = 2 * N + sum_to (length_at s) n

-- the bytes held under number n, [] where there are none
unfoldable pub held_at : ℕ → List ℕ → ℕ → List ℕ
held_at N s n = take (length_at s n) (drop (place_of N s n) s)

-- each length is 0, or its bytes are a descriptor to the end; and the lengths sum to at most M
abbrev pub entry_made : ℕ → List ℕ → ℕ → Bool
entry_made N s n = eqb (length_at s n) 0 || well_made (held_at N s n)

unfoldable pub share_made : ℕ → ℕ → List ℕ → Bool
share_made N M s = leb (sum_to (length_at s) N) M && all (entry_made N s) N

-- ---- the bytes of a share that holds m n under each number n, [] for none
-- byte i of the lengths
abbrev pub length_byte : (ℕ → List ℕ) → ℕ → ℕ
length_byte m i = cond (eqb (i % 2) 0) (length (m (i / 2)) % 256) (length (m (i / 2)) / 256)

unfoldable pub share_bytes : ℕ → (ℕ → List ℕ) → List ℕ
share_bytes N m = firsts (length_byte m) (2 * N) ++ joined m N

-- the share s once it holds m: the spare bytes stay
unfoldable pub holding : ℕ → (ℕ → List ℕ) → List ℕ → List ℕ
holding N m s = share_bytes N m ++ drop (length (share_bytes N m)) s

-- the bytes from the place n on are 0
unfoldable pub cleared : ℕ → List ℕ → List ℕ
cleared n s = take n s ++ replicate (length s - n) 0
