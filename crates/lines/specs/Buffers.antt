-- A buffer of a line is its length, a count m, and m bytes; the bytes after these are like the last.
use Rattle.std.specs.Prelude.{ℕ, zero, suc, ◌+◌, ◌%◌, ◌^◌, min, cond, List, ◌++◌, ltb, length, drop}
use Rattle.basics.specs.Lists.{firsts}
use Rattle.numbers.specs.declared.Found.{Found}
use Rattle.numbers.specs.Numbers.{number_at}

-- the number of byte i, after the last one
abbrev pub last_with : List ℕ → ℕ → ℕ → Found → Found
last_with line m i last = cond (ltb i m) (number_at line last.next) last

-- the last number of the first i bytes, which begin at a place
unfoldable pub last_in : List ℕ → ℕ → ℕ → ℕ → Found
last_in line m at zero = record { value = 0; next = at }
last_in line m at (suc i) = last_with line m i (last_in line m at i)

unfoldable pub byte_of : List ℕ → ℕ → ℕ → ℕ → ℕ
byte_of line m at i = (last_in line m at (i + 1)).value % 2 ^ 8

-- the count, after the length
abbrev pub count_at : List ℕ → ℕ → Found
count_at line at = number_at line (number_at line at).next

-- as many as there are, and as there is room for
abbrev pub length_at : List ℕ → ℕ → ℕ → ℕ
length_at line at room = min (number_at line at).value room

unfoldable pub buffer_at : List ℕ → ℕ → ℕ → Found
buffer_at line at room =
    let m = count_at line at in
    let k = length_at line at room in
    record { value = k; next = (last_in line m.value m.next k).next }

unfoldable pub filled_at : List ℕ → ℕ → List ℕ → List ℕ
filled_at line at b =
    let m = count_at line at in
    let k = length_at line at (length b) in
    firsts (byte_of line m.value m.next) k ++ drop k b
