-- The links of a way as descriptors of 8 x 8 cells, one after another.
use Rattle.std.specs.Prelude.{ℕ, ◌-◌, ◌*◌, ◌/◌, ◌%◌, ◌^◌, min, cond, List, ltb, eqb, get_or}
use Rattle.basics.specs.Lists.{firsts}
use Rattle.takeapart.specs.declared.Board.{Board}
use Rattle.takeapart.specs.declared.Way.{Way}
use Rattle.takeapart.specs.Walk.{walk_from, unwalked}

unfoldable pub sum_byte : Way → ℕ → ℕ
sum_byte w n =
    cond (ltb (n % 12) 2) 8
    (cond (eqb (n % 12) 2) (get_or w.origins (n / 12 % 6) 0 % 8)
    (cond (eqb (n % 12) 3) (get_or w.origins (n / 12 % 6) 0 / 8 % 8)
    (get_or w.links (n / 12 % 6) 0 * 2 ^ (8 * (n % 12 - 4)) % 2 ^ 64 / 2 ^ 56)))

unfoldable pub sum_bytes : Way → List ℕ
sum_bytes w = firsts (sum_byte w) 60

-- where 64 steps lead
unfoldable pub walked : List ℕ → ℕ → ℕ → Way
walked rows column row = walk_from (record { rows = rows; column = column; row = row }) unwalked 64
