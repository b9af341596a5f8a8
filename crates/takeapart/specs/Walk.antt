-- The search: a link that divides what is left, and so on; back where there is none.
use Rattle.std.specs.Prelude.{ℕ, zero, suc, ◌+◌, ◌-◌, ◌/◌, ◌%◌, min, Bool, false, cond, List, eqb, ltb}
use Rattle.std.specs.Prelude.{get_or, set, replicate}
use Rattle.dividing.specs.Least.{least_from}
use Rattle.dividing.specs.Board.{first_cell, last_cell}
use Rattle.dividing.specs.Divide.{rest_of}
use Rattle.takeapart.specs.declared.Board.{Board}
use Rattle.takeapart.specs.declared.Way.{Way}
use Rattle.choosing.specs.Link.{link_no, origin_no}

-- what is left when a link with its first cell in column a and its origin in cell o is taken out
unfoldable pub after : List ℕ → ℕ → ℕ → ℕ → ℕ → ℕ → Board
after rows column row link a o =
    record {
      rows = rest_of rows link a;
      column = (column % 64 + a % 8 + (64 - o % 8)) % 64;
      row = (row % 64 + (64 - o / 8 % 8)) % 64;
    }

-- when the first n links of a way are taken out
unfoldable pub board_at : Board → Way → ℕ → Board
board_at b w zero = b
board_at b w (suc i) =
    after (board_at b w i).rows (board_at b w i).column (board_at b w i).row (get_or w.links (i % 6) 0)
    (get_or w.picks (i % 6) 0) (get_or w.origins (i % 6) 0)

-- the first link from a number on that divides, or 512
unfoldable pub pick_from : Board → ℕ → ℕ
pick_from b from =
    least_from (λ j. ltb (origin_no b.rows b.column b.row (first_cell b.rows)
    (last_cell b.rows) j) 64) from (512 - from)

-- a single cell is left, and the origin is in it
unfoldable pub ended : Board → Bool
ended b =
    cond (eqb (first_cell b.rows + 4096) (last_cell b.rows))
    (cond (eqb (first_cell b.rows % 64) b.column) (eqb (first_cell b.rows / 64) b.row) false) false

-- link j is taken; the next is chosen from the first on
unfoldable pub forth : Board → Way → ℕ → Way
forth b w j =
    record {
      picks = set (set w.picks (w.depth % 6) j) ((w.depth % 6 + 1) % 6) 0;
      links = set w.links (w.depth % 6) (link_no b.rows (first_cell b.rows) (last_cell b.rows) j);
      origins = set w.origins (w.depth % 6)
          (origin_no b.rows b.column b.row (first_cell b.rows) (last_cell b.rows) j);
      depth = w.depth % 6 + 1;
    }

-- the link before is given back, and the next one looked for in its place
unfoldable pub back : Way → Way
back w =
    cond (eqb w.depth 0) w (record {
      picks = set w.picks ((w.depth - 1) % 6) (min (get_or w.picks ((w.depth - 1) % 6) 0) 512 + 1);
      links = w.links;
      origins = w.origins;
      depth = w.depth - 1;
    })

unfoldable pub onward_by : Board → Way → ℕ → Way
onward_by b w j = cond (ltb j 512) (forth b w j) (back w)

unfoldable pub onward : Board → Way → Way
onward b w = cond (ltb w.depth 5) (onward_by b w (pick_from b (get_or w.picks (w.depth % 6) 0))) (back w)

-- at most n steps
unfoldable pub walk_from : Board → Way → ℕ → Way
walk_from b w zero = w
walk_from b w (suc n) =
    cond (ended (board_at b w w.depth)) w (walk_from b (onward (board_at b w w.depth) w) n)

unfoldable pub unwalked : Way
unwalked =
    record { picks = replicate 6 0; links = replicate 6 0; origins = replicate 6 0; depth = 0 }
