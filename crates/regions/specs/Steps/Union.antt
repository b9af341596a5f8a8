-- How the regions are found: each node has one under it, of its region; where that is not less the node is a
-- root. Two nodes are united by putting
-- the lesser root under the greater. No definition to believe: proofs/Labels.antt says that the roots are the
-- first nodes of the regions.
use Rattle.std.specs.Prelude.{ℕ, zero, suc, ◌+◌, ◌-◌, ◌*◌, ◌/◌, ◌%◌, min, max, Bool, true, cond, List}
use Rattle.std.specs.Prelude.{◌++◌, eqb, ltb, get_or, set, drop}
use Rattle.basics.specs.Lists.{firsts}
use Rattle.regions.specs.Regions.{point_of}

-- down from i, at most n times
unfoldable pub down_from : List ℕ → ℕ → ℕ → ℕ
down_from l zero i = i
down_from l (suc n) i = cond (ltb (get_or l i 0) i) (down_from l n (get_or l i 0)) i

unfoldable pub root_of : List ℕ → ℕ → ℕ
root_of l i = down_from l i i

unfoldable pub united : List ℕ → ℕ → ℕ → List ℕ
united l a b = set l (max (root_of l a) (root_of l b)) (min (root_of l a) (root_of l b))

-- the nodes that node i + 1 is united with: another one, or itself
abbrev pub edge_at : ℕ → ℕ → ℕ → ℕ → Bool
edge_at x y w h = cond (eqb x 0) true (cond (eqb (x + 1) w) true (cond (eqb y 0) true (eqb (y + 1) h)))

unfoldable pub outer_mate : (ℕ → ℕ) → ℕ → ℕ → ℕ → ℕ
outer_mate A w h i = cond (eqb (A i) 0) (cond (edge_at (i % w) (i / w) w h) 0 (i + 1)) (i + 1)

unfoldable pub left_mate : (ℕ → ℕ) → ℕ → ℕ → ℕ
left_mate A w i = cond (eqb (i % w) 0) (i + 1) (cond (eqb (A (i - 1)) (A i)) i (i + 1))

unfoldable pub up_mate : (ℕ → ℕ) → ℕ → ℕ → ℕ
up_mate A w i = cond (eqb (i / w) 0) (i + 1) (cond (eqb (A (i - w)) (A i)) (i - w + 1) (i + 1))

unfoldable pub up_left_mate : (ℕ → ℕ) → ℕ → ℕ → ℕ
up_left_mate A w i =
    cond (eqb (i / w) 0) (i + 1) (cond (eqb (i % w) 0) (i + 1)
    (cond (eqb (A i) 0) (i + 1) (cond (eqb (A (i - w - 1)) (A i)) (i - w) (i + 1))))

unfoldable pub up_right_mate : (ℕ → ℕ) → ℕ → ℕ → ℕ
up_right_mate A w i =
    cond (eqb (i / w) 0) (i + 1) (cond (eqb (i % w + 1) w) (i + 1)
    (cond (eqb (A i) 0) (i + 1) (cond (eqb (A (i - w + 1)) (A i)) (i - w + 2) (i + 1))))

-- the five of them by number
unfoldable pub mate_of : (ℕ → ℕ) → ℕ → ℕ → ℕ → ℕ → ℕ
mate_of A w h i k =
    cond (eqb k 0) (outer_mate A w h i) (cond (eqb k 1) (left_mate A w i)
    (cond (eqb k 2) (up_mate A w i) (cond (eqb k 3) (up_left_mate A w i) (up_right_mate A w i))))

-- point i united with its first k mates, and with all
unfoldable pub mates_united : (ℕ → ℕ) → ℕ → ℕ → ℕ → List ℕ → ℕ → List ℕ
mates_united A w h i l zero = l
mates_united A w h i l (suc k) = united (mates_united A w h i l k) (i + 1) (mate_of A w h i k)

unfoldable pub point_united : (ℕ → ℕ) → ℕ → ℕ → List ℕ → ℕ → List ℕ
point_united A w h l i = mates_united A w h i l 5

-- the first n points united with their mates
unfoldable pub united_to : (ℕ → ℕ) → ℕ → ℕ → List ℕ → ℕ → List ℕ
united_to A w h l zero = l
united_to A w h l (suc n) = point_united A w h (united_to A w h l n) n

-- the first n nodes with their root put under them
unfoldable pub flat_to : List ℕ → ℕ → List ℕ
flat_to l zero = l
flat_to l (suc n) = set (flat_to l n) n (root_of (flat_to l n) n)

-- each of the first n nodes under itself
unfoldable pub alone : List ℕ → ℕ → List ℕ
alone l n = firsts (λ i. i) n ++ drop n l

-- the whole work: the first h * w + 1 places hold the first node of each node's region
unfoldable pub labelled : List ℕ → ℕ → ℕ → List ℕ → List ℕ
labelled s w h l = flat_to (united_to (point_of s w) w h (alone l (h * w + 1)) (h * w)) (h * w + 1)
