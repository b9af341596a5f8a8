-- Request (xiv): the listing. A region is named by its first node, and R gives each node the first of its
-- region (Firsts of crate regions):
-- 0 for the outer region, p + 1 for a region whose first point in row order is p. A picture has n points.
use Rattle.std.specs.Prelude.{ℕ, zero, suc, ◌+◌, ◌-◌, ◌%◌, cond, List, [], ◌∷◌, ◌++◌, eqb, length}
use Rattle.basics.specs.Lists.{joined}

-- the node to the left of node c: in column 0 what lies beyond the frame
abbrev pub left_of : ℕ → ℕ → ℕ
left_of w c = cond (eqb ((c - 1) % w) 0) 0 (c - 1)

-- the region that region c lies in: the one left of its first point
unfoldable pub parent_of : (ℕ → ℕ) → ℕ → ℕ → ℕ
parent_of R w c = R (left_of w c)

-- the points of region r among the first n
unfoldable pub count_of : (ℕ → ℕ) → ℕ → ℕ → ℕ
count_of R r zero = 0
count_of R r (suc n) = count_of R r n + cond (eqb (R (n + 1)) r) 1 0

-- X where node c is the first of its region and that region lies in r, and nothing where not
abbrev pub where_in : (ℕ → ℕ) → ℕ → ℕ → ℕ → List ℕ → List ℕ
where_in R w r c X = cond (eqb (R c) c) (cond (eqb (parent_of R w c) r) X []) []

-- what is noted of region r at depth d, and then of each region in it, by first point, with all that is
-- inside that one before the next;
-- at most f levels
unfoldable pub walk : (ℕ → ℕ → List ℕ) → (ℕ → ℕ) → ℕ → ℕ → ℕ → ℕ → ℕ → List ℕ
walk note R w n zero r d = []
walk note R w n (suc f) r d =
    note r d ++ joined (λ i. where_in R w r (i + 1) (walk note R w n f (i + 1) (d + 1))) n

-- the regions in the order of the listing, and its lines: depth and point count of each
abbrev pub itself : ℕ → ℕ → List ℕ
itself r d = r ∷ []

abbrev pub line : (ℕ → ℕ) → ℕ → ℕ → ℕ → List ℕ
line R n r d = d ∷ count_of R r n ∷ []

-- region r at depth d and all that is inside it: n + 1 levels are enough for any picture of n points
abbrev pub order_from : (ℕ → ℕ) → ℕ → ℕ → ℕ → ℕ → List ℕ
order_from R w n r d = walk itself R w n (n + 1) r d

abbrev pub lines_from : (ℕ → ℕ) → ℕ → ℕ → ℕ → ℕ → List ℕ
lines_from R w n r d = walk (line R n) R w n (n + 1) r d

-- the whole listing, from the outer region at depth 0
unfoldable pub order : (ℕ → ℕ) → ℕ → ℕ → List ℕ
order R w n = order_from R w n 0 0

unfoldable pub listing : (ℕ → ℕ) → ℕ → ℕ → List ℕ
listing R w n = lines_from R w n 0 0

-- the regions but the outer one, by first point: the nodes from 1 to n that are first in their region
unfoldable pub inner_of : (ℕ → ℕ) → ℕ → List ℕ
inner_of R zero = []
inner_of R (suc n) = inner_of R n ++ cond (eqb (R (n + 1)) (n + 1)) ((n + 1) ∷ []) []

-- how many regions there are, the outer one counted
unfoldable pub regions_of : (ℕ → ℕ) → ℕ → ℕ
regions_of R n = length (inner_of R n) + 1
