-- The candidates of the search: chains of boxes with their corners cut.
use Rattle.std.specs.Prelude.{ℕ, ◌+◌, ◌-◌, ◌*◌, ◌/◌, ◌%◌, ◌≤◌, min, max, true, false, cond, List}
use Rattle.std.specs.Prelude.{[], ◌∷◌, leb, ltb, eqb, get_or}
use Rattle.std.specs.Int.Bits.{bit_and}
use Rattle.basics.specs.Lists.{firsts, joined}
use Rattle.morphology.specs.Chain.{most_links}
use Rattle.hulls.specs.declared.Hull.{Hull}
use Rattle.candidates.specs.declared.Try.{Try}

-- a try takes at most 7 of anything for a link
pub record Few (c : Try) : Type 0 where
  pub few_side : c.side ≤ 7
  pub few_origin : c.origin ≤ 7
  pub few_cut : c.cut ≤ 7

-- the element's own cells; a box; then boxes with their corners cut
unfoldable pub try_no : ℕ → Try
try_no t =
    cond (eqb t 0) (record { side = 7; origin = 7; cut = 0; own = true })
    (cond (eqb t 1) (record { side = 7; origin = 7; cut = 0; own = false })
    (record { side = 7 - (t - 2) / 7; origin = 7 - (t - 2) % 7; cut = 7 - (t - 2) % 7; own = false }))

-- what link i takes of x, at most `most` for each link
unfoldable pub part : ℕ → ℕ → ℕ → ℕ
part most x i = min most (x - most * i)

-- how many links of `most` each a side of n needs, five at the most
unfoldable pub needed : ℕ → ℕ → ℕ
needed most n =
    cond (leb n most) 1 (cond (leb n (2 * most)) 2 (cond (leb n (3 * most)) 3 (cond (leb n
    (4 * most)) 4 most_links)))

unfoldable pub links_of : Hull → Try → ℕ
links_of H c = cond c.own 1 (needed c.side (max H.across.span H.down.span))

-- the bytes of each link
unfoldable pub length_of : Hull → Try → ℕ
length_of H c = 4 + (min c.side H.down.span + 1)

-- the cells first to last of a row, the first cell in the highest bit
abbrev pub heads : List ℕ
heads = 255 ∷ 127 ∷ 63 ∷ 31 ∷ 15 ∷ 7 ∷ 3 ∷ 1 ∷ []

abbrev pub tails : List ℕ
tails = 128 ∷ 192 ∷ 224 ∷ 240 ∷ 248 ∷ 252 ∷ 254 ∷ 255 ∷ []

unfoldable pub run_byte : ℕ → ℕ → ℕ
run_byte first last =
    cond (ltb last first) 0 (cond (ltb 7 last) 0 (bit_and (get_or heads first 0) (get_or tails last 0)))

-- row r of a box from row u to l and from column f to t, its corners cut: nw, ne, sw, se
unfoldable pub row_with : (u l f t nw ne sw se r : ℕ) → ℕ
row_with u l f t nw ne sw se r =
    cond (ltb r u) 0
    (cond (ltb l r) 0
    (run_byte (f + max (nw - (r - u)) (sw - (l - r))) (t - max (ne - (r - u)) (se - (l - r)))))

-- row r of link i
unfoldable pub row_byte : Hull → Try → ℕ → ℕ → ℕ
row_byte H c i r =
    row_with (part c.side H.down.first i) (part c.side H.down.last i)
    (part c.side H.across.first i) (part c.side H.across.last i)
    (part c.cut H.nw i) (part c.cut H.ne i) (part c.cut H.sw i) (part c.cut
    H.se i) r

-- byte j of link i: size, origin, rows
unfoldable pub link_byte : Hull → Try → ℕ → ℕ → ℕ
link_byte H c i j =
    cond (eqb j 0) (min c.side H.across.span + 1)
    (cond (eqb j 1) (min c.side H.down.span + 1)
    (cond (eqb j 2) (part c.origin H.across.origin i)
    (cond (eqb j 3) (part c.origin H.down.origin i)
    (cond c.own (get_or H.own (j - 4) 0) (row_byte H c i (j - 4))))))

unfoldable pub link_bytes : Hull → Try → ℕ → List ℕ
link_bytes H c i = firsts (link_byte H c i) (length_of H c)

-- the links of a candidate, one after another
unfoldable pub chain_by : Hull → Try → List ℕ
chain_by H c = joined (link_bytes H c) (links_of H c)
